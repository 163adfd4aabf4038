use Rattle.std.proofs.Common.{ℕ, Bool, List, arith}
use Rattle.std.proofs.lemmas.Result.{err_from_is_err_and}
use Rattle.kinds.specs.declared.class.Class.{Class}
use Rattle.books.specs.Verdict.{too_long, unread, missing, loops, AcceptedAsSpelled, SpelledOnce, OneVerdict}
use Rattle.books.proofs.Verdicts.{accepted_as_spelled, spelled_once, one_verdict}
use Rattle.books.proofs.Tabled.{classes_refused, rules_refused, tabled}
use Rattle.books.proofs.book.read_book.Goals as goal

-- a verdict, beside the theorems, which hold of all books
told : {V : Type 0} → V → record { verdict : V; spelled : AcceptedAsSpelled; once : SpelledOnce; one : (lawful : Class → Bool) (bs : List ℕ) → OneVerdict lawful bs }
told v = record { verdict = v; spelled = accepted_as_spelled; once = spelled_once; one = one_verdict }

pub returns-then-bytes-gt-MOST_BYTES : goal.returns-then-bytes-gt-MOST_BYTES
returns-then-bytes-gt-MOST_BYTES g c = told (rw c.spot_at.ensures (too_long (omega arith)))

pub returns-in_err-classes : goal.returns-in_err-classes
returns-in_err-classes g c =
    let p = err_from_is_err_and c.from_residual.result c.from_residual.ensures.1 in
    let front = c.new-reader.ensures in
    told (rw (p.1, p.2) (unread (omega arith) (classes_refused _ _ c.new-reader.result front.bytes front.at c.in_err-classes.ensures)))

pub returns-in_err-table : goal.returns-in_err-table
returns-in_err-table g c =
    let p = err_from_is_err_and c.from_residual-in_err-table.result c.from_residual-in_err-table.ensures.1 in
    let front = c.new-reader.ensures in
    told (rw (p.1, p.2) (unread (omega arith) (rules_refused _ _ _ front.bytes front.at _ c.in_ok-classes.ensures c.in_err-table.ensures)))

pub invariant_of-book : goal.invariant_of-book
invariant_of-book g c =
    let front = c.new-reader.ensures in
    let held = tabled _ _ _ front.bytes front.at _ c.in_ok-classes.ensures _ _ c.in_ok-table.ensures in
    record { known = ∣ (_, held.lays) ∣₁ }

pub returns-in-Some : goal.returns-in-Some
returns-in-Some g c =
    let front = c.new-reader.ensures in
    let held = tabled _ _ _ front.bytes front.at _ c.in_ok-classes.ensures _ _ c.in_ok-table.ensures in
    told (rw (c.spot_at-in-Some.ensures, c.from.ensures) (missing (omega arith) held.read (c.in-Some.ensures.first _ held.lays)))

pub returns-in-Some-first_loop : goal.returns-in-Some-first_loop
returns-in-Some-first_loop g c =
    let front = c.new-reader.ensures in
    let held = tabled _ _ _ front.bytes front.at _ c.in_ok-classes.ensures _ _ c.in_ok-table.ensures in
    told (rw (c.spot_at-in-Some-first_loop.ensures, c.from-in-Some-first_loop.ensures) (loops (omega arith) held.read (c.in_default.ensures.first _ held.lays) (c.in-Some-first_loop.ensures.first _ held.lays)))

pub returns : goal.returns
returns g c =
    let front = c.new-reader.ensures in
    let held = tabled _ _ _ front.bytes front.at _ c.in_ok-classes.ensures _ _ c.in_ok-table.ensures in
    told (
      _,
      record { short = omega arith; end = _; reads = held.read; all_there = c.in_default.ensures.first _ held.lays; no_loop = c.in_default-first_loop.ensures.first _ held.lays },
      held.lays,
    )
