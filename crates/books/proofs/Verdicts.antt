-- Every book has one verdict, and it is accepted exactly when an allowed grammar spells it.
use Rattle.std.proofs.Common.{◌≡◌, ℕ, ◌<◌, ◌≤◌, Bool, ◌⊎◌, List, [], length, Some, None as None', Option, sym, refl, ap, ◌∙◌, subst, inl, inr, ⊎_elim, arith}
use Rattle.std.proofs.lemmas.Bool.{cases_lt}
use Rattle.kinds.specs.declared.class.Class.{Class}
use Rattle.tokens.specs.Out.{Out, ok, no}
use Rattle.grammar.specs.Expr.{Grammar}
use Rattle.grammar.specs.Spelling.{spelling}
use Rattle.grammar.specs.Allowed.{Missing, Loop, None, Earliest, Found, expressions, Within}
use Rattle.analyses.proofs.Decided.{missing_found, loop_found, missing_once, loop_once}
use Rattle.books.specs.declared.fault.BookFault.{BookFault}
use Rattle.books.specs.Reading.{reading}
use Rattle.books.specs.Verdict.{Accepts, Refuses, too_long, unread, missing, loops, AcceptedAsSpelled, SpelledOnce, OneVerdict}
use Rattle.books.proofs.Lexed.{Gives, given}
use Rattle.books.proofs.Grows.{given_at}
use Rattle.books.proofs.Spelled.{reading_sound, reading_complete}
use Rattle.books.proofs.Once.{grammar_once}

pub accepted_as_spelled : AcceptedAsSpelled
accepted_as_spelled lawful bs g = (
  (λ a.
      let p = given_at (reading_sound lawful bs) a.reads in
      (p.0, record { within = p.1; short = subst (λ k. length k ≤ 32768) p.0 a.short; all_there = a.all_there; no_loop = a.no_loop })),
  λ h.
      let c = reading_complete lawful g h.1.within in
      record { short = subst (λ k. length k ≤ 32768) (sym h.0) h.1.short; end = c.0; reads = ap (reading lawful) h.0 ∙ c.1; all_there = h.1.all_there; no_loop = h.1.no_loop },
)

pub spelled_once : SpelledOnce
spelled_once = grammar_once

module _ (lawful : Class → Bool) (bs : List ℕ) where
  -- a book of a length that is allowed and that was read as g
  judged : length bs ≤ 32768 → (g : Grammar) (end : ℕ) → reading lawful bs ≡ ok g end [] → (r s : Option ℕ) → Found (Missing g) (expressions g) r → Found (Loop g) (expressions g) s → ((h : Grammar) × Accepts lawful bs h) ⊎ ((e : BookFault) × Refuses lawful bs e)
  judged short g end e (Some p) s m l = inr (_, missing short e m)
  judged short g end e None' (Some p) m l = inr (_, loops short e m l)
  judged short g end e None' None' m l = inl (g, record { short = short; end = end; reads = e; all_there = m; no_loop = l })

  outcome : length bs ≤ 32768 → (o : Out BookFault Grammar) → Gives (λ g a ys. (bs ≡ spelling g) × Within lawful g × (ys ≡ [])) o → reading lawful bs ≡ o → ((h : Grammar) × Accepts lawful bs h) ⊎ ((e : BookFault) × Refuses lawful bs e)
  outcome short (no e) h q = inr (e, unread short q)
  outcome short (ok g end ys) (given h) q =
      let m = missing_found g in
      let l = loop_found g in
      judged short g end (q ∙ ap (λ k. ok g end k) h.2) m.0 l.0 m.1 l.1

  some_verdict : ((h : Grammar) × Accepts lawful bs h) ⊎ ((e : BookFault) × Refuses lawful bs e)
  some_verdict =
      ⊎_elim (λ (long : 32768 < length bs). inr (_, too_long long)) (λ (short : length bs ≤ 32768). outcome short (reading lawful bs) (reading_sound lawful bs) refl) (cases_lt 32768 (length bs))

  not_both : (g : Grammar) (e : BookFault) → Accepts lawful bs g → Refuses lawful bs e → ⊥
  not_both g e a (too_long l) = let s = a.short in omega arith
  not_both g e a (unread s q) = cc
  not_both g e a (missing {g = h} s q m) =
      let same : g ≡ h = cc in
      let once = missing_once h (Some _) None' m (subst (λ k. None (Missing k) (expressions k)) same a.all_there) in
      cc
  not_both g e a (loops {g = h} s q m l) =
      let same : g ≡ h = cc in
      let once = loop_once h (Some _) None' l (subst (λ k. None (Loop k) (expressions k)) same a.no_loop) in
      cc

  one_fault : (e d : BookFault) → Refuses lawful bs e → Refuses lawful bs d → e ≡ d
  one_fault e d (too_long l) (too_long k) = refl
  one_fault e d (too_long l) (unread s q) = absurd (omega arith)
  one_fault e d (too_long l) (missing s q m) = absurd (omega arith)
  one_fault e d (too_long l) (loops s q m k) = absurd (omega arith)
  one_fault e d (unread s q) (too_long l) = absurd (omega arith)
  one_fault e d (unread s q) (unread t r) = cc
  one_fault e d (unread s q) (missing t r m) = cc
  one_fault e d (unread s q) (loops t r m k) = cc
  one_fault e d (missing s q m) (too_long l) = absurd (omega arith)
  one_fault e d (missing s q m) (unread t r) = cc
  one_fault e d (missing {g = g} {place = a} s q m) (missing {g = h} {place = b} t r n) =
      let same : h ≡ g = cc in
      let once = missing_once g (Some a) (Some b) m (subst (λ k. Earliest (Missing k) (expressions k) b) same n) in
      cc
  one_fault e d (missing {g = g} {place = a} s q m) (loops {g = h} t r n k) =
      let same : h ≡ g = cc in
      let once = missing_once g (Some a) None' m (subst (λ k. None (Missing k) (expressions k)) same n) in
      cc
  one_fault e d (loops s q m k) (too_long l) = absurd (omega arith)
  one_fault e d (loops s q m k) (unread t r) = cc
  one_fault e d (loops {g = g} {place = a} s q m k) (missing {g = h} {place = b} t r n) =
      let same : g ≡ h = cc in
      let once = missing_once h (Some b) None' n (subst (λ k. None (Missing k) (expressions k)) same m) in
      cc
  one_fault e d (loops {g = g} {place = a} s q m k) (loops {g = h} {place = b} t r n j) =
      let same : h ≡ g = cc in
      let once = loop_once g (Some a) (Some b) k (subst (λ k. Earliest (Loop k) (expressions k) b) same j) in
      cc

  pub one_verdict : OneVerdict lawful bs
  one_verdict = record { some = some_verdict; not_both = not_both; one_fault = one_fault; one_grammar = λ g h a b. cc }
