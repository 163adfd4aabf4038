use Rattle.std.proofs.Common.{length, sym, ◌∙◌, arith, rules}
use Rattle.std.proofs.lemmas.Bool.{eqb-true, eqb-false}
use Rattle.books.proofs.Ruled.{room, longer, begun_no, begun_more, begun_done}
use Rattle.books.proofs.reader.Reader.rules.Goals as goal

pub returns-in_err-rule : goal.returns-in_err-rule
returns-in_err-rule c =
    let e = begun_no _ c.loop-roots.table _ _ c.loop-roots.invariant _ (omega arith) c.in_err-rule.ensures in
    search rules

pub returns-then-is_done : goal.returns-then-is_done
returns-then-is_done c =
    begun_done _ _ _ _ c.loop-roots.invariant _ (omega arith) _ _ c.in_ok-rule.ensures _ _ c.count-root.ensures c.push.ensures (eqb-true _ _ (sym c.is_done.ensures ∙ c.if-is_done.true))

pub loop-roots-smaller : goal.loop-roots-smaller
loop-roots-smaller c =
    let b = c.loop-roots.invariant in
    let line = c.in_ok-rule.ensures in
    omega (arith, room _ _ _ _ b _ (omega arith) _ _ line _ _ c.count-root.ensures c.push.ensures, longer _ _ _ _ b _ (omega arith) _ _ line _ _ c.count-root.ensures c.push.ensures)

pub loop-roots-preserved : goal.loop-roots-preserved
loop-roots-preserved c =
    let r = c.rule.new.self in
    let apart = eqb-false r.at (length r.bytes.now) (sym c.is_done.ensures ∙ c.if-is_done.false) in
    begun_more _ _ _ _ c.loop-roots.invariant _ (omega arith) _ _ c.in_ok-rule.ensures _ _ c.count-root.ensures c.push.ensures (omega (arith, r.within))
