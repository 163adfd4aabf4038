use Rattle.std.proofs.Common.{arith, rules}
use Rattle.std.proofs.lemmas.Result.{MatchResult-weaker}
use Rattle.std.proofs.lemmas.Grind.{common_steps}
use Rattle.books.specs.Reading.{bracketed, operands}
use Rattle.books.specs.Steps.{rest, count}
use Rattle.books.proofs.Outs.{expression_some}
use Rattle.books.proofs.Grows.{grown_count, operand_refused, grown_operand, reserved, filled_leaf, filled_number, filled_one, filled_two, grown}
use Rattle.books.proofs.reader.Reader.+exprs.Goals as goal

pub expr-returns-in_err-expect-2 : goal.expr-returns-in_err-expect-2
unfolding bracketed
expr-returns-in_err-expect-2 t c =
    let v = reserved _ _ c.in-Some.ensures.slot c.in-Some.ensures.laid in
    let e = expression_some c.args.self.now.bytes.now c.args.left (count c.args.table.now) c.args.self.now.at (rest c.args.self.now) (omega arith) in
    grind (arith, common_steps)

pub expr-returns : goal.expr-returns
expr-returns t c =
    let v = reserved _ _ c.in-Some.ensures.slot c.in-Some.ensures.laid in
    grown c.args.left (omega arith) c.args.self.now _ _ _ _ v c.in_ok-expect.ensures c.in_ok-head.ensures c.in_ok-operator.ensures c.in_ok-expect-2.ensures c.fill.ensures

pub operand-returns : goal.operand-returns
operand-returns t c =
    let o = c.in_ok-expect.ensures in
    MatchResult-weaker c.expr.result c.expr.ensures (λ _ g. grown_operand _ c.args.self.now _ o _ g) (λ e h. operand_refused _ c.args.self.now _ o h)

pub operands-returns-in_err-operand-in-Two-2 : goal.operands-returns-in_err-operand-in-Two-2
unfolding operands
operands-returns-in_err-operand-in-Two-2 t c = let counted = grown_count c.in_ok-operand-in-Two.ensures in search rules

pub operands-returns-in-Leaf : goal.operands-returns-in-Leaf
operands-returns-in-Leaf t c = filled_leaf _ _ _ _ _ c.in-Leaf.is _ c.from.ensures

pub operands-returns-in_ok-value-in-Numbered : goal.operands-returns-in_ok-value-in-Numbered
operands-returns-in_ok-value-in-Numbered t c =
    filled_number _ _ _ _ _ c.in-Numbered.is _ c.operator.ensures c.in_ok-expect-in-Numbered.ensures c.in_ok-value-in-Numbered.ensures

pub operands-returns-in_ok-operand-in-One : goal.operands-returns-in_ok-operand-in-One
operands-returns-in_ok-operand-in-One t c = filled_one _ _ _ _ _ c.in-One.is _ c.from-in-One.ensures c.in_ok-operand-in-One.ensures

pub operands-returns-in_ok-operand-in-Two-2 : goal.operands-returns-in_ok-operand-in-Two-2
operands-returns-in_ok-operand-in-Two-2 t c =
    filled_two _ _ _ _ _ c.in-Two.is _ c.from-in-Two.ensures _ _ c.in_ok-operand-in-Two.ensures c.in_ok-operand-in-Two-2.ensures
