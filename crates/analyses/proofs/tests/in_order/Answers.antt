use Rattle.std.proofs.Common.{[], ◌∷◌, refl, arith, rules}
use Rattle.std.specs.Fmt.{digits}
use Rattle.grammar.specs.Expr.{any, star, Grammar}
use Rattle.analyses.proofs.tests.in_order.Goals as goal

abbrev book : Grammar
book = record { classes = []; rules = (star any) ∷ [] }

pub invariant_of-result : goal.invariant_of-result
unfolding digits
invariant_of-result c =
    record { known = ∣ (book, record { classes_are = search rules; nodes_are = search rules; roots_are = search rules; length_is = refl; shallow = (omega arith, tt) }) ∣₁ }
