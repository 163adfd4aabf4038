use Rattle.std.proofs.Common.{[], ◌∷◌, refl, arith, rules}
use Rattle.std.specs.Fmt.{digits}
use Rattle.grammar.specs.Expr.{empty, call, star, Grammar}
use Rattle.analyses.proofs.tests.through_two_rules.Goals as goal

abbrev book : Grammar
book = record { classes = []; rules = (star (call 1)) ∷ (call 2) ∷ empty ∷ [] }

pub invariant_of-result : goal.invariant_of-result
unfolding digits
invariant_of-result c =
    record { known = ∣ (book, record { classes_are = search rules; nodes_are = search rules; roots_are = search rules; length_is = refl; shallow = (omega arith, (omega arith, (omega arith, tt))) }) ∣₁ }
