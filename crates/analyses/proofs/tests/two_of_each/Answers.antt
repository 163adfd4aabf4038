use Rattle.std.proofs.Common.{[], ◌∷◌, refl, arith, rules}
use Rattle.std.specs.Fmt.{digits}
use Rattle.grammar.specs.Expr.{empty, term, call, seq, alt, star, Grammar}
use Rattle.analyses.proofs.tests.two_of_each.Goals as goal

abbrev book : Grammar
book = record { classes = []; rules = (seq (call 0) (star (call 0))) ∷ (star (alt (term 7) empty)) ∷ (star (call 1)) ∷ (call 4) ∷ [] }

pub invariant_of-result : goal.invariant_of-result
unfolding digits
invariant_of-result c =
    record { known = ∣ (book, record { classes_are = search rules; nodes_are = search rules; roots_are = search rules; length_is = refl; shallow = (omega arith, (omega arith, (omega arith, (omega arith, tt)))) }) ∣₁ }
