use Rattle.std.proofs.Common.{[], ◌∷◌, refl, arith, rules}
use Rattle.std.specs.Fmt.{digits}
use Rattle.grammar.specs.Expr.{Grammar, empty, any, term, call, seq, alt, star, not}
use Rattle.writing.proofs.tests.sample.Goals as goal

abbrev grammar : Grammar
grammar = record {
  classes = record { first = 65; second = 90 } ∷ [];
  rules = seq (term 0) (star (alt (call 1) any)) ∷ (not empty ∷ []);
}

pub invariant_of-result : goal.invariant_of-result
unfolding digits
invariant_of-result c =
    record {
      known = ∣ (
        grammar,
        record {
          classes_are = search rules;
          nodes_are = search rules;
          roots_are = search rules;
          length_is = refl;
          shallow = (omega arith, (omega arith, tt));
        },
      ) ∣₁;
    }
