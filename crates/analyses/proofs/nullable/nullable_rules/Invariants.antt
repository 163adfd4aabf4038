use Rattle.grammar.specs.Expr.{Grammar}
use Rattle.grammar.specs.Held.{Holds}
use Rattle.analyses.specs.Nulls.{Sound}
use Rattle.analyses.specs.Rounds.{unmarked}
use Rattle.analyses.proofs.nullable.nullable_rules.Given as goal

abbrev pub invariant-loop-marks : goal.invariant-loop-marks
invariant-loop-marks l = (g : Grammar) → Holds l.book g → Sound g.rules l.marks

abbrev pub decreases-loop-marks : goal.decreases-loop-marks
decreases-loop-marks l = unmarked l.marks
