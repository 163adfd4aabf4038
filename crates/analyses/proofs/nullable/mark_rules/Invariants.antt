use Rattle.grammar.specs.Tables.{listed}
use Rattle.analyses.specs.Rounds.{Round}
use Rattle.analyses.proofs.nullable.mark_rules.Given as goal

abbrev pub invariant-loop-n : goal.invariant-loop-n
invariant-loop-n l = Round l.n (listed l.roots) l.flags l.initial.marks l.marks l.changed
