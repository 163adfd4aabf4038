use Rattle.std.proofs.Common.{◌≡◌, drop}
use Rattle.std.specs.List.{find}
use Rattle.grammar.specs.Tables.{laid}
use Rattle.analyses.specs.Search.{lacks}
use Rattle.analyses.proofs.missing.first_missing.Given as goal

abbrev pub invariant-loop-node : goal.invariant-loop-node
invariant-loop-node l = find (λ n. lacks l.classes l.rules n.operator) (drop l.node-index (laid l.book.table)) ≡ find (λ n. lacks l.classes l.rules n.operator) (laid l.book.table)
