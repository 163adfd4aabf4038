use Rattle.std.proofs.Common.{◌≡◌, List, ◌++◌, length}
use Rattle.grammar.specs.declared.node.Node.{Node}
use Rattle.grammar.specs.Tables.{laid}
use Rattle.analyses.specs.Rounds.{Flagged}
use Rattle.analyses.proofs.nullable.flag_nodes.Given as goal

abbrev pub invariant-loop-i : goal.invariant-loop-i
invariant-loop-i l =
    let left = l.i-iterator.iter.iter.rest.now in
    (l.i-iterator.iter.count ≡ 0)
    × (length l.flags ≡ 512)
    × ((done : List Node) × (laid l.table ≡ left ++ done))
    × Flagged (length left) (laid l.table) l.marks l.flags
