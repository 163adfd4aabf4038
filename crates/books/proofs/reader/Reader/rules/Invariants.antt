use Rattle.std.proofs.Common.{◌-◌, length}
use Rattle.grammar.specs.Tables.{listed}
use Rattle.books.specs.Steps.{Begun}
use Rattle.books.proofs.reader.Reader.rules.Given as goal

abbrev pub invariant-loop-roots : goal.invariant-loop-roots
invariant-loop-roots l = Begun l.fn.self l.table l.roots l.self

abbrev pub decreases-loop-roots : goal.decreases-loop-roots
decreases-loop-roots l = 32 - length (listed l.roots)
