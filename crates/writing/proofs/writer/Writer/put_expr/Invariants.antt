use Rattle.std.proofs.Common.{◌≡◌, ◌+◌, [], length, drop}
use Rattle.grammar.specs.Tables.{laid}
use Rattle.stack.specs.Held.{held}
use Rattle.writing.specs.Walk.{ends, walked}
use Rattle.writing.proofs.Puts.{Partly}
use Rattle.writing.proofs.writer.Writer.put_expr.Given as goal

abbrev pub invariant-loop-i : goal.invariant-loop-i
invariant-loop-i l = record {
  bytes : Partly (walked l.fn.start [] (drop l.fn.start (laid l.table))) (walked (l.first + l.i) (ends (held l.stack)) (drop l.i l.nodes)) l.initial.self l.self;
  size : length l.stack.records.now ≡ 64;
}
