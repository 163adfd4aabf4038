use Rattle.std.proofs.Common.{◌≡◌, length}
use Rattle.stack.specs.Held.{held, SameLoan}
use Rattle.writing.specs.Walk.{ends, closings, still_open}
use Rattle.writing.proofs.Puts.{Partly}
use Rattle.writing.proofs.writer.Writer.put_closings.Given as goal

abbrev pub invariant-loop-stack : goal.invariant-loop-stack
invariant-loop-stack l = record {
  bytes : Partly (closings l.next (ends (held l.initial.stack))) (closings l.next (ends (held l.stack))) l.initial.self l.self;
  others : still_open l.next (ends (held l.stack)) ≡ still_open l.next (ends (held l.initial.stack));
  same : SameLoan l.initial.stack l.stack;
}

abbrev pub decreases-loop-stack : goal.decreases-loop-stack
decreases-loop-stack l = length (held l.stack)
