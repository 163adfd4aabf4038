use Rattle.std.proofs.Common.{[], ◌∷◌, sym, ◌∙◌, rules}
use Rattle.stack.specs.Held.{held}
use Rattle.writing.proofs.Ends.{closed}
use Rattle.writing.proofs.Puts.{one_more}
use Rattle.writing.proofs.writer.Writer.put_closings.Goals as goal

pub loop-stack-preserved : goal.loop-stack-preserved
loop-stack-preserved c =
    let k = closed c.args.next (held c.loop-stack.stack) (held c.pop.new.self) c.pop.result (sym c.ends_at.ensures ∙ c.loop-stack-test.true) c.pop.ensures.taken in
    record { bytes = one_more {a = 41 ∷ []} c.loop-stack.invariant.bytes k.bracket c.put.ensures; others = sym k.others ∙ c.loop-stack.invariant.others; same = search rules }
