use Rattle.analyses.proofs.Decided.{nullable_decided, unmarked_sound}
use Rattle.analyses.proofs.Rounds.{round_sound, round_right}
use Rattle.analyses.proofs.nullable.nullable_rules.Goals as goal

pub loop-marks-init : goal.loop-marks-init
loop-marks-init c = λ g h. unmarked_sound g.rules 32

pub loop-marks-preserved : goal.loop-marks-preserved
loop-marks-preserved c = λ g h. round_sound c.args.book.now _ _ _ _ c.flag_nodes-flags.ensures c.mark_rules.ensures g h (c.loop-marks.invariant g h)

pub returns-then-not-mark_rules-clause-right : goal.returns-then-not-mark_rules-clause-right
returns-then-not-mark_rules-clause-right c = λ g h. round_right c.args.book.now _ _ _ _ c.flag_nodes-flags.ensures c.mark_rules.ensures g h c.if-not-mark_rules.true (c.loop-marks.invariant g h)

pub returns-then-not-mark_rules-clause-decided : goal.returns-then-not-mark_rules-clause-decided
returns-then-not-mark_rules-clause-decided c = nullable_decided
