use Rattle.std.proofs.Common.{arith}
use Rattle.analyses.proofs.Rounds.{round_skip, round_mark}
use Rattle.analyses.proofs.nullable.mark_rules.Goals as goal
use Rattle.analyses.proofs.nullable.mark_rules.Goals.{then-not-marks-n+then-flag_at, else-not-marks-n, else-not-marks-n-via-then-not-marks-n+else-flag_at, else-not-marks-n-via-else-not-marks-n}

pub loop-n-preserved : goal.loop-n-preserved
loop-n-preserved c =
    elim c.if-not-marks-n.branch [
      | then-not-marks-n+then-flag_at w ↦
          round_mark c.loop-n.n _ _ _ _ _ c.loop-n.invariant c.if-not-marks-n.marks c.if-not-marks-n.changed (cc) (cc) (omega arith) (cc) (cc)
      | else-not-marks-n w ↦ rw (w.marks-is, w.changed-is) (round_skip c.loop-n.n _ _ _ _ _ c.loop-n.invariant
          (elim w.else-not-marks-n.branch [
            | else-not-marks-n-via-then-not-marks-n+else-flag_at u ↦ λ flagged. cc
            | else-not-marks-n-via-else-not-marks-n u ↦ λ flagged. cc
          ]))
    ]
