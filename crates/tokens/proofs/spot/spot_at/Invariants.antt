use Rattle.std.proofs.Common.{◌≡◌}
use Rattle.tokens.specs.Spots.{line_of}
use Rattle.tokens.proofs.spot.spot_at.Given as goal

abbrev pub invariant-loop-byte : goal.invariant-loop-byte
invariant-loop-byte l = l.line ≡ line_of l.before l.byte-index
