-- Lists that count only in their first n items.
use Rattle.std.proofs.Math.Seq.{take-set-lt}
use Rattle.std.proofs.lemmas.Option.{unwrap_or-slice_get}

-- A write among the items that count, and a read of one, or of another item in its place.
pub ruleset counted = (take-set-lt, unwrap_or-slice_get)
