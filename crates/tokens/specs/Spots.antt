-- The line and the spot of a byte place.
use Rattle.std.specs.Prelude.{ℕ, ◌+◌, Bool, List, take, count_by, ◌==◌}
use Rattle.tokens.specs.declared.spot.Spot.{Spot}

-- The byte that ends a line.
abbrev pub line_feed : ℕ → Bool
line_feed b = b == 10

-- The line of a place, counted from 1: one more than the line feeds before it.
abbrev pub line_of : List ℕ → ℕ → ℕ
line_of bs p = 1 + count_by line_feed (take p bs)

-- A place with its line.
abbrev pub spot : List ℕ → ℕ → Spot
spot bs p = record { place = p; line = line_of bs p }
