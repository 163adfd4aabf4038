-- The part of a line that is shown around a place.
use Rattle.std.specs.Prelude.{ℕ, ◌+◌, ◌-◌, min, max, Bool, nat_lt}
use Rattle.checking.specs.declared.line.Line.{Line}
use Rattle.checking.specs.declared.excerpt.Excerpt.{Excerpt}

-- At most 40 bytes before the place, and at most 20 from it on.
abbrev pub shown_from : Line → ℕ → ℕ
shown_from line place = max (place - 40) line.start

abbrev pub shown_to : Line → ℕ → ℕ
shown_to line place = min (place + 20) line.end

-- What is shown of the line around the place.
abbrev pub excerpt_of : Line → ℕ → Excerpt
excerpt_of line place = record { line = line; from = shown_from line place; to = shown_to line place }

-- Whether the line goes on past either end.
abbrev pub cut_before : Excerpt → Bool
cut_before e = nat_lt e.line.start e.from

abbrev pub cut_after : Excerpt → Bool
cut_after e = nat_lt e.to e.line.end
