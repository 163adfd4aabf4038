-- The line that a place stands on.
use Rattle.std.specs.Prelude.{◌≡◌, ℕ, ◌-◌, ◌<◌, ◌≤◌, min, List, length, ◌≢◌, slice_index}
use Rattle.checking.specs.declared.line.Line.{Line}

-- No byte from a up to b is a line feed.
abbrev pub OneLine : List ℕ → ℕ → ℕ → Type 0
OneLine bs a b = (k : ℕ) → a ≤ k → k < b → slice_index bs k ≢ 10

-- The line of the place p starts at a: at the bytes' start, or just after a line feed.
pub record Starts (bs : List ℕ) (p a : ℕ) : Type 0 where
  pub before : a ≤ p
  pub one_line : OneLine bs a p
  pub first : (0 < a → slice_index bs (a - 1) ≡ 10)

-- The line of the place p ends at b: at the bytes' end, or at a line feed.
pub record Ends (bs : List ℕ) (p b : ℕ) : Type 0 where
  pub after : p ≤ b
  pub within : b ≤ length bs
  pub one_line : OneLine bs p b
  pub last : (b < length bs → slice_index bs b ≡ 10)

-- The line of a place, which past the bytes is taken for their end.
pub record Around (bs : List ℕ) (place : ℕ) (line : Line) : Type 0 where
  pub starts : Starts bs (min place (length bs)) line.start
  pub ends : Ends bs (min place (length bs)) line.end
