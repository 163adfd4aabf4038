-- How bytes are shown on a terminal.
use Rattle.std.specs.Prelude.{ℕ, ◌+◌, ◌-◌, ◌/◌, ◌%◌, Bool, cond, ◌&&◌, List, [], ◌∷◌, ◌==◌, nat_le, nat_lt}
use Rattle.std.specs.List.{flat_map}

-- The characters from the space to `~`.
abbrev pub printable : ℕ → Bool
printable b = nat_le 32 b && nat_le b 126

-- The hexadecimal digit of a number below 16: `0` to `9`, then `a` to `f`.
abbrev pub hex : ℕ → ℕ
hex h = cond (nat_lt h 10) (48 + h) (97 + (h - 10))

-- A backslash twice, a printable byte as itself, any other as `\x` and two digits.
abbrev pub escape_of : ℕ → List ℕ
escape_of b =
    cond (b == 92) (92 ∷ 92 ∷ [])
    (cond (printable b) (b ∷ [])
    (92 ∷ 120 ∷ hex (b / 16) ∷ hex (b % 16) ∷ []))

-- Bytes one after another.
abbrev pub escapes : List ℕ → List ℕ
escapes bs = flat_map escape_of bs
