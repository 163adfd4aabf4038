use Rattle.std.specs.Prelude.{ℕ, ◌+◌, ◌*◌, Bool, ◌&&◌, ◌==◌, bit_and, nat_le}
use Rattle.kinds.specs.declared.class.Class.{Class}

-- A class of bytes is a range. It is lawful when first ≤ second ≤ 255.
abbrev pub byte_lawful : Class → Bool
byte_lawful c = nat_le c.first c.second && nat_le c.second 255

-- A byte lies in a lawful range when it is from first to second.
abbrev pub byte_contains : Class → ℕ → Bool
byte_contains c s = byte_lawful c && (nat_le c.first s && nat_le s c.second)

-- The four bytes of a command's header as one number, the first highest.
abbrev pub header_number : ℕ → ℕ → ℕ → ℕ → ℕ
header_number cla ins p1 p2 = ((cla * 256 + ins) * 256 + p1) * 256 + p2

-- A class of headers is a mask (first) and a value (second). It is lawful when the value has no bit outside the mask.
abbrev pub command_lawful : Class → Bool
command_lawful c = bit_and c.second c.first == c.second

-- A header lies in a lawful class when it has the value's bits under the mask.
abbrev pub command_contains : Class → ℕ → Bool
command_contains c h = command_lawful c && bit_and h c.first == c.second
