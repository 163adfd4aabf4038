-- What each text means: its list of symbols, and whether it was cut.
use Rattle.std.specs.Prelude.{ℕ, ◌+◌, ◌/◌, ◌%◌, Bool, cond, ◌||◌, List, [], ◌∷◌, ◌++◌, length, take, drop, nat_le, nat_lt}
use Rattle.texts.specs.declared.either.Either.{Either}
use Rattle.texts.specs.declared.either.Either.TheVariants.{First, Second}

-- A plain text has the first 65,535 of its symbols.
abbrev pub plain_list : {S : Type 0} → List S → List S
plain_list symbols = take 65535 symbols

-- It is cut if there are more.
abbrev pub plain_cut : {S : Type 0} → List S → Bool
plain_cut symbols = nat_lt 65535 (length symbols)

-- The character of half a byte: 48 + half up to 9 (`0` to `9`), 55 + half from 10 to 15 (`A` to `F`).
abbrev pub half_digit : ℕ → ℕ
half_digit half = cond (nat_le half 9) (48 + half) (55 + half)

-- Each byte's high half, then its low half.
abbrev pub digits : List ℕ → List ℕ
digits [] = []
digits (b ∷ bytes) = half_digit (b / 16) ∷ (half_digit (b % 16) ∷ digits bytes)

-- A packed text has the digits of the first 32,767 of its bytes.
abbrev pub packed_list : List ℕ → List ℕ
packed_list bytes = digits (take 32767 bytes)

-- It is cut if there are more.
abbrev pub packed_cut : List ℕ → Bool
packed_cut bytes = nat_lt 32767 (length bytes)

-- A window has the text below without its first `skip` symbols, and of this the first `size`.
abbrev pub window_list : {S : Type 0} → ℕ → ℕ → List S → List S
window_list skip size below = take size (drop skip below)

-- A join has the first 65,535 symbols of both lists, one after the other.
abbrev pub join_list : {S : Type 0} → List S → List S → List S
join_list front back = take 65535 (front ++ back)

-- It is cut if either text is, or if their lengths sum to more.
abbrev pub join_cut : {S : Type 0} → Bool → Bool → List S → List S → Bool
join_cut front_cut back_cut front back = front_cut || (back_cut || nat_lt 65535 (length front + length back))

-- One of two texts means what that one means.
abbrev pub either : {A B M : Type 0} → (A → M) → (B → M) → Either A B → M
either first second (First text) = first text
either first second (Second text) = second text
