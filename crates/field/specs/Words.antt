use Rattle.std.specs.Prelude.{◌≡◌, ℕ, ◌^◌, ◌<◌, List}
use Rattle.std.specs.Str.Parse.{IsNumeral, digits_value, without_leading_plus}

-- A word is a number of 16 bits: decimal digits, a plus sign allowed before them, worth less than 65,536.
pub record Number (word : List ℕ) (n : ℕ) : Type 0 where
  pub numeral : IsNumeral 10 (without_leading_plus word)
  pub worth : digits_value 10 (without_leading_plus word) ≡ n
  pub small : n < 2 ^ 16
