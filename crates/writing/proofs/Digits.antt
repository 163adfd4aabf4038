-- The digits of short numbers.
use Rattle.std.proofs.Common.{◌≡◌, ℕ, ◌+◌, ◌<◌, ◌≤◌, ◌/◌, ◌%◌, [], ◌∷◌, ◌++◌, decimal, ap, ◌∙◌, arith}
use Rattle.std.proofs.lemmas.Fmt.{decimal_digit, decimal_step}

pub one_digit : {n d : ℕ} → n < 10 → d ≡ 48 + n % 10 → decimal n ≡ d ∷ []
one_digit {n = n} h is_d = rw is_d (decimal_digit n h ∙ ap (λ d. (48 + d) ∷ []) (omega arith))

pub two_digits : {n d e : ℕ} → 10 ≤ n → n < 100 → d ≡ 48 + (n / 10) % 10 → e ≡ 48 + n % 10 → decimal n ≡ d ∷ e ∷ []
two_digits {n = n} h k is_d is_e = rw is_e (decimal_step n h (omega arith) ∙ ap (λ ds. ds ++ ((48 + n % 10) ∷ [])) (one_digit (omega arith) is_d))

pub three_digits : {n d e f : ℕ} → 100 ≤ n → n < 1000 → d ≡ 48 + (n / 100) % 10 → e ≡ 48 + (n / 10) % 10 → f ≡ 48 + n % 10 → decimal n ≡ d ∷ e ∷ f ∷ []
three_digits {n = n} h k is_d is_e is_f =
    rw is_f (decimal_step n (omega arith) (omega arith) ∙ ap (λ ds. ds ++ ((48 + n % 10) ∷ [])) (two_digits (omega arith) (omega arith) (is_d ∙ ap (λ m. 48 + m % 10) (omega arith)) is_e))
