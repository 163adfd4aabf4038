-- Each text's list has at most 65,535 symbols.
use Rattle.std.specs.Prelude.{◌≡◌, ℕ, zero, suc, ◌+◌, ◌≤◌, List, [], ◌∷◌, ◌++◌, length, take, drop}
use Rattle.std.proofs.Common.{zero-le, suc-le-suc, sym, ◌∙◌, ap, subst, le_trans, suc-add, add-suc, lit≤, length-take, length-drop}
use Rattle.std.proofs.Math.Nat.{min-le_left, min-le_right, sub-le}
use Rattle.texts.specs.declared.either.Either.{Either}
use Rattle.texts.specs.declared.either.Either.TheVariants.{First, Second}
use Rattle.texts.specs.Lists.{plain_list, digits, packed_list, window_list, join_list, either}

take_at_most : {S : Type 0} (n : ℕ) (xs : List S) → length (take n xs) ≤ n
take_at_most n xs = subst (λ m. m ≤ n) (sym (length-take n xs)) (min-le_left n (length xs))

take_no_longer : {S : Type 0} (n : ℕ) (xs : List S) → length (take n xs) ≤ length xs
take_no_longer n xs = subst (λ m. m ≤ length xs) (sym (length-take n xs)) (min-le_right n (length xs))

drop_no_longer : {S : Type 0} (n : ℕ) (xs : List S) → length (drop n xs) ≤ length xs
drop_no_longer n xs = subst (λ m. m ≤ length xs) (sym (length-drop n xs)) (sub-le (length xs) n)

digits_at_most : (n : ℕ) (bytes : List ℕ) → length (digits (take n bytes)) ≤ n + n
digits_at_most zero bytes = zero-le
digits_at_most (suc n) [] = zero-le
digits_at_most (suc n) (b ∷ bytes) =
    let two_more : suc (suc (n + n)) ≡ suc n + suc n = sym (suc-add n (suc n) ∙ ap suc (add-suc n n)) in
    subst (λ m. suc (suc (length (digits (take n bytes)))) ≤ m) two_more (suc-le-suc (suc-le-suc (digits_at_most n bytes)))

pub plain_short : {S : Type 0} (symbols : List S) → length (plain_list symbols) ≤ 65535
plain_short symbols = take_at_most 65535 symbols

pub packed_short : (bytes : List ℕ) → length (packed_list bytes) ≤ 65535
packed_short bytes = le_trans (digits_at_most 32767 bytes) (lit≤ tt)

pub window_short : {S : Type 0} (skip size : ℕ) (below : List S) → length below ≤ 65535 → length (window_list skip size below) ≤ 65535
window_short skip size below short =
    le_trans (take_no_longer size (drop skip below)) (le_trans (drop_no_longer skip below) short)

pub join_short : {S : Type 0} (front back : List S) → length (join_list front back) ≤ 65535
join_short front back = take_at_most 65535 (front ++ back)

pub either_short : {A B S : Type 0} (f : A → List S) (g : B → List S) →
    ((a : A) → length (f a) ≤ 65535) → ((b : B) → length (g b) ≤ 65535) →
    (e : Either A B) → length (either f g e) ≤ 65535
either_short f g short_f short_g (First a) = short_f a
either_short f g short_f short_g (Second b) = short_g b
