-- What stands at a place of a list that was taken, joined or unpacked from another.
use Rattle.std.proofs.Common.{Bor, Option, ◌≡◌, ℕ, zero, suc, ◌-◌, ◌*◌, ◌/◌, ◌%◌, ◌<◌, ◌≤◌, List, [], ◌∷◌, ◌++◌, min, length, take, Some, None, cond, nat_eq, refl, ap, ◌∙◌, sym, arith, length-take, length-append, ◌+◌, take_all}
use Rattle.std.specs.List.{slice_get}
use Rattle.std.specs.Slice.{IsItemAt}
use Rattle.std.specs.Option.{option_copied, option_map}
use Rattle.std.proofs.lemmas.Grind.{common_steps}
use Rattle.std.proofs.lemmas.Option.{gets, slice_get_cases, slice_get_past}
use Rattle.std.proofs.lemmas.List.{take_min, take-take}
use Rattle.texts.specs.Lists.{half_digit, digits, packed_list}

pub nth_past : {X : Type 0} (n : ℕ) (xs : List X) (i : ℕ) → n ≤ i → None ≡ slice_get (take n xs) i
nth_past n xs i h = grind (arith, common_steps, gets)

pub nth_front : {X : Type 0} (n : ℕ) (xs ys : List X) (i : ℕ) → i < n → i < length xs → slice_get xs i ≡ slice_get (take n (xs ++ ys)) i
nth_front n xs ys i h k = grind (arith, common_steps, gets, slice_get_cases xs i, slice_get_cases (take n (xs ++ ys)) i)

pub nth_back : {X : Type 0} (n : ℕ) (xs ys : List X) (i : ℕ) → i < n → length xs ≤ i → slice_get ys (i - length xs) ≡ slice_get (take n (xs ++ ys)) i
nth_back n xs ys i h k = grind (arith, common_steps, gets, slice_get_cases ys (i - length xs), slice_get_cases (take n (xs ++ ys)) i)

-- As much as a front has, taken again, is the front.
take_front : {X : Type 0} (n k : ℕ) (xs : List X) → k ≡ length (take n xs) → take k xs ≡ take n xs
take_front n k xs e = let h : k ≡ min n (length xs) = simp length-take at e in rw h (take_min n xs)

-- The symbol at a place, as `get` of what was taken gives it.
pub copied_get : {X : Type 0} (n k : ℕ) (xs : List X) (i : ℕ) (r : Option (Bor X)) →
    k ≡ length (take n xs) → IsItemAt (take k xs) i r → option_copied r ≡ slice_get (take n xs) i
copied_get n k xs i None e h = let f = take_front n k xs e in grind (arith, common_steps, gets)
copied_get n k xs i (Some x) e h = let f = take_front n k xs e in grind (arith, common_steps, gets)

-- The digits of bytes: two of each, the high half first.
length_digits : (bytes : List ℕ) → length (digits bytes) ≡ 2 * length bytes
length_digits [] = refl
length_digits (b ∷ bytes) = omega (arith, length_digits bytes)

digit_at : (bytes : List ℕ) (i : ℕ) → slice_get (digits bytes) i ≡ option_map (λ b. half_digit (cond (nat_eq (i % 2) 0) (b / 16) (b % 16))) (slice_get bytes (i / 2))
digit_at [] i = refl
digit_at (b ∷ bytes) zero = refl
digit_at (b ∷ bytes) (suc zero) = refl
digit_at (b ∷ bytes) (suc (suc i)) =
    let half : suc (suc i) / 2 ≡ suc (i / 2) = omega arith in
    let rest : suc (suc i) % 2 ≡ i % 2 = omega arith in
    rw (half, rest) (digit_at bytes i)

-- A packed text holds no more bytes than it takes, so that its symbols are the digits of all of them.
whole : (bytes : List ℕ) → length bytes ≤ 32767 → digits bytes ≡ packed_list bytes
whole bytes short = ap digits (sym (take_all 32767 bytes short))

pub length_packed : (bytes : List ℕ) → length bytes ≤ 32767 → 2 * length bytes ≡ length (packed_list bytes)
length_packed bytes short = sym (length_digits bytes) ∙ ap length (whole bytes short)

packed_at : (bytes : List ℕ) (i : ℕ) → length bytes ≤ 32767 →
    slice_get (packed_list bytes) i ≡ option_map (λ b. half_digit (cond (nat_eq (i % 2) 0) (b / 16) (b % 16))) (slice_get bytes (i / 2))
packed_at bytes i short = rw (← whole bytes short) (digit_at bytes i)

pub packed_past : (bytes : List ℕ) (i : ℕ) → length bytes ≤ 32767 → length bytes ≤ i / 2 → None ≡ slice_get (packed_list bytes) i
packed_past bytes i short h = rw (packed_at bytes i short, slice_get_past bytes (i / 2) h) refl

pub packed_high : (bytes : List ℕ) (i b : ℕ) → length bytes ≤ 32767 → i % 2 ≡ 0 → slice_get bytes (i / 2) ≡ Some b →
    Some (half_digit (b / 16)) ≡ slice_get (packed_list bytes) i
packed_high bytes i b short even at = rw (packed_at bytes i short, at, even) refl

pub packed_low : (bytes : List ℕ) (i b : ℕ) → length bytes ≤ 32767 → (i % 2 ≡ 0 → ⊥) → slice_get bytes (i / 2) ≡ Some b →
    Some (half_digit (b % 16)) ≡ slice_get (packed_list bytes) i
packed_low bytes i b short odd at = let one : i % 2 ≡ 1 = omega arith in rw (packed_at bytes i short, at, one) refl

-- What is taken of bytes is their front, and packs to the same list.
module _ (k : ℕ) (bytes : List ℕ) (e : k ≡ min (length bytes) 32767) where
  pub taken : take k bytes ≡ take 32767 bytes
  taken = take_front 32767 k bytes (simp length-take (omega arith))

  pub taken_packed : packed_list (take k bytes) ≡ packed_list bytes
  taken_packed = ap packed_list taken ∙ ap digits (take-take 32767 32767 bytes (omega arith))

-- How long a plain text and a join are.
pub length_plain : {X : Type 0} (xs : List X) → length (take 65535 xs) ≡ min (length xs) 65535
length_plain xs = simp length-take (omega arith)

pub length_join : {X : Type 0} (xs ys : List X) → length (take 65535 (xs ++ ys)) ≡ min (length xs + length ys) 65535
length_join xs ys = simp (length-take, length-append) (omega arith)
