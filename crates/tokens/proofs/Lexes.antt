-- What digits begin, and the number that they write.
use Rattle.std.proofs.Common.{◌≡◌, ℕ, ◌+◌, ◌-◌, ◌*◌, ◌<◌, ◌≤◌, List, [], ◌∷◌, length, get_or, drop, arith}
use Rattle.std.proofs.lemmas.List.{at_drop_more}
use Rattle.std.proofs.lemmas.Bool.{ne_eqb, le-leb, lt-leb}
use Rattle.std.specs.List.{prefix_len}
use Rattle.tokens.specs.Lexing.{digit, value, number_token, lexing}

-- The crate books reads numbers by this.
pub lex_digits : (bs : List ℕ) (at x : ℕ) (xs : List ℕ) → 48 ≤ x → x ≤ 57 → lexing bs at (x ∷ xs) ≡ number_token bs at (prefix_len digit (x ∷ xs)) (x ∷ xs)
lex_digits bs at x xs a b =
    rw (ne_eqb x 40 (omega arith), ne_eqb x 41 (omega arith), ne_eqb x 32 (omega arith), ne_eqb x 10 (omega arith), lt-leb 97 x (omega arith), le-leb 48 x a, le-leb x 57 b)

-- More digits never make a number less.
value_grows : (v : ℕ) (ds : List ℕ) → v ≤ value v ds
value_grows v [] = omega arith
value_grows v (d ∷ ds) = let h = value_grows (10 * v + (d - 48)) ds in omega arith

-- Once too great, a number stays so.
pub too_great : (ds : List ℕ) (v i : ℕ) → value v (drop i ds) ≡ value 0 ds → i < length ds → 4294967295 < 10 * v + (get_or ds i 0 - 48) → 4294967295 < value 0 ds
too_great ds v i e h over =
    let step = at_drop_more (value v) ds i 0 h in
    let more = value_grows (10 * v + (get_or ds i 0 - 48)) (drop (i + 1) ds) in
    omega (arith, e, step, more)
