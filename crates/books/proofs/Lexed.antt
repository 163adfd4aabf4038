-- What the lexer's answers say of the bytes.
use Rattle.std.proofs.Common.{◌≡◌, ℕ, ◌+◌, ◌<◌, ◌≤◌, true, false, ◌&&◌, eqb, ltb, List, [], ◌∷◌, ◌++◌, length, get_or, take, drop, codes, decimal, sym, refl, ap, ◌∙◌, one-add, arith, rules}
use Rattle.std.proofs.lemmas.Bool.Decides.{nat_tests}
use Rattle.std.specs.List.{prefix_len}
use Rattle.std.specs.Str.{bytes_eq, all_ascii_digits}
use Rattle.std.proofs.lemmas.Str.Parse.{IsNumeralModel, numerals_by_fold}
use Rattle.std.proofs.lemmas.Fmt.{decimal-digits_value}
use Rattle.std.proofs.lemmas.Slice.Eq.{bytes_eq-Decides}
use Rattle.std.proofs.lemmas.Bool.{eqb-true, cond_both, ltb-false, and_from}
use Rattle.std.proofs.lemmas.List.{take-append-drop, length-take-le, get_or-take}
use Rattle.std.proofs.lemmas.List.Sums.{prefix_len-le-length}
use Rattle.tokens.specs.Out.{Out, ok, no, after, inside}
use Rattle.tokens.specs.Spots.{spot}
use Rattle.tokens.specs.Lexing.{letter, digit, value, word_of, word_token, number_token, lexing}
use Rattle.tokens.specs.declared.token.Word.{Word}
use Rattle.tokens.specs.declared.token.Word.TheVariants.{Class, Rule, Empty, Any, Term, Call, Seq, Alt, Star, Not, Other}
use Rattle.tokens.specs.declared.token.Token.{Token}
use Rattle.tokens.specs.declared.token.Token.TheVariants.{Open, Close, Space, Feed, Letters, Number, End}
use Rattle.tokens.specs.declared.token.TokenFault.{TokenFault}
use Rattle.tokens.specs.declared.token.TokenFault.TheVariants.{Stray, BadNumber}

-- What holds of what was read, if anything was.
pub data Gives {E A : Type 0} (P : A → ℕ → List ℕ → Type 0) : Out E A → Type 0 where
  given : {a : A} {at : ℕ} {xs : List ℕ} → P a at xs → Gives P (ok a at xs)
  none : {e : E} → Gives P (no e)

pub after_gives : {E A B : Type 0} {P : A → ℕ → List ℕ → Type 0} (Q : B → ℕ → List ℕ → Type 0) {o : Out E A} (f : A → ℕ → List ℕ → Out E B) → Gives P o → ((a : A) (at : ℕ) (xs : List ℕ) → P a at xs → Gives Q (f a at xs)) → Gives Q (after o f)
after_gives Q f (given h) g = g _ _ _ h
after_gives Q f none g = none

pub inside_gives : {E F A : Type 0} {P : A → ℕ → List ℕ → Type 0} (g : E → F) {o : Out E A} → Gives P o → Gives P (inside g o)
inside_gives g (given h) = given h
inside_gives g none = none

pub gives_weaker : {E A : Type 0} {P : A → ℕ → List ℕ → Type 0} (Q : A → ℕ → List ℕ → Type 0) {o : Out E A} → Gives P o → ((a : A) (at : ℕ) (xs : List ℕ) → P a at xs → Q a at xs) → Gives Q o
gives_weaker Q (given h) f = given (f _ _ _ h)
gives_weaker Q none f = none

-- the bytes of a word
abbrev pub Worded : Word → List ℕ → Type 0
Worded Class w = w ≡ codes "class"
Worded Rule w = w ≡ codes "rule"
Worded Empty w = w ≡ codes "empty"
Worded Any w = w ≡ codes "any"
Worded Term w = w ≡ codes "term"
Worded Call w = w ≡ codes "call"
Worded Seq w = w ≡ codes "seq"
Worded Alt w = w ≡ codes "alt"
Worded Star w = w ≡ codes "star"
Worded Not w = w ≡ codes "not"
Worded Other w = Unit {0}

pub worded : (w : List ℕ) → Worded (word_of w) w
worded w =
    cond_both (bytes_eq w (codes "class")) Class _ (λ k. Worded k w) (bytes_eq-Decides w (codes "class")).0 (λ _.
    cond_both (bytes_eq w (codes "rule")) Rule _ (λ k. Worded k w) (bytes_eq-Decides w (codes "rule")).0 (λ _.
    cond_both (bytes_eq w (codes "empty")) Empty _ (λ k. Worded k w) (bytes_eq-Decides w (codes "empty")).0 (λ _.
    cond_both (bytes_eq w (codes "any")) Any _ (λ k. Worded k w) (bytes_eq-Decides w (codes "any")).0 (λ _.
    cond_both (bytes_eq w (codes "term")) Term _ (λ k. Worded k w) (bytes_eq-Decides w (codes "term")).0 (λ _.
    cond_both (bytes_eq w (codes "call")) Call _ (λ k. Worded k w) (bytes_eq-Decides w (codes "call")).0 (λ _.
    cond_both (bytes_eq w (codes "seq")) Seq _ (λ k. Worded k w) (bytes_eq-Decides w (codes "seq")).0 (λ _.
    cond_both (bytes_eq w (codes "alt")) Alt _ (λ k. Worded k w) (bytes_eq-Decides w (codes "alt")).0 (λ _.
    cond_both (bytes_eq w (codes "star")) Star _ (λ k. Worded k w) (bytes_eq-Decides w (codes "star")).0 (λ _.
    cond_both (bytes_eq w (codes "not")) Not Other (λ k. Worded k w) (bytes_eq-Decides w (codes "not")).0 (λ _. tt))))))))))

-- the bytes of a token, before the bytes ys
abbrev pub Lexed : Token → List ℕ → List ℕ → Type 0
Lexed Open xs ys = xs ≡ 40 ∷ ys
Lexed Close xs ys = xs ≡ 41 ∷ ys
Lexed Space xs ys = xs ≡ 32 ∷ ys
Lexed Feed xs ys = xs ≡ 10 ∷ ys
Lexed (Letters k) xs ys = (w : List ℕ) × (xs ≡ w ++ ys) × Worded k w
Lexed (Number v) xs ys = (xs ≡ decimal v ++ ys) × (v ≤ 4294967295)
Lexed End xs ys = (xs ≡ []) × (ys ≡ [])

pub own : IsNumeralModel (λ ds. all_ascii_digits ds ≡ true) (value 0)
own = numerals_by_fold _ (search rules) value (search rules)

-- the digits at the front
front_digits : (xs : List ℕ) → all_ascii_digits (take (prefix_len digit xs) xs) ≡ true
front_digits [] = refl
front_digits (x ∷ xs) =
    cond_both (digit x) (1 + prefix_len digit xs) 0 (λ n. all_ascii_digits (take n (x ∷ xs)) ≡ true)
    (λ e. rw one-add (and_from _ _ e (front_digits xs)))
    (λ _. refl)

pub number_back : (n : ℕ) (ys : List ℕ) → 0 < n → n ≤ length ys → all_ascii_digits (take n ys) ≡ true → (eqb (get_or ys 0 0) 48 && ltb 1 n) ≡ false → value 0 (take n ys) ≤ 4294967295 → decimal (value 0 (take n ys)) ≡ take n ys
number_back n ys some within all z small =
    let len : length (take n ys) ≡ n = length-take-le n ys within in
    let first : get_or (take n ys) 0 0 ≡ get_or ys 0 0 = get_or-take n ys 0 0 some in
    decimal-digits_value own (take n ys) all (omega arith) (λ e. grind (arith, nat_tests)) (omega arith)

numbered_gives : (bs : List ℕ) (at : ℕ) (ys : List ℕ) → 0 < prefix_len digit ys → Gives (λ m a zs. Lexed m ys zs) (number_token bs at (prefix_len digit ys) ys)
numbered_gives bs at ys some =
    let n : ℕ = prefix_len digit ys in
    let P : Out TokenFault Token → Type 0 = Gives (λ m a zs. Lexed m ys zs) in
    cond_both (eqb (get_or ys 0 0) 48 && ltb 1 n) (no (BadNumber (spot bs at))) _ P (λ _. none) (λ z.
    cond_both (ltb 4294967295 (value 0 (take n ys))) (no (BadNumber (spot bs at))) _ P (λ _. none) (λ s.
    let small : value 0 (take n ys) ≤ 4294967295 = ltb-false _ _ s in
    given (sym (ap (λ ds. ds ++ drop n ys) (number_back n ys some (prefix_len-le-length digit ys) (front_digits ys) z small) ∙ take-append-drop n ys), small)))

pub some_digit : (x : ℕ) (xs : List ℕ) → digit x ≡ true → 0 < prefix_len digit (x ∷ xs)
some_digit x xs e = rw e (omega arith)

pub lexing_gives : (bs : List ℕ) (at : ℕ) (xs : List ℕ) → Gives (λ m a ys. Lexed m xs ys) (lexing bs at xs)
lexing_gives bs at [] = given (refl, refl)
lexing_gives bs at (x ∷ xs) =
    let P : Out TokenFault Token → Type 0 = Gives (λ m a ys. Lexed m (x ∷ xs) ys) in
    cond_both (eqb x 40) (ok Open (at + 1) xs) _ P (λ e. given (ap (λ y. y ∷ xs) (eqb-true x 40 e))) (λ _.
    cond_both (eqb x 41) (ok Close (at + 1) xs) _ P (λ e. given (ap (λ y. y ∷ xs) (eqb-true x 41 e))) (λ _.
    cond_both (eqb x 32) (ok Space (at + 1) xs) _ P (λ e. given (ap (λ y. y ∷ xs) (eqb-true x 32 e))) (λ _.
    cond_both (eqb x 10) (ok Feed (at + 1) xs) _ P (λ e. given (ap (λ y. y ∷ xs) (eqb-true x 10 e))) (λ _.
    cond_both (letter x) (word_token at (prefix_len letter (x ∷ xs)) (x ∷ xs)) _ P (λ e. given (take (prefix_len letter (x ∷ xs)) (x ∷ xs), sym (take-append-drop (prefix_len letter (x ∷ xs)) (x ∷ xs)), worded (take (prefix_len letter (x ∷ xs)) (x ∷ xs)))) (λ _.
    cond_both (digit x) (number_token bs at (prefix_len digit (x ∷ xs)) (x ∷ xs)) (no (Stray (spot bs at))) P (λ e. numbered_gives bs at (x ∷ xs) (some_digit x xs e)) (λ _. none))))))
