-- The token at the front of some bytes.
use Rattle.std.specs.Prelude.{ℕ, ◌+◌, ◌-◌, ◌*◌, Bool, cond, ◌&&◌, List, [], ◌∷◌, take, drop, codes, ◌==◌, nat_le, nat_lt, slice_index}
use Rattle.std.specs.List.{prefix_len}
use Rattle.std.specs.Str.{bytes_eq}
use Rattle.tokens.specs.Out.{Out, ok, no}
use Rattle.tokens.specs.Spots.{spot}
use Rattle.tokens.specs.declared.token.Word.{Word}
use Rattle.tokens.specs.declared.token.Word.TheVariants.{Class, Rule, Empty, Any, Term, Call, Seq, Alt, Star, Not, Other}
use Rattle.tokens.specs.declared.token.Token.{Token}
use Rattle.tokens.specs.declared.token.Token.TheVariants.{Open, Close, Space, Feed, Letters, Number, End}
use Rattle.tokens.specs.declared.token.TokenFault.{TokenFault}
use Rattle.tokens.specs.declared.token.TokenFault.TheVariants.{Stray, BadNumber}

-- The letters `a` to `z`.
abbrev pub letter : ℕ → Bool
letter b = nat_le 97 b && nat_le b 122

-- The digits `0` to `9`.
abbrev pub digit : ℕ → Bool
digit b = nat_le 48 b && nat_le b 57

-- The number that digits write in base ten, after digits that wrote v.
abbrev pub value : ℕ → List ℕ → ℕ
value v [] = v
value v (d ∷ ds) = value (10 * v + (d - 48)) ds

-- The word that letters spell.
abbrev pub word_of : List ℕ → Word
word_of w =
    cond (bytes_eq w (codes "class")) Class
    (cond (bytes_eq w (codes "rule")) Rule
    (cond (bytes_eq w (codes "empty")) Empty
    (cond (bytes_eq w (codes "any")) Any
    (cond (bytes_eq w (codes "term")) Term
    (cond (bytes_eq w (codes "call")) Call
    (cond (bytes_eq w (codes "seq")) Seq
    (cond (bytes_eq w (codes "alt")) Alt
    (cond (bytes_eq w (codes "star")) Star
    (cond (bytes_eq w (codes "not")) Not
    Other)))))))))

-- The first n bytes of xs as a word; xs stand at the place `at`.
abbrev pub word_token : ℕ → ℕ → List ℕ → Out TokenFault Token
word_token at n xs = ok (Letters (word_of (take n xs))) (at + n) (drop n xs)

-- The first n bytes of xs as a number, which has no needless zero and is at most 4,294,967,295.
-- The book bs, where xs stand at the place `at`, gives the line of a fault.
abbrev pub number_token : List ℕ → ℕ → ℕ → List ℕ → Out TokenFault Token
number_token bs at n xs =
    cond (slice_index xs 0 == 48 && nat_lt 1 n) (no (BadNumber (spot bs at)))
    (cond (nat_lt 4294967295 (value 0 (take n xs))) (no (BadNumber (spot bs at)))
    (ok (Number (value 0 (take n xs))) (at + n) (drop n xs)))

-- The token at the front of xs, which stand at the place `at` of the book bs: words and numbers are
-- the longest runs of letters and of digits.
abbrev pub lexing : List ℕ → ℕ → List ℕ → Out TokenFault Token
lexing bs at [] = ok End at []
lexing bs at (x ∷ xs) =
    cond (x == 40) (ok Open (at + 1) xs)
    (cond (x == 41) (ok Close (at + 1) xs)
    (cond (x == 32) (ok Space (at + 1) xs)
    (cond (x == 10) (ok Feed (at + 1) xs)
    (cond (letter x) (word_token at (prefix_len letter (x ∷ xs)) (x ∷ xs))
    (cond (digit x) (number_token bs at (prefix_len digit (x ∷ xs)) (x ∷ xs))
    (no (Stray (spot bs at))))))))
