-- The definitions of lines, read one step at a time.
use Rattle.std.proofs.Common.{◌≡◌, ℕ, zero, suc, ◌+◌, ◌<◌, Bool, true, cond, ltb, List, [], ◌∷◌, ◌++◌, length, ap, ◌∙◌, arith}
use Rattle.std.proofs.lemmas.Bool.{ne_eqb, lt-ltb}
use Rattle.std.proofs.lemmas.List.{length_push}
use Rattle.kinds.specs.declared.class.Class.{Class}
use Rattle.tokens.specs.Out.{Out, ok, no}
use Rattle.tokens.specs.Spots.{spot}
use Rattle.tokens.specs.declared.token.Word.TheVariants.{Rule}
use Rattle.tokens.specs.declared.token.Token.{Token}
use Rattle.tokens.specs.declared.token.Token.TheVariants.{Open, Close, Space, Feed, Letters}
use Rattle.grammar.specs.Expr.{Expr, size}
use Rattle.books.specs.declared.fault.ExprFault.{ExprFault}
use Rattle.books.specs.declared.fault.BookFault.{BookFault}
use Rattle.books.specs.declared.fault.BookFault.TheVariants.{InExpr, TooMany}
use Rattle.books.specs.declared.head.LineWord.{LineWord}
use Rattle.books.specs.declared.head.LineWord.TheVariants.{Class as ClassLine, Rule as RuleLine}
use Rattle.books.specs.Reading.{expecting, numbering, operand, expression, line_heading, line_start_lem, class_numbers_lem, class_line, class_lines, rule_line, onward, rule_lines}
use Rattle.books.proofs.Outs.{after_ok, after_no, inside_ok, inside_no}

module _ (bs : List ℕ) (at : ℕ) (xs : List ℕ) where
  pub start_on : {t : Token} {a : ℕ} {ys : List ℕ} → expecting bs Open at xs ≡ ok t a ys → line_start_lem bs at xs ≡ line_heading bs a ys
  unfolding line_start_lem
  start_on o = after_ok _ o

  pub numbers_ok : {t₁ t₂ t₃ : Token} {v u a b c d f : ℕ} {ys zs ws vs us : List ℕ} → expecting bs Space at xs ≡ ok t₁ a ys → numbering bs a ys ≡ ok v b zs → expecting bs Space b zs ≡ ok t₂ c ws → numbering bs c ws ≡ ok u d vs → expecting bs Close d vs ≡ ok t₃ f us → class_numbers_lem bs at xs ≡ ok (record { first = v; second = u }) f us
  unfolding class_numbers_lem
  numbers_ok o p q r e = after_ok _ o ∙ after_ok _ p ∙ after_ok _ q ∙ after_ok _ r ∙ after_ok _ e

  pub class_ok : (lawful : Class → Bool) (start : ℕ) {c : Class} {t : Token} {a b : ℕ} {ys zs : List ℕ} → class_numbers_lem bs at xs ≡ ok c a ys → lawful c ≡ true → expecting bs Feed a ys ≡ ok t b zs → class_line bs lawful start at xs ≡ ok c b zs
  unfolding class_line
  class_ok lawful start o h e = inside_ok InExpr _ o ∙ rw h (inside_ok InExpr _ e)

  pub line_ok : (left n : ℕ) {t₁ t₂ t₃ t₄ : Token} {x : Expr} {a b c d f : ℕ} {ys zs ws vs us : List ℕ} → 0 < left → expecting bs Open at xs ≡ ok t₁ a ys → expecting bs (Letters Rule) a ys ≡ ok t₂ b zs → operand bs (expression bs 64) n b zs ≡ ok x c ws → expecting bs Close c ws ≡ ok t₃ d vs → expecting bs Feed d vs ≡ ok t₄ f us → rule_line bs left n at xs ≡ ok x f us
  unfolding rule_line
  line_ok left n l o w p q e = inside_ok InExpr _ o ∙ inside_ok InExpr _ w ∙ rw (ne_eqb left 0 (omega arith)) (after_ok _ p ∙ inside_ok InExpr _ q ∙ inside_ok InExpr _ e)

named : {o : Out ExprFault LineWord} {w k : LineWord} {a : ℕ} {ys : List ℕ} → o ≡ ok w a ys → w ≡ k → o ≡ ok k a ys
named {a = a} {ys = ys} e i = e ∙ ap (λ t. ok t a ys) i

module _ (bs : List ℕ) (lawful : Class → Bool) (cs : List Class) (at : ℕ) (xs : List ℕ) where
  pub classes_start_no : (left : ℕ) {e : ExprFault} → line_start_lem bs at xs ≡ no e → class_lines bs lawful left cs at xs ≡ no (InExpr e)
  unfolding class_lines
  classes_start_no zero e = inside_no InExpr _ e
  classes_start_no (suc left) e = inside_no InExpr _ e

  pub classes_end : (left : ℕ) {w : LineWord} {a : ℕ} {ys : List ℕ} → line_start_lem bs at xs ≡ ok w a ys → w ≡ RuleLine → class_lines bs lawful left cs at xs ≡ ok cs at xs
  unfolding class_lines
  classes_end zero o i = inside_ok InExpr _ (named o i)
  classes_end (suc left) o i = inside_ok InExpr _ (named o i)

  module _ {w : LineWord} {a : ℕ} {ys : List ℕ} (o : line_start_lem bs at xs ≡ ok w a ys) (i : w ≡ ClassLine) where
    pub classes_many : (left : ℕ) → left ≡ 0 → class_lines bs lawful left cs at xs ≡ no (TooMany (spot bs at))
    unfolding class_lines
    classes_many zero h = inside_ok InExpr _ (named o i)
    classes_many (suc left) h = absurd (omega arith)

    pub classes_no : (left : ℕ) → 0 < left → {e : BookFault} → class_line bs lawful at a ys ≡ no e → class_lines bs lawful left cs at xs ≡ no e
    unfolding class_lines
    classes_no zero h e = absurd (omega arith)
    classes_no (suc left) h e = inside_ok InExpr _ (named o i) ∙ after_no _ e

    pub classes_on : (left j : ℕ) → left ≡ suc j → {c : Class} {b : ℕ} {zs : List ℕ} → class_line bs lawful at a ys ≡ ok c b zs → class_lines bs lawful left cs at xs ≡ class_lines bs lawful j (cs ++ (c ∷ [])) b zs
    unfolding class_lines
    classes_on zero j h e = absurd (omega arith)
    classes_on (suc left) j h {c = c} {b = b} {zs = zs} e =
        let q : left ≡ j = omega arith in
        inside_ok InExpr _ (named o i) ∙ after_ok _ e ∙ ap (λ k. class_lines bs lawful k (cs ++ (c ∷ [])) b zs) q

-- what a list is after a push that had room
pub pushed : {X : Type 0} (most : ℕ) (xs ys : List X) (x : X) → length xs < most → ys ≡ cond (ltb (length xs) most) (xs ++ (x ∷ [])) xs → ys ≡ xs ++ (x ∷ [])
pushed most xs ys x h e = e ∙ ap (λ t. cond t (xs ++ (x ∷ [])) xs) (lt-ltb (length xs) most h)

-- the steps of the loop over class lines
pub ruleset class_steps = (classes_start_no, classes_end, classes_many, classes_no, classes_on, pushed, length_push)

pub rules_no : (bs : List ℕ) (left : ℕ) (es : List Expr) (n at : ℕ) (xs : List ℕ) {e : BookFault} → rule_line bs left n at xs ≡ no e → rule_lines bs left es n at xs ≡ no e
unfolding rule_lines
rules_no bs zero es n at xs e = after_no _ e
rules_no bs (suc left) es n at xs e = after_no _ e

pub rules_on : (bs : List ℕ) (left j : ℕ) (es : List Expr) (n at : ℕ) (xs : List ℕ) {x : Expr} {a : ℕ} {ys : List ℕ} → left ≡ suc j → rule_line bs left n at xs ≡ ok x a ys → rule_lines bs left es n at xs ≡ onward (rule_lines bs j (es ++ (x ∷ [])) (n + size x)) (es ++ (x ∷ [])) a ys
unfolding rule_lines
rules_on bs zero j es n at xs h e = absurd (omega arith)
rules_on bs (suc left) j es n at xs {x = x} {a = a} {ys = ys} h e =
    let q : left ≡ j = omega arith in
    after_ok _ e ∙ ap (λ i. onward (rule_lines bs i (es ++ (x ∷ [])) (n + size x)) (es ++ (x ∷ [])) a ys) q
