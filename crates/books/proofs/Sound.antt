-- What is read is spelled: tokens that the layout wants, and expressions.
use Rattle.std.proofs.Common.{◌≡◌, ℕ, zero, suc, ◌+◌, ◌<◌, ◌≤◌, true, leb, List, [], ◌∷◌, ◌++◌, codes, decimal, sym, ap, subst, ◌∙◌, arith, rules}
use Rattle.std.proofs.lemmas.Bool.{cond_both, leb-false}
use Rattle.tokens.specs.Out.{Out, ok, no}
use Rattle.tokens.specs.Spots.{spot}
use Rattle.tokens.specs.declared.token.Word.{Word}
use Rattle.tokens.specs.declared.token.Word.TheVariants.{Class, Rule, Empty, Any, Term, Call, Seq, Alt, Star, Not}
use Rattle.tokens.specs.declared.token.Token.{Token}
use Rattle.tokens.specs.declared.token.Token.TheVariants.{Open, Close, Space, Letters, Number}
use Rattle.tokens.specs.declared.token.TokenFault.{TokenFault}
use Rattle.grammar.specs.Expr.{Expr, size, nesting}
use Rattle.grammar.specs.Spelling.{spell}
use Rattle.grammar.specs.Allowed.{NumbersFit}
use Rattle.books.specs.declared.fault.ExprFault.TheVariants.{Unwanted}
use Rattle.books.specs.declared.fault.BookFault.TheVariants.{InExpr, TooMany}
use Rattle.books.specs.declared.head.Head.{Head}
use Rattle.books.specs.declared.head.Head.TheVariants.{Leaf, Numbered, One, Two}
use Rattle.books.specs.declared.head.LineWord.{LineWord}
use Rattle.books.specs.declared.head.LineWord.TheVariants.{Class as ClassLine, Rule as RuleLine}
use Rattle.books.specs.Reading.{same_token, wanting, expecting, valued, numbering, head_of, headed, heading, operand, operands, bracketed, expression, ExprReader, line_word_of, line_headed, line_heading}
use Rattle.books.proofs.Lexed.{Gives, given, none, after_gives, inside_gives, gives_weaker, Worded, Lexed, lexing_gives}
use Rattle.books.specs.Heads.{leaf_word, numbered_word, one_word, two_word, head_word}
use Rattle.books.proofs.Heads.{spell_leaf, size_leaf, nesting_leaf, fit_leaf, spell_numbered, size_numbered, nesting_numbered, fit_numbered, spell_one, size_one, nesting_one, fit_one, spell_two, size_two, nesting_two, fit_two}

pub same_is : (t w : Token) → same_token t w ≡ true → t ≡ w
same_is t w h = search rules

module _ (bs : List ℕ) where
  wanting_gives : (w : Token) (at : ℕ) (xs : List ℕ) (o : Out TokenFault Token) → Gives (λ t a ys. Lexed t xs ys) o → Gives (λ t a ys. Lexed w xs ys) (wanting bs w at o)
  wanting_gives w at xs (ok t a ys) (given h) = cond_both (same_token t w) (ok t a ys) (no (Unwanted (spot bs at))) (Gives (λ t a ys. Lexed w xs ys)) (λ e. given (subst (λ k. Lexed k xs ys) (same_is t w e) h)) (λ _. none)
  wanting_gives w at xs (no e) h = none

  -- the bytes of the token that was wanted
  pub expecting_gives : (w : Token) (at : ℕ) (xs : List ℕ) → Gives (λ t a ys. Lexed w xs ys) (expecting bs w at xs)
  unfolding expecting
  expecting_gives w at xs = wanting_gives w at xs _ (lexing_gives bs at xs)

  pub rule_gives : (at : ℕ) (xs : List ℕ) → Gives (λ t a ys. xs ≡ codes "rule" ++ ys) (expecting bs (Letters Rule) at xs)
  rule_gives at xs = gives_weaker (λ t a ys. xs ≡ codes "rule" ++ ys) (expecting_gives (Letters Rule) at xs) (λ t a ys h. h.1 ∙ ap (λ k. k ++ ys) h.2)

  valued_gives : (at : ℕ) (xs : List ℕ) (o : Out TokenFault Token) → Gives (λ m a ys. Lexed m xs ys) o → Gives (λ v a ys. (xs ≡ decimal v ++ ys) × (v ≤ 4294967295)) (valued bs at o)
  valued_gives at xs (ok (Number v) a ys) (given h) = given h
  valued_gives at xs (ok _ a ys) h = none
  valued_gives at xs (no e) h = none

  head_of_gives : (at : ℕ) (w : Word) (wd xs : List ℕ) (a : ℕ) (ys : List ℕ) → xs ≡ wd ++ ys → Worded w wd → Gives (λ h b zs. xs ≡ head_word h ++ zs) (head_of bs at w a ys)
  head_of_gives at Empty wd xs a ys e h = given (e ∙ ap (λ w. w ++ ys) h)
  head_of_gives at Any wd xs a ys e h = given (e ∙ ap (λ w. w ++ ys) h)
  head_of_gives at Term wd xs a ys e h = given (e ∙ ap (λ w. w ++ ys) h)
  head_of_gives at Call wd xs a ys e h = given (e ∙ ap (λ w. w ++ ys) h)
  head_of_gives at Seq wd xs a ys e h = given (e ∙ ap (λ w. w ++ ys) h)
  head_of_gives at Alt wd xs a ys e h = given (e ∙ ap (λ w. w ++ ys) h)
  head_of_gives at Star wd xs a ys e h = given (e ∙ ap (λ w. w ++ ys) h)
  head_of_gives at Not wd xs a ys e h = given (e ∙ ap (λ w. w ++ ys) h)
  head_of_gives at _ wd xs a ys e h = none

  headed_gives : (at : ℕ) (xs : List ℕ) (o : Out TokenFault Token) → Gives (λ m a ys. Lexed m xs ys) o → Gives (λ h a ys. xs ≡ head_word h ++ ys) (headed bs at o)
  headed_gives at xs (ok (Letters w) a ys) (given h) = head_of_gives at w h.0 xs a ys h.1 h.2
  headed_gives at xs (ok _ a ys) h = none
  headed_gives at xs (no e) h = none

  module _ (at : ℕ) (xs : List ℕ) where
    pub number_gives : Gives (λ v a ys. (xs ≡ decimal v ++ ys) × (v ≤ 4294967295)) (numbering bs at xs)
    unfolding numbering
    number_gives = valued_gives at xs _ (lexing_gives bs at xs)

    pub head_gives : Gives (λ h a ys. xs ≡ head_word h ++ ys) (heading bs at xs)
    unfolding heading
    head_gives = headed_gives at xs _ (lexing_gives bs at xs)

abbrev pub line_word : LineWord → List ℕ
line_word ClassLine = codes "class"
line_word RuleLine = codes "rule"

module _ (bs : List ℕ) where
  line_word_of_gives : (at : ℕ) (w : Word) (wd xs : List ℕ) (a : ℕ) (ys : List ℕ) → xs ≡ wd ++ ys → Worded w wd → Gives (λ h b zs. xs ≡ line_word h ++ zs) (line_word_of bs at w a ys)
  line_word_of_gives at Class wd xs a ys e h = given (e ∙ ap (λ w. w ++ ys) h)
  line_word_of_gives at Rule wd xs a ys e h = given (e ∙ ap (λ w. w ++ ys) h)
  line_word_of_gives at _ wd xs a ys e h = none

  line_headed_gives : (at : ℕ) (xs : List ℕ) (o : Out TokenFault Token) → Gives (λ m a ys. Lexed m xs ys) o → Gives (λ h a ys. xs ≡ line_word h ++ ys) (line_headed bs at o)
  line_headed_gives at xs (ok (Letters w) a ys) (given h) = line_word_of_gives at w h.0 xs a ys h.1 h.2
  line_headed_gives at xs (ok _ a ys) h = none
  line_headed_gives at xs (no e) h = none

  pub line_word_gives : (at : ℕ) (xs : List ℕ) → Gives (λ h a ys. xs ≡ line_word h ++ ys) (line_heading bs at xs)
  unfolding line_heading
  line_word_gives at xs = line_headed_gives at xs _ (lexing_gives bs at xs)

-- The bytes xs are w, an expression within the limits, and then ys.
pub record Spelled (l n : ℕ) (w xs : List ℕ) (e : Expr) (ys : List ℕ) : Type 0 where
  pub bytes : xs ≡ w ++ spell e ys
  pub deep : nesting e ≤ l
  pub few : n + size e ≤ 512
  pub fit : NumbersFit e

-- The operands of an expression with the head h, up to its end.
pub record Completed (l n : ℕ) (h : Head) (xs : List ℕ) (e : Expr) (ys : List ℕ) : Type 0 where
  pub bytes : (r : List ℕ) → ys ≡ 41 ∷ r → 40 ∷ (head_word h ++ xs) ≡ spell e r
  pub deep : nesting e ≤ l
  pub few : n + size e ≤ 513
  pub fit : NumbersFit e

-- A reader that reads only what is spelled.
abbrev pub Sound : ℕ → ExprReader → Type 0
Sound l rd = (n at : ℕ) (xs : List ℕ) → Gives (λ e a ys. Spelled l n [] xs e ys) (rd n at xs)

module _ (bs : List ℕ) where
  pub operand_sound : (l : ℕ) (rd : ExprReader) → Sound l rd → (n at : ℕ) (xs : List ℕ) → Gives (λ e a ys. Spelled l n (32 ∷ []) xs e ys) (operand bs rd n at xs)
  unfolding operand
  operand_sound l rd h n at xs =
      after_gives (λ e a ys. Spelled l n (32 ∷ []) xs e ys) _ (inside_gives InExpr (expecting_gives bs Space at xs)) (λ t a ys q.
      gives_weaker (λ e a zs. Spelled l n (32 ∷ []) xs e zs) (h n a ys) (λ e b zs s. record { bytes = q ∙ ap (λ r. 32 ∷ r) s.bytes; deep = s.deep; few = s.few; fit = s.fit }))

  operands_sound : (l : ℕ) (rd : ExprReader) → Sound l rd → (h : Head) (n at : ℕ) (xs : List ℕ) → n ≤ 512 → Gives (λ e a ys. Completed (suc l) n h xs e ys) (operands bs rd h n at xs)
  unfolding operands
  operands_sound l rd s (Leaf k) n at xs w =
      given (record { bytes = λ r c. ap (λ t. 40 ∷ (leaf_word k ++ t)) c ∙ sym (spell_leaf k r); deep = omega (arith, nesting_leaf k); few = omega (arith, size_leaf k); fit = fit_leaf k })
  operands_sound l rd s (Numbered k) n at xs w =
      let P : Expr → ℕ → List ℕ → Type 0 = λ e a ys. Completed (suc l) n (Numbered k) xs e ys in
      after_gives P _ (inside_gives InExpr (expecting_gives bs Space at xs)) (λ t a ys e.
      after_gives P _ (inside_gives InExpr (number_gives bs a ys)) (λ v b zs q.
      given (record {
        bytes = λ r c. ap (λ t. 40 ∷ (numbered_word k ++ t)) (e ∙ ap (λ t. 32 ∷ t) (q.0 ∙ ap (λ t. decimal v ++ t) c)) ∙ sym (spell_numbered k v r);
        deep = omega (arith, nesting_numbered k v);
        few = omega (arith, size_numbered k v);
        fit = fit_numbered k v q.1;
      })))
  operands_sound l rd s (One k) n at xs w =
      let P : Expr → ℕ → List ℕ → Type 0 = λ e a ys. Completed (suc l) n (One k) xs e ys in
      after_gives P _ (operand_sound l rd s n at xs) (λ e a ys p.
      given (record {
        bytes = λ r c. ap (λ t. 40 ∷ (one_word k ++ t)) (p.bytes ∙ ap (λ t. 32 ∷ spell e t) c) ∙ sym (spell_one k e r);
        deep = omega (arith, p.deep, nesting_one k e);
        few = omega (arith, p.few, size_one k e);
        fit = fit_one k e p.fit;
      }))
  operands_sound l rd s (Two k) n at xs w =
      let P : Expr → ℕ → List ℕ → Type 0 = λ e a ys. Completed (suc l) n (Two k) xs e ys in
      after_gives P _ (operand_sound l rd s n at xs) (λ e a ys p.
      after_gives P _ (operand_sound l rd s (n + size e) a ys) (λ f b zs q.
      given (record {
        bytes = λ r c. ap (λ t. 40 ∷ (two_word k ++ t)) (p.bytes ∙ ap (λ t. 32 ∷ spell e t) (q.bytes ∙ ap (λ t. 32 ∷ spell f t) c)) ∙ sym (spell_two k e f r);
        deep = omega (arith, p.deep, q.deep, nesting_two k e f);
        few = omega (arith, q.few, size_two k e f);
        fit = fit_two k e f p.fit q.fit;
      })))

  bracketed_sound : (l : ℕ) (rd : Head → ExprReader) → ((h : Head) (n at : ℕ) (xs : List ℕ) → n < 512 → Gives (λ e a ys. Completed l (n + 1) h xs e ys) (rd h n at xs)) → Sound l (bracketed bs rd)
  unfolding bracketed
  bracketed_sound l rd s n at xs =
      let P : Expr → ℕ → List ℕ → Type 0 = λ e a ys. Spelled l n [] xs e ys in
      after_gives P _ (inside_gives InExpr (expecting_gives bs Open at xs)) (λ t a ys o.
      after_gives P _ (inside_gives InExpr (head_gives bs a ys)) (λ h b zs w.
      cond_both (leb 512 n) (no (TooMany (spot bs at))) _ (Gives P) (λ _. none) (λ c.
      after_gives P _ (s h n b zs (leb-false 512 n c)) (λ e d vs p.
      after_gives P _ (inside_gives InExpr (expecting_gives bs Close d vs)) (λ t i us q.
      given (record { bytes = o ∙ ap (λ t. 40 ∷ t) w ∙ p.bytes us q; deep = p.deep; few = omega (arith, p.few); fit = p.fit }))))))

  pub expression_sound : (l : ℕ) → Sound l (expression bs l)
  unfolding expression
  expression_sound zero n at xs = bracketed_sound 0 _ (λ h m b zs w. none) n at xs
  expression_sound (suc l) n at xs = bracketed_sound (suc l) _ (λ h m b zs w. operands_sound l (expression bs l) (expression_sound l) h (m + 1) b zs (omega arith)) n at xs
