-- The readers' definitions, read one step at a time.
use Rattle.std.proofs.Common.{◌≡◌, ℕ, zero, suc, ◌+◌, ◌-◌, ◌<◌, List, ap, ◌∙◌, arith}
use Rattle.std.proofs.lemmas.Bool.{lt-leb}
use Rattle.tokens.specs.Out.{Out, ok, no, after, inside}
use Rattle.tokens.specs.Spots.{spot}
use Rattle.tokens.specs.declared.token.Token.{Token}
use Rattle.tokens.specs.declared.token.Token.TheVariants.{Open, Close, Space}
use Rattle.grammar.specs.Expr.{Expr, size}
use Rattle.books.specs.declared.fault.ExprFault.TheVariants.{TooDeep}
use Rattle.books.specs.declared.fault.BookFault.TheVariants.{InExpr}
use Rattle.books.specs.declared.head.Leaf.{Leaf as LeafOf}
use Rattle.books.specs.declared.head.Numbered.{Numbered as NumberedOf}
use Rattle.books.specs.declared.head.One.{One as OneOf}
use Rattle.books.specs.declared.head.Two.{Two as TwoOf}
use Rattle.books.specs.declared.head.Head.{Head}
use Rattle.books.specs.declared.head.Head.TheVariants.{Leaf, Numbered, One, Two}
use Rattle.books.specs.Heads.{leaf, numbered, one, two}
use Rattle.books.specs.Reading.{expecting, numbering, heading, operand, operands, bracketed, expression, ExprReader}

-- one reader after another
module _ {E A B : Type 0} (f : A → ℕ → List ℕ → Out E B) where
  pub after_ok : {o : Out E A} {a : A} {at : ℕ} {xs : List ℕ} → o ≡ ok a at xs → after o f ≡ f a at xs
  after_ok e = ap (λ o. after o f) e

  pub after_no : {o : Out E A} {e : E} → o ≡ no e → after o f ≡ no e
  after_no e = ap (λ o. after o f) e

module _ {E F A B : Type 0} (g : E → F) (f : A → ℕ → List ℕ → Out F B) where
  pub inside_ok : {o : Out E A} {a : A} {at : ℕ} {xs : List ℕ} → o ≡ ok a at xs → after (inside g o) f ≡ f a at xs
  inside_ok e = ap (λ o. after (inside g o) f) e

  pub inside_no : {o : Out E A} {e : E} → o ≡ no e → after (inside g o) f ≡ no (g e)
  inside_no e = ap (λ o. after (inside g o) f) e

pub operand_ok : (bs : List ℕ) (rd : ExprReader) (n at : ℕ) (xs : List ℕ) {m : Token} {at₁ : ℕ} {ys : List ℕ} → expecting bs Space at xs ≡ ok m at₁ ys → operand bs rd n at xs ≡ rd n at₁ ys
unfolding operand
operand_ok bs rd n at xs e = inside_ok InExpr _ e

pub close_ok : (bs : List ℕ) (rd : Head → ExprReader) (n at : ℕ) (xs : List ℕ) {m m' : Token} {h : Head} {f : Expr} {at₁ at₂ at₃ at₄ : ℕ} {ys zs ws vs : List ℕ} → n < 512 → expecting bs Open at xs ≡ ok m at₁ ys → heading bs at₁ ys ≡ ok h at₂ zs → rd h n at₂ zs ≡ ok f at₃ ws → expecting bs Close at₃ ws ≡ ok m' at₄ vs → bracketed bs rd n at xs ≡ ok f at₄ vs
unfolding bracketed
close_ok bs rd n at xs few o w p e = inside_ok InExpr _ o ∙ inside_ok InExpr _ w ∙ rw (lt-leb 512 n few) (after_ok _ p ∙ inside_ok InExpr _ e)

abbrev pub deep : List ℕ → ℕ → Head → ExprReader
deep bs at h m at₂ zs = no (InExpr (TooDeep (spot bs at)))

abbrev pub inner : List ℕ → ℕ → Head → ExprReader
inner bs l h m at₂ zs = operands bs (expression bs l) h (m + 1) at₂ zs

pub expression_none : (bs : List ℕ) (l n at : ℕ) (xs : List ℕ) → l ≡ 0 → expression bs l n at xs ≡ bracketed bs (deep bs at) n at xs
unfolding expression
expression_none bs l n at xs e = ap (λ k. expression bs k n at xs) e

pub expression_some : (bs : List ℕ) (l n at : ℕ) (xs : List ℕ) → 0 < l → expression bs l n at xs ≡ bracketed bs (inner bs (l - 1)) n at xs
unfolding expression
expression_some bs zero n at xs h = absurd (omega arith)
expression_some bs (suc l) n at xs h = let e : suc l - 1 ≡ l = omega arith in rw e

-- what comes after the word
module _ (bs : List ℕ) (rd : ExprReader) (h : Head) (n at : ℕ) (xs : List ℕ) where
  pub leaf_ok : (k : LeafOf) → h ≡ Leaf k → operands bs rd h n at xs ≡ ok (leaf k) at xs
  unfolding operands
  leaf_ok k i = rw i

  pub number_ok : (k : NumberedOf) → h ≡ Numbered k → {m : Token} {at₁ v at₂ : ℕ} {ys zs : List ℕ} → expecting bs Space at xs ≡ ok m at₁ ys → numbering bs at₁ ys ≡ ok v at₂ zs → operands bs rd h n at xs ≡ ok (numbered k v) at₂ zs
  unfolding operands
  number_ok k i s e = rw i (inside_ok InExpr _ s ∙ inside_ok InExpr _ e)

  pub one_ok : (k : OneOf) → h ≡ One k → {f : Expr} {at₁ : ℕ} {ys : List ℕ} → operand bs rd n at xs ≡ ok f at₁ ys → operands bs rd h n at xs ≡ ok (one k f) at₁ ys
  unfolding operands
  one_ok k i e = rw i (after_ok _ e)

  pub two_ok : (k : TwoOf) → h ≡ Two k → {f g : Expr} {at₁ at₂ : ℕ} {ys zs : List ℕ} → operand bs rd n at xs ≡ ok f at₁ ys → operand bs rd (n + size f) at₁ ys ≡ ok g at₂ zs → operands bs rd h n at xs ≡ ok (two k f g) at₂ zs
  unfolding operands
  two_ok k i o e = rw i (after_ok _ o ∙ after_ok _ e)
