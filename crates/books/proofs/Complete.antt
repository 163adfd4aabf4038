-- What is spelled within the limits is read.
use Rattle.std.proofs.Common.{◌≡◌, ℕ, zero, suc, ◌+◌, ◌^◌, ◌<◌, ◌≤◌, true, false, ◌&&◌, eqb, ltb, List, [], ◌∷◌, ◌++◌, length, get_or, take, drop, codes, decimal, refl, ap, ◌∙◌, one-add, arith}
use Rattle.std.specs.List.{prefix_len}
use Rattle.std.specs.Str.{all_ascii_digits}
use Rattle.std.proofs.lemmas.Fmt.{digits_decimal, digits_value-decimal, decimal_nonempty, first_decimal, decimal_digit}
use Rattle.std.proofs.lemmas.List.{take_at, drop_at}
use Rattle.std.proofs.lemmas.Bool.{and_parts, le-ltb, leb-true, cond-true, cond-false}
use Rattle.std.proofs.lemmas.Bool.Decides.{nat_tests}
use Rattle.tokens.specs.Out.{Out, ok}
use Rattle.tokens.specs.Lexing.{digit, value, number_token, lexing}
use Rattle.tokens.specs.declared.token.Word.TheVariants.{Rule}
use Rattle.tokens.specs.declared.token.Token.TheVariants.{Open, Close, Space, Feed, Letters, Number}
use Rattle.tokens.proofs.Lexes.{lex_digits}
use Rattle.grammar.specs.Expr.{Expr, empty, any, term, call, seq, alt, star, not, size, nesting}
use Rattle.grammar.specs.Spelling.{spell}
use Rattle.grammar.specs.Allowed.{NumbersFit}
use Rattle.books.specs.declared.head.Leaf.{Leaf as LeafOf}
use Rattle.books.specs.declared.head.Leaf.TheVariants.{Empty, Any}
use Rattle.books.specs.declared.head.Numbered.{Numbered as NumberedOf}
use Rattle.books.specs.declared.head.Numbered.TheVariants.{Term, Call}
use Rattle.books.specs.declared.head.One.{One as OneOf}
use Rattle.books.specs.declared.head.One.TheVariants.{Star, Not}
use Rattle.books.specs.declared.head.Two.{Two as TwoOf}
use Rattle.books.specs.declared.head.Two.TheVariants.{Seq, Alt}
use Rattle.books.specs.declared.head.Head.{Head}
use Rattle.books.specs.declared.head.Head.TheVariants.{Leaf, Numbered, One, Two}
use Rattle.books.specs.declared.head.LineWord.TheVariants.{Class as ClassLine, Rule as RuleLine}
use Rattle.books.specs.Heads.{leaf, numbered, one, two, leaf_word, numbered_word, one_word, two_word}
use Rattle.books.specs.Reading.{ExprReader, expecting, valued, numbering, heading, operand, operands, bracketed, expression, line_heading}
use Rattle.books.proofs.Lexed.{own}
use Rattle.books.proofs.Outs.{operand_ok, leaf_ok, number_ok, one_ok, two_ok, close_ok}

-- What is read, at some place.
abbrev pub Reads : {E A : Type 0} → Out E A → A → List ℕ → Type 0
Reads o a ys = (at : ℕ) × (o ≡ ok a at ys)

-- the digits at the front, up to a byte that is none
pub run_digits : (ds : List ℕ) (x : ℕ) (r : List ℕ) → all_ascii_digits ds ≡ true → digit x ≡ false → prefix_len digit (ds ++ (x ∷ r)) ≡ length ds
run_digits [] x r a e = rw e
run_digits (d ∷ ds) x r a e =
    let p = and_parts _ _ a in
    cond-true (digit d) _ _ p.0 ∙ one-add _ ∙ ap suc (run_digits ds x r p.1 e)

module _ (bs : List ℕ) where
  module _ (at : ℕ) (r : List ℕ) where
    pub open_there : expecting bs Open at (40 ∷ r) ≡ ok Open (at + 1) r
    unfolding expecting
    open_there = refl

    pub close_there : expecting bs Close at (41 ∷ r) ≡ ok Close (at + 1) r
    unfolding expecting
    close_there = refl

    pub space_there : expecting bs Space at (32 ∷ r) ≡ ok Space (at + 1) r
    unfolding expecting
    space_there = refl

    pub feed_there : expecting bs Feed at (10 ∷ r) ≡ ok Feed (at + 1) r
    unfolding expecting
    feed_there = refl

    pub rule_there : Reads (expecting bs (Letters Rule) at (codes "rule" ++ (32 ∷ r))) (Letters Rule) (32 ∷ r)
    unfolding expecting
    rule_there = (_, refl)

    pub class_line_there : Reads (line_heading bs at (codes "class" ++ (32 ∷ r))) ClassLine (32 ∷ r)
    unfolding line_heading
    class_line_there = (_, refl)

    pub rule_line_there : Reads (line_heading bs at (codes "rule" ++ (32 ∷ r))) RuleLine (32 ∷ r)
    unfolding line_heading
    rule_line_there = (_, refl)

    pub leaf_there : (k : LeafOf) → Reads (heading bs at (leaf_word k ++ (41 ∷ r))) (Leaf k) (41 ∷ r)
    unfolding heading
    leaf_there Empty = (_, refl)
    leaf_there Any = (_, refl)

    pub numbered_there : (k : NumberedOf) → Reads (heading bs at (numbered_word k ++ (32 ∷ r))) (Numbered k) (32 ∷ r)
    unfolding heading
    numbered_there Term = (_, refl)
    numbered_there Call = (_, refl)

    pub one_there : (k : OneOf) → Reads (heading bs at (one_word k ++ (32 ∷ r))) (One k) (32 ∷ r)
    unfolding heading
    one_there Star = (_, refl)
    one_there Not = (_, refl)

    pub two_there : (k : TwoOf) → Reads (heading bs at (two_word k ++ (32 ∷ r))) (Two k) (32 ∷ r)
    unfolding heading
    two_there Seq = (_, refl)
    two_there Alt = (_, refl)

  number_cut : (at k v : ℕ) (ys ds rest : List ℕ) → (eqb (get_or ys 0 0) 48 && ltb 1 k) ≡ false → take k ys ≡ ds → drop k ys ≡ rest → value 0 ds ≡ v → v ≤ 4294967295 → number_token bs at k ys ≡ ok (Number v) (at + k) rest
  number_cut at k v ys ds rest z t d w small = cond-false _ _ _ z ∙ rw (t, w, d, le-ltb 4294967295 v small)

  alone : (d k : ℕ) → (d ≡ 48 → k ≡ 1) → (eqb d 48 && ltb 1 k) ≡ false
  alone d k h = grind (arith, nat_tests)

  -- digits that end before a byte x that is none
  number_read : (at v x : ℕ) (ds r : List ℕ) → digit x ≡ false → all_ascii_digits ds ≡ true → value 0 ds ≡ v → 0 < length ds → (get_or ds 0 0 ≡ 48 → length ds ≡ 1) → v ≤ 4294967295 → Reads (numbering bs at (ds ++ (x ∷ r))) v (x ∷ r)
  unfolding numbering
  number_read at v x [] r b a w s z small = absurd (omega arith)
  number_read at v x (d ∷ ds) r b a w s z small =
      let ys : List ℕ = d ∷ (ds ++ (x ∷ r)) in
      let k : ℕ = length (d ∷ ds) in
      let p = and_parts _ _ (and_parts _ _ a).0 in
      let n : prefix_len digit ys ≡ k = run_digits (d ∷ ds) x r a b in
      let c : lexing bs at ys ≡ number_token bs at (prefix_len digit ys) ys = lex_digits bs at d (ds ++ (x ∷ r)) (leb-true _ _ p.0) (leb-true _ _ p.1) in
      let q : (eqb d 48 && ltb 1 k) ≡ false = alone d k z in
      let e : number_token bs at k ys ≡ ok (Number v) (at + k) (x ∷ r) = number_cut at k v ys (d ∷ ds) (x ∷ r) q (take_at (d ∷ ds) (x ∷ r) k refl) (drop_at (d ∷ ds) (x ∷ r) k refl) w small in
      (at + k, ap (valued bs at) (c ∙ ap (λ m. number_token bs at m ys) n ∙ e))

  zero_alone : (v : ℕ) → v ≤ 4294967295 → get_or (decimal v) 0 0 ≡ 48 → length (decimal v) ≡ 1
  zero_alone zero h e = ap length (decimal_digit 0 (omega arith))
  zero_alone (suc v) h e = absurd (omega (arith, first_decimal (suc v) (omega arith) (omega arith)))

  pub number_there : (at v x : ℕ) (r : List ℕ) → digit x ≡ false → v ≤ 4294967295 → Reads (numbering bs at (decimal v ++ (x ∷ r))) v (x ∷ r)
  number_there at v x r b small =
      let h : v < 2 ^ 64 = omega arith in
      number_read at v x (decimal v) r b (digits_decimal own v h) (digits_value-decimal own v h) (decimal_nonempty v h) (zero_alone v small) small

-- An expression in its brackets, by a reader of its operands, which counts from f n on where n stand before it.
abbrev pub bracketed_by : List ℕ → ExprReader → (ℕ → ℕ) → ExprReader
bracketed_by bs rd f = bracketed bs (λ h m b zs. operands bs rd h (f m) b zs)

pub operand_there : (bs : List ℕ) (rd : ExprReader) (n at : ℕ) (xs : List ℕ) (e : Expr) (r : List ℕ) → ((b : ℕ) → Reads (rd n b xs) e r) → Reads (operand bs rd n at (32 ∷ xs)) e r
operand_there bs rd n at xs e r h = let p = h (at + 1) in (p.0, operand_ok bs rd n at (32 ∷ xs) (space_there bs at xs) ∙ p.1)

-- its word, its operands and its end are there
module _ (bs : List ℕ) (rd : ExprReader) (f : ℕ → ℕ) where
  framed : (n at : ℕ) (xs : List ℕ) {h : Head} {at₂ : ℕ} {zs : List ℕ} (e : Expr) {at₃ : ℕ} (r : List ℕ) → n < 512 → heading bs (at + 1) xs ≡ ok h at₂ zs → operands bs rd h (f n) at₂ zs ≡ ok e at₃ (41 ∷ r) → Reads (bracketed_by bs rd f n at (40 ∷ xs)) e r
  framed n at xs e r few w p = (_, close_ok bs (λ h m b zs. operands bs rd h (f m) b zs) n at (40 ∷ xs) few (open_there bs at xs) w p (close_there bs _ r))

  pub by_leaf : (k : LeafOf) (n at : ℕ) (r : List ℕ) → n < 512 → Reads (bracketed_by bs rd f n at (40 ∷ (leaf_word k ++ (41 ∷ r)))) (leaf k) r
  by_leaf k n at r few =
      let w = leaf_there bs (at + 1) r k in
      framed n at _ (leaf k) r few w.1 (leaf_ok bs rd (Leaf k) _ _ _ k refl)

  pub by_number : (k : NumberedOf) (v n at : ℕ) (r : List ℕ) → n < 512 → v ≤ 4294967295 → Reads (bracketed_by bs rd f n at (40 ∷ (numbered_word k ++ (32 ∷ (decimal v ++ (41 ∷ r)))))) (numbered k v) r
  by_number k v n at r few small =
      let w = numbered_there bs (at + 1) (decimal v ++ (41 ∷ r)) k in
      let q = number_there bs (w.0 + 1) v 41 r refl small in
      framed n at _ (numbered k v) r few w.1 (number_ok bs rd (Numbered k) _ _ _ k refl (space_there bs _ _) q.1)

  pub by_one : (k : OneOf) (a : Expr) (n at : ℕ) (r : List ℕ) → n < 512 → ((b : ℕ) → Reads (rd (f n) b (spell a (41 ∷ r))) a (41 ∷ r)) → Reads (bracketed_by bs rd f n at (40 ∷ (one_word k ++ (32 ∷ spell a (41 ∷ r))))) (one k a) r
  by_one k a n at r few h =
      let w = one_there bs (at + 1) (spell a (41 ∷ r)) k in
      let p = operand_there bs rd (f n) w.0 _ a (41 ∷ r) h in
      framed n at _ (one k a) r few w.1 (one_ok bs rd (One k) _ _ _ k refl p.1)

  pub by_two : (k : TwoOf) (a b : Expr) (n at : ℕ) (r : List ℕ) → n < 512
      → ((i : ℕ) → Reads (rd (f n) i (spell a (32 ∷ spell b (41 ∷ r)))) a (32 ∷ spell b (41 ∷ r)))
      → ((i : ℕ) → Reads (rd (f n + size a) i (spell b (41 ∷ r))) b (41 ∷ r))
      → Reads (bracketed_by bs rd f n at (40 ∷ (two_word k ++ (32 ∷ spell a (32 ∷ spell b (41 ∷ r)))))) (two k a b) r
  by_two k a b n at r few g h =
      let w = two_there bs (at + 1) (spell a (32 ∷ spell b (41 ∷ r))) k in
      let p = operand_there bs rd (f n) w.0 _ a (32 ∷ spell b (41 ∷ r)) g in
      let q = operand_there bs rd (f n + size a) p.0 _ b (41 ∷ r) h in
      framed n at _ (two k a b) r few w.1 (two_ok bs rd (Two k) _ _ _ k refl p.1 q.1)

pub some_nesting : (e : Expr) → 0 < nesting e
some_nesting empty = omega arith
some_nesting any = omega arith
some_nesting (term v) = omega arith
some_nesting (call v) = omega arith
some_nesting (seq a b) = omega arith
some_nesting (alt a b) = omega arith
some_nesting (star a) = omega arith
some_nesting (not a) = omega arith

module _ (bs : List ℕ) where
  pub expression_complete : (e : Expr) (l n at : ℕ) (r : List ℕ) → nesting e ≤ l → n + size e ≤ 512 → NumbersFit e → Reads (expression bs l n at (spell e r)) e r
  unfolding expression
  expression_complete e zero n at r d s m = absurd (omega (arith, some_nesting e))
  expression_complete empty (suc l) n at r d s m = by_leaf bs (expression bs l) (λ k. k + 1) Empty n at r (omega arith)
  expression_complete any (suc l) n at r d s m = by_leaf bs (expression bs l) (λ k. k + 1) Any n at r (omega arith)
  expression_complete (term v) (suc l) n at r d s m = by_number bs (expression bs l) (λ k. k + 1) Term v n at r (omega arith) m
  expression_complete (call v) (suc l) n at r d s m = by_number bs (expression bs l) (λ k. k + 1) Call v n at r (omega arith) m
  expression_complete (seq a b) (suc l) n at r d s m =
      by_two bs (expression bs l) (λ k. k + 1) Seq a b n at r (omega arith) (λ i. expression_complete a l (n + 1) i _ (omega arith) (omega arith) m.0) (λ i. expression_complete b l (n + 1 + size a) i _ (omega arith) (omega arith) m.1)
  expression_complete (alt a b) (suc l) n at r d s m =
      by_two bs (expression bs l) (λ k. k + 1) Alt a b n at r (omega arith) (λ i. expression_complete a l (n + 1) i _ (omega arith) (omega arith) m.0) (λ i. expression_complete b l (n + 1 + size a) i _ (omega arith) (omega arith) m.1)
  expression_complete (star a) (suc l) n at r d s m = by_one bs (expression bs l) (λ k. k + 1) Star a n at r (omega arith) (λ i. expression_complete a l (n + 1) i _ (omega arith) (omega arith) m)
  expression_complete (not a) (suc l) n at r d s m = by_one bs (expression bs l) (λ k. k + 1) Not a n at r (omega arith) (λ i. expression_complete a l (n + 1) i _ (omega arith) (omega arith) m)
