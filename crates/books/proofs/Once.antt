-- No two grammars are spelled the same: a reader that keeps no counts gives back what was spelled.
use Rattle.std.proofs.Common.{◌≡◌, ℕ, zero, suc, ◌≤◌, max, false, List, [], ◌∷◌, ◌++◌, get_or, drop, decimal, sym, refl, ap, ◌∙◌, ap₂, arith}
use Rattle.kinds.specs.declared.class.Class.{Class}
use Rattle.tokens.specs.Out.{Out, ok, no}
use Rattle.tokens.specs.Spots.{spot}
use Rattle.tokens.specs.Lexing.{digit}
use Rattle.grammar.specs.Expr.{Expr, empty, any, term, call, seq, alt, star, not, Grammar, nesting}
use Rattle.grammar.specs.Spelling.{spell, spell_class, spell_rule, spell_classes, spell_rules, spelling}
use Rattle.grammar.specs.Allowed.{Each, Fits, ClassFits, NumbersFit}
use Rattle.books.specs.declared.fault.BookFault.TheVariants.{InExpr}
use Rattle.books.specs.declared.fault.ExprFault.TheVariants.{TooDeep}
use Rattle.books.specs.declared.head.Leaf.TheVariants.{Empty, Any}
use Rattle.books.specs.declared.head.Numbered.TheVariants.{Term, Call}
use Rattle.books.specs.declared.head.One.TheVariants.{Star, Not}
use Rattle.books.specs.declared.head.Two.TheVariants.{Seq, Alt}
use Rattle.books.specs.Reading.{numbering, operands, bracketed, ExprReader}
use Rattle.books.specs.Verdict.{Writable}
use Rattle.books.proofs.Complete.{Reads, number_there, by_leaf, by_number, by_one, by_two, some_nesting}

-- what was read, and what it left, are settled by the bytes
read_once : {E A : Type 0} {o : Out E A} {a b : A} {i j : ℕ} {xs ys : List ℕ} → o ≡ ok a i xs → o ≡ ok b j ys → (a ≡ b) × (xs ≡ ys)
read_once p q = (cc, cc)

-- a number, and what stands after the byte that ends it
number_once : (v w x : ℕ) (r s : List ℕ) → digit x ≡ false → Fits v → Fits w → decimal v ++ (x ∷ r) ≡ decimal w ++ (x ∷ s) → (v ≡ w) × (r ≡ s)
number_once v w x r s b m n e =
    let p = read_once (number_there [] 0 v x r b m).1 (ap (λ k. numbering [] 0 k) e ∙ (number_there [] 0 w x s b n).1) in
    (p.0, ap (drop 1) p.1)

-- An expression nested at most l deep, however many expressions it is made of.
unfoldable uncounted : ℕ → ExprReader
uncounted zero n at xs = no (InExpr (TooDeep (spot [] at)))
uncounted (suc l) n at xs = bracketed [] (operands [] (uncounted l)) 0 at xs

-- It is read as e, whatever place and count it is read with.
abbrev Back : ℕ → List ℕ → Expr → List ℕ → Type 0
Back l xs e r = (n at : ℕ) → Reads (uncounted l n at xs) e r

-- an expression of any size is read back
read_back : (e : Expr) (l : ℕ) (r : List ℕ) → nesting e ≤ l → NumbersFit e → Back l (spell e r) e r
unfolding uncounted
read_back e zero r d m n at = absurd (omega (arith, some_nesting e))
read_back empty (suc l) r d m n at = by_leaf [] (uncounted l) (λ k. k) Empty 0 at r (omega arith)
read_back any (suc l) r d m n at = by_leaf [] (uncounted l) (λ k. k) Any 0 at r (omega arith)
read_back (term v) (suc l) r d m n at = by_number [] (uncounted l) (λ k. k) Term v 0 at r (omega arith) m
read_back (call v) (suc l) r d m n at = by_number [] (uncounted l) (λ k. k) Call v 0 at r (omega arith) m
read_back (seq a b) (suc l) r d m n at = by_two [] (uncounted l) (λ k. k) Seq a b 0 at r (omega arith) (read_back a l _ (omega arith) m.0 _) (read_back b l _ (omega arith) m.1 _)
read_back (alt a b) (suc l) r d m n at = by_two [] (uncounted l) (λ k. k) Alt a b 0 at r (omega arith) (read_back a l _ (omega arith) m.0 _) (read_back b l _ (omega arith) m.1 _)
read_back (star a) (suc l) r d m n at = by_one [] (uncounted l) (λ k. k) Star a 0 at r (omega arith) (read_back a l _ (omega arith) m _)
read_back (not a) (suc l) r d m n at = by_one [] (uncounted l) (λ k. k) Not a 0 at r (omega arith) (read_back a l _ (omega arith) m _)

expr_once : (e f : Expr) (r s : List ℕ) → NumbersFit e → NumbersFit f → spell e r ≡ spell f s → (e ≡ f) × (r ≡ s)
expr_once e f r s m n q =
    let l : ℕ = max (nesting e) (nesting f) in
    read_once (read_back e l r (omega arith) m 0 0).1 (ap (λ k. uncounted l 0 0 k) q ∙ (read_back f l s (omega arith) n 0 0).1)

class_once : (c d : Class) (r s : List ℕ) → ClassFits c → ClassFits d → spell_class c r ≡ spell_class d s → (c ≡ d) × (r ≡ s)
class_once c d r s m n q =
    let p = number_once c.first d.first 32 _ _ refl m.0 n.0 (ap (λ k. drop 7 k) q) in
    let u = number_once c.second d.second 41 _ _ refl m.1 n.1 p.1 in
    (ap₂ (λ a b. record { first = a; second = b }) p.0 u.0, ap (λ k. drop 1 k) u.1)

rule_once : (e f : Expr) (r s : List ℕ) → NumbersFit e → NumbersFit f → spell_rule e r ≡ spell_rule f s → (e ≡ f) × (r ≡ s)
rule_once e f r s m n q = let p = expr_once e f _ _ m n (ap (λ k. drop 6 k) q) in (p.0, ap (λ k. drop 2 k) p.1)

-- rule lines do not begin as a class line does
not_class : (es : List Expr) (c : Class) (r : List ℕ) → spell_rules es ≡ spell_class c r → ⊥
not_class [] c r q = let z : ◌≡◌ {A = ℕ} 0 40 = ap (λ k. get_or k 0 0) q in omega arith
not_class (e ∷ es) c r q = let z : ◌≡◌ {A = ℕ} 114 99 = ap (λ k. get_or k 1 0) q in omega arith

classes_once : (cs ds : List Class) (es fs : List Expr) → Each ClassFits cs → Each ClassFits ds → spell_classes cs (spell_rules es) ≡ spell_classes ds (spell_rules fs) → (cs ≡ ds) × (spell_rules es ≡ spell_rules fs)
classes_once [] [] es fs m n q = (refl, q)
classes_once [] (d ∷ ds) es fs m n q = absurd (not_class es d _ q)
classes_once (c ∷ cs) [] es fs m n q = absurd (not_class fs c _ (sym q))
classes_once (c ∷ cs) (d ∷ ds) es fs m n q =
    let p = class_once c d _ _ m.0 n.0 q in
    let u = classes_once cs ds es fs m.1 n.1 p.1 in
    (ap₂ ◌∷◌ p.0 u.0, u.1)

rules_once : (es fs : List Expr) → Each NumbersFit es → Each NumbersFit fs → spell_rules es ≡ spell_rules fs → es ≡ fs
rules_once [] [] m n q = refl
rules_once [] (f ∷ fs) m n q = let z : ◌≡◌ {A = ℕ} 0 40 = ap (λ k. get_or k 0 0) q in absurd (omega arith)
rules_once (e ∷ es) [] m n q = let z : ◌≡◌ {A = ℕ} 40 0 = ap (λ k. get_or k 0 0) q in absurd (omega arith)
rules_once (e ∷ es) (f ∷ fs) m n q =
    let p = rule_once e f _ _ m.0 n.0 q in
    ap₂ ◌∷◌ p.0 (rules_once es fs m.1 n.1 p.1)

pub grammar_once : (g h : Grammar) → Writable g → Writable h → spelling g ≡ spelling h → g ≡ h
grammar_once g h m n q =
    let p = classes_once g.classes h.classes g.rules h.rules m.0 n.0 q in
    ap₂ (λ a b. record { classes = a; rules = b }) p.0 (rules_once g.rules h.rules m.1 n.1 p.1)
