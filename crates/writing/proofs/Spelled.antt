-- What the walk writes of an expression's nodes is how the expression is spelled.
use Rattle.std.proofs.Common.{◌≡◌, ℕ, ◌+◌, ◌<◌, ◌≤◌, List, ◌∷◌, ◌++◌, length, codes, decimal, sym, refl, ap, ◌∙◌, arith}
use Rattle.std.proofs.lemmas.List.{append_assoc}
use Rattle.std.proofs.lemmas.Bool.{lt-ltb, eq-eqb, ne_eqb}
use Rattle.grammar.specs.declared.node.Node.{Node}
use Rattle.grammar.specs.Expr.{Expr, empty, any, term, call, seq, alt, star, not, size, nesting}
use Rattle.grammar.specs.Spelling.{spell, width}
use Rattle.grammar.specs.Allowed.{past}
use Rattle.grammar.specs.Layout.{flat, below, root, operator_of}
use Rattle.grammar.proofs.Widths.{below_length}
use Rattle.writing.specs.Walk.{opening, closings, still_open, while_open, walked}

-- The bytes from the node i on, when those that end there are not closed yet.
abbrev pub resumed : ℕ → List ℕ → List Node → List ℕ
resumed i st nodes = closings i st ++ while_open (still_open i st) (walked i (still_open i st) nodes)

-- An expression that ends here is closed.
resumed_end : (end i : ℕ) (st : List ℕ) (nodes : List Node) → end ≡ i → resumed i (end ∷ st) nodes ≡ 41 ∷ resumed i st nodes
resumed_end end i st nodes e =
    rw (eq-eqb end i e)

-- Where the innermost ends later, the walk goes on.
resumed_on : (end i : ℕ) (st : List ℕ) (nodes : List Node) → i < end → resumed i (end ∷ st) nodes ≡ walked i (end ∷ st) nodes
resumed_on end i st nodes h = rw (ne_eqb end i (λ e. omega arith))

size_some : (e : Expr) → 1 ≤ size e
size_some e = omega (arith, below_length 0 0 e)

-- A node is opened where there is room.
walked_node : (i at : ℕ) (e : Expr) (st : List ℕ) (nodes : List Node) → length st < 64 → walked i st (root i at e ∷ nodes) ≡ opening (operator_of e) ++ resumed (i + 1) ((i + size e) ∷ st) nodes
unfolding walked
walked_node i at e st nodes h = rw (lt-ltb (length st) 64 h)

-- A leaf is closed at once.
leaf : (i at : ℕ) (e : Expr) (st : List ℕ) (nodes : List Node) → size e ≡ 1 → length st < 64 → walked i st (root i at e ∷ nodes) ≡ opening (operator_of e) ++ (41 ∷ resumed (i + size e) st nodes)
leaf i at e st nodes one h =
    walked_node i at e st nodes h ∙ ap (λ l. opening (operator_of e) ++ l) (ap (λ k. resumed (i + k) ((i + size e) ∷ st) nodes) (sym one) ∙ resumed_end (i + size e) (i + size e) st nodes refl)

-- The walk over a part of an expression that ends at `end`.
part : (a : Expr) (i j at end : ℕ) (st : List ℕ) (nodes : List Node)
    → ((walked i (end ∷ st) (flat i at a ++ nodes)) ≡ 32 ∷ spell a (resumed (i + size a) (end ∷ st) nodes))
    → i < end → i + size a ≡ j → resumed i (end ∷ st) (flat i at a ++ nodes) ≡ 32 ∷ spell a (resumed j (end ∷ st) nodes)
part a i j at end st nodes ih h e =
    resumed_on end i st (flat i at a ++ nodes) h ∙ ih ∙ ap (λ k. 32 ∷ spell a (resumed k (end ∷ st) nodes)) e

-- The only part of an expression, and its end.
one : (a : Expr) (i at : ℕ) (st : List ℕ) (nodes : List Node)
    → walked (i + 1) ((i + (1 + size a)) ∷ st) (flat (i + 1) at a ++ nodes) ≡ 32 ∷ spell a (resumed (i + 1 + size a) ((i + (1 + size a)) ∷ st) nodes)
    → resumed (i + 1) ((i + (1 + size a)) ∷ st) (flat (i + 1) at a ++ nodes) ≡ 32 ∷ spell a (41 ∷ resumed (i + (1 + size a)) st nodes)
one a i at st nodes ih =
    let end = i + (1 + size a) in
    let some = size_some a in
    part a (i + 1) end at end st nodes ih (omega arith) (omega arith) ∙ ap (λ l. 32 ∷ spell a l) (resumed_end end end st nodes refl)

-- The two parts of an expression, and its end.
two : (a b : Expr) (i at at' : ℕ) (st : List ℕ) (nodes : List Node)
    → ((p : ℕ) (more : List Node) → walked (i + 1) ((i + (1 + (size a + size b))) ∷ st) (flat (i + 1) p a ++ more) ≡ 32 ∷ spell a (resumed (i + 1 + size a) ((i + (1 + (size a + size b))) ∷ st) more))
    → ((p : ℕ) → walked (i + 1 + size a) ((i + (1 + (size a + size b))) ∷ st) (flat (i + 1 + size a) p b ++ nodes) ≡ 32 ∷ spell b (resumed (i + 1 + size a + size b) ((i + (1 + (size a + size b))) ∷ st) nodes))
    → resumed (i + 1) ((i + (1 + (size a + size b))) ∷ st) ((flat (i + 1) at a ++ flat (i + 1 + size a) at' b) ++ nodes) ≡ 32 ∷ spell a (32 ∷ spell b (41 ∷ resumed (i + (1 + (size a + size b))) st nodes))
two a b i at at' st nodes first second =
    let end = i + (1 + (size a + size b)) in
    let some = size_some a in
    let other = size_some b in
    let more = flat (i + 1 + size a) at' b ++ nodes in
    ap (λ l. resumed (i + 1) (end ∷ st) l) (append_assoc (flat (i + 1) at a) (flat (i + 1 + size a) at' b) nodes)
    ∙ part a (i + 1) (i + 1 + size a) at end st more (first at more) (omega arith) refl
    ∙ ap (λ l. 32 ∷ spell a l) (part b (i + 1 + size a) end at' end st nodes (second at') (omega arith) (omega arith) ∙ ap (λ l. 32 ∷ spell b l) (resumed_end end end st nodes refl))

pub walked_spells : (e : Expr) (i at : ℕ) (st : List ℕ) (nodes : List Node) → length st + nesting e ≤ 64 → walked i st (flat i at e ++ nodes) ≡ 32 ∷ spell e (resumed (i + size e) st nodes)
walked_spells empty i at st nodes h = leaf i at empty st nodes refl (omega arith)
walked_spells any i at st nodes h = leaf i at any st nodes refl (omega arith)
walked_spells (term n) i at st nodes h = leaf i at (term n) st nodes refl (omega arith)
walked_spells (call n) i at st nodes h = leaf i at (call n) st nodes refl (omega arith)
walked_spells (seq a b) i at st nodes h =
    let p = past at (codes "seq") in
    walked_node i at (seq a b) st (below (i + 1) at (seq a b) ++ nodes) (omega arith)
    ∙ ap (λ l. codes " (seq" ++ l) (two a b i p (p + width a + 1) st nodes (λ at' more. walked_spells a (i + 1) at' ((i + (1 + (size a + size b))) ∷ st) more (omega arith)) (λ at'. walked_spells b (i + 1 + size a) at' ((i + (1 + (size a + size b))) ∷ st) nodes (omega arith)))
walked_spells (alt a b) i at st nodes h =
    let p = past at (codes "alt") in
    walked_node i at (alt a b) st (below (i + 1) at (alt a b) ++ nodes) (omega arith)
    ∙ ap (λ l. codes " (alt" ++ l) (two a b i p (p + width a + 1) st nodes (λ at' more. walked_spells a (i + 1) at' ((i + (1 + (size a + size b))) ∷ st) more (omega arith)) (λ at'. walked_spells b (i + 1 + size a) at' ((i + (1 + (size a + size b))) ∷ st) nodes (omega arith)))
walked_spells (star a) i at st nodes h =
    let p = past at (codes "star") in
    walked_node i at (star a) st (flat (i + 1) p a ++ nodes) (omega arith)
    ∙ ap (λ l. codes " (star" ++ l) (one a i p st nodes (walked_spells a (i + 1) p ((i + (1 + size a)) ∷ st) nodes (omega arith)))
walked_spells (not a) i at st nodes h =
    let p = past at (codes "not") in
    walked_node i at (not a) st (flat (i + 1) p a ++ nodes) (omega arith)
    ∙ ap (λ l. codes " (not" ++ l) (one a i p st nodes (walked_spells a (i + 1) p ((i + (1 + size a)) ∷ st) nodes (omega arith)))

-- What follows an expression's bytes stands past them.
pub spell_append : (e : Expr) (r q : List ℕ) → spell e (r ++ q) ≡ spell e r ++ q
spell_append empty r q = refl
spell_append any r q = refl
spell_append (term n) r q = ap (λ l. 40 ∷ (codes "term" ++ (32 ∷ l))) (sym (append_assoc (decimal n) (41 ∷ r) q))
spell_append (call n) r q = ap (λ l. 40 ∷ (codes "call" ++ (32 ∷ l))) (sym (append_assoc (decimal n) (41 ∷ r) q))
spell_append (seq a b) r q = ap (λ l. 40 ∷ (codes "seq" ++ (32 ∷ l))) (ap (λ l. spell a (32 ∷ l)) (spell_append b (41 ∷ r) q) ∙ spell_append a (32 ∷ spell b (41 ∷ r)) q)
spell_append (alt a b) r q = ap (λ l. 40 ∷ (codes "alt" ++ (32 ∷ l))) (ap (λ l. spell a (32 ∷ l)) (spell_append b (41 ∷ r) q) ∙ spell_append a (32 ∷ spell b (41 ∷ r)) q)
spell_append (star a) r q = ap (λ l. 40 ∷ (codes "star" ++ (32 ∷ l))) (spell_append a (41 ∷ r) q)
spell_append (not a) r q = ap (λ l. 40 ∷ (codes "not" ++ (32 ∷ l))) (spell_append a (41 ∷ r) q)
