-- Rules that are laid out stand in the table.
use Rattle.std.proofs.Common.{◌≡◌, ℕ, zero, suc, ◌+◌, ◌<◌, List, [], ◌∷◌, ◌++◌, length, get_or, codes, ap, ◌∙◌, arith}
use Rattle.std.proofs.lemmas.Grind.{common_steps}
use Rattle.std.proofs.lemmas.List.{append_assoc, get_or_at, length-append, length_push}
use Rattle.grammar.specs.declared.node.Node.{Node}
use Rattle.grammar.specs.Expr.{Expr, empty, any, term, call, seq, alt, star, not, size, body}
use Rattle.grammar.specs.Spelling.{width}
use Rattle.grammar.specs.Allowed.{past, line_width}
use Rattle.grammar.specs.Tables.{blank}
use Rattle.grammar.specs.Layout.{root, flat, flats, starts}
use Rattle.grammar.proofs.Widths.{flat_length}
use Rattle.analyses.specs.Stands.{Heads, Stands}

-- The node of an expression that is laid out after others.
heads : (ns before after : List Node) (i at : ℕ) (e : Expr) → length before ≡ i → ns ≡ before ++ (root i at e ∷ after) → Heads ns i e
heads ns before after i at e l h = rw h (grind (arith, common_steps, get_or_at before (root i at e) after blank i l))

-- What is laid out past a node, and the second of two parts of that.
past_node : (ns before x after : List Node) (node : Node) (i : ℕ) → length before ≡ i → ns ≡ before ++ (node ∷ (x ++ after)) → (length (before ++ (node ∷ [])) ≡ i + 1) × (ns ≡ (before ++ (node ∷ [])) ++ (x ++ after))
past_node ns before x after node i l h = (length_push before node ∙ ap (λ n. n + 1) l, grind (arith, common_steps))

past_first : (ns before x y after : List Node) (i n : ℕ) → length before ≡ i → length x ≡ n → ns ≡ before ++ ((x ++ y) ++ after) → (ns ≡ before ++ (x ++ (y ++ after))) × (length (before ++ x) ≡ i + n) × (ns ≡ (before ++ x) ++ (y ++ after))
past_first ns before x y after i n l k h = (h ∙ simp append_assoc, omega (arith, length-append before x), h ∙ simp append_assoc)

pub stands_flat : (ns before after : List Node) (i at : ℕ) (e : Expr) → length before ≡ i → ns ≡ before ++ (flat i at e ++ after) → Stands ns i e
stands_flat ns before after i at empty l h = (heads ns before after i at empty l h, tt)
stands_flat ns before after i at any l h = (heads ns before after i at any l h, tt)
stands_flat ns before after i at (term n) l h = (heads ns before after i at (term n) l h, tt)
stands_flat ns before after i at (call n) l h = (heads ns before after i at (call n) l h, tt)
stands_flat ns before after i at (seq a b) l h =
    let p = past at (codes "seq") in
    let q = p + width a + 1 in
    let x = flat (i + 1) p a in
    let y = flat (i + 1 + size a) q b in
    let here = before ++ (root i at (seq a b) ∷ []) in
    let first = past_node ns before (x ++ y) after (root i at (seq a b)) i l h in
    let second = past_first ns here x y after (i + 1) (size a) first.0 (flat_length (i + 1) p a) first.1 in (
      heads ns before ((x ++ y) ++ after) i at (seq a b) l h,
      (stands_flat ns here (y ++ after) (i + 1) p a first.0 second.0, stands_flat ns (here ++ x) after (i + 1 + size a) q b second.1 second.2),
    )
stands_flat ns before after i at (alt a b) l h =
    let p = past at (codes "alt") in
    let q = p + width a + 1 in
    let x = flat (i + 1) p a in
    let y = flat (i + 1 + size a) q b in
    let here = before ++ (root i at (alt a b) ∷ []) in
    let first = past_node ns before (x ++ y) after (root i at (alt a b)) i l h in
    let second = past_first ns here x y after (i + 1) (size a) first.0 (flat_length (i + 1) p a) first.1 in (
      heads ns before ((x ++ y) ++ after) i at (alt a b) l h,
      (stands_flat ns here (y ++ after) (i + 1) p a first.0 second.0, stands_flat ns (here ++ x) after (i + 1 + size a) q b second.1 second.2),
    )
stands_flat ns before after i at (star a) l h =
    let p = past at (codes "star") in
    let operand = past_node ns before (flat (i + 1) p a) after (root i at (star a)) i l h in
    (heads ns before (flat (i + 1) p a ++ after) i at (star a) l h, stands_flat ns (before ++ (root i at (star a) ∷ [])) after (i + 1) p a operand.0 operand.1)
stands_flat ns before after i at (not a) l h =
    let p = past at (codes "not") in
    let operand = past_node ns before (flat (i + 1) p a) after (root i at (not a)) i l h in
    (heads ns before (flat (i + 1) p a ++ after) i at (not a) l h, stands_flat ns (before ++ (root i at (not a) ∷ [])) after (i + 1) p a operand.0 operand.1)

-- each rule stands where it starts
pub stands_rules : (ns before : List Node) (i at : ℕ) (rules : List Expr) → length before ≡ i → ns ≡ before ++ flats i at rules → (n : ℕ) → n < length rules → Stands ns (get_or (starts i rules) n 0) (body rules n)
stands_rules ns before i at [] l h n k = absurd (omega arith)
stands_rules ns before i at (e ∷ es) l h zero k = stands_flat ns before (flats (i + size e) (at + line_width e) es) i (past at (codes "rule")) e l h
stands_rules ns before i at (e ∷ es) l h (suc n) k =
    let x = flat i (past at (codes "rule")) e in
    let longer : length (before ++ x) ≡ i + size e = omega (arith, length-append before x, flat_length i (past at (codes "rule")) e) in
    stands_rules ns (before ++ x) (i + size e) (at + line_width e) es longer (h ∙ simp append_assoc) n (omega arith)
