-- What one turn of the walk writes.
use Rattle.std.proofs.Common.{◌≡◌, ℕ, ◌+◌, ◌<◌, ◌≤◌, List, [], ◌∷◌, ◌++◌, length, get_or, drop, sym, refl, ap, ◌∙◌, subst, arith}
use Rattle.std.proofs.lemmas.List.{drop_more, drop_all}
use Rattle.grammar.specs.declared.node.Node.{Node}
use Rattle.grammar.specs.Tables.{blank}
use Rattle.writing.specs.declared.writer.Writer.{Writer}
use Rattle.writing.specs.Wrote.{Put}
use Rattle.writing.specs.Walk.{opening, opened, closings, still_open, while_open, walked}
use Rattle.writing.proofs.Spelled.{resumed}
use Rattle.writing.proofs.Puts.{Partly, one_more, all_put}

-- A node's front, and then what is written once it is open.
pub walked_turn : (i : ℕ) (st : List ℕ) (nodes : List Node) (k : ℕ) → k < length nodes
    → walked i st (drop k nodes) ≡ opening (get_or nodes k blank).operator ++ resumed (i + 1) (opened (get_or nodes k blank).end st) (drop (k + 1) nodes)
unfolding walked
walked_turn i st nodes k inside = ap (walked i st) (drop_more nodes k blank inside)

pub walked_past : (i : ℕ) (st : List ℕ) (nodes : List Node) (k : ℕ) → length nodes ≤ k → walked i st (drop k nodes) ≡ []
unfolding walked
walked_past i st nodes k past = ap (walked i st) (drop_all k nodes past)

-- At the node k its front is written.
pub fronted : {whole : List ℕ} (i : ℕ) (st inside : List ℕ) (nodes : List Node) (k : ℕ) {w x y : Writer}
    → Partly whole (walked i st (drop k nodes)) w x → k < length nodes → Put (opening (get_or nodes k blank).operator) x y → inside ≡ opened (get_or nodes k blank).end st
    → Partly whole (resumed (i + 1) inside (drop (k + 1) nodes)) w y
fronted i st inside nodes k p within front opens =
    one_more p (walked_turn i st nodes k within ∙ ap (λ l. opening (get_or nodes k blank).operator ++ resumed (i + 1) l (drop (k + 1) nodes)) (sym opens)) front

-- The brackets are written too: the others follow while something is open.
pub goes_on : {whole : List ℕ} (i j : ℕ) (inside : List ℕ) (nodes : List Node) (open_still : List ℕ) {w x y : Writer}
    → Partly whole (resumed i inside nodes) w x → Put (closings i inside) x y → open_still ≡ still_open i inside → 0 < length open_still → i ≡ j → Partly whole (walked j open_still nodes) w y
goes_on i j inside nodes [] p brackets is some next = absurd (omega arith)
goes_on {whole} i j inside nodes (end ∷ st) {w} {x} {y} p brackets is some next =
    subst (λ n. Partly whole (walked n (end ∷ st) nodes) w y) next (subst (λ l. Partly whole (while_open l (walked i l nodes)) w y) (sym is) (one_more p refl brackets))

pub all_closed : {whole : List ℕ} (i : ℕ) (inside : List ℕ) (nodes : List Node) (open_still : List ℕ) {w x y : Writer}
    → Partly whole (resumed i inside nodes) w x → Put (closings i inside) x y → open_still ≡ still_open i inside → length open_still ≡ 0 → Put whole w y
all_closed i inside nodes [] p brackets is none = all_put (one_more p refl brackets) (ap (λ l. while_open l (walked i l nodes)) (sym is))
all_closed i inside nodes (end ∷ st) p brackets is none = absurd (omega arith)
