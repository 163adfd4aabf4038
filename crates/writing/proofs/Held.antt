-- The lines of a book whose tables hold a grammar.
use Rattle.std.proofs.Common.{◌≡◌, ℕ, ◌+◌, ◌≤◌, List, [], ◌∷◌, ◌++◌, length, drop, codes, decimal, sym, refl, ap, ◌∙◌, arith, length-append}
use Rattle.std.proofs.lemmas.List.{append_assoc, drop_at}
use mathlib.Core.Logic.{∥∥₁_elim}
use native.Mathlib.Nat.{ℕ_set}
use Rattle.grammar.specs.declared.book.Book.{Book}
use Rattle.grammar.specs.Held.{Holds}
use Rattle.kinds.specs.declared.class.Class.{Class}
use Rattle.grammar.specs.declared.node.Node.{Node}
use Rattle.grammar.specs.Expr.{Expr, size, nesting, Grammar}
use Rattle.grammar.specs.Spelling.{spell, spell_class, spell_classes, spell_rules, spelling}
use Rattle.grammar.specs.Allowed.{past, line_width, Each, rules_at}
use Rattle.grammar.specs.Layout.{flat, flats, starts}
use Rattle.grammar.specs.Tables.{laid, listed}
use Rattle.grammar.proofs.Widths.{flat_length}
use Rattle.writing.specs.Walk.{walked, class_lines, rule_lines, book_lines}
use Rattle.writing.proofs.Spelled.{walked_spells, spell_append}

-- What follows a class line stands past it.
class_more : (c : Class) (r q : List ℕ) → spell_class c (r ++ q) ≡ spell_class c r ++ q
class_more c r q =
    ap (λ l. 40 ∷ (codes "class" ++ (32 ∷ l)))
    (ap (λ l. decimal c.first ++ (32 ∷ l)) (sym (append_assoc (decimal c.second) (41 ∷ (10 ∷ r)) q))
    ∙ sym (append_assoc (decimal c.first) (32 ∷ (decimal c.second ++ (41 ∷ (10 ∷ r)))) q))

classes_spelled : (cs : List Class) (r : List ℕ) → spell_classes cs r ≡ class_lines cs ++ r
classes_spelled [] r = refl
classes_spelled (c ∷ cs) r = ap (spell_class c) (classes_spelled cs r) ∙ class_more c [] (class_lines cs ++ r) ∙ sym (append_assoc (spell_class c []) (class_lines cs) r)

-- The rules' lines, where the nodes before theirs are `front`.
rules_spelled : (es : List Expr) (front : List Node) (i at : ℕ) → length front ≡ i → Each (λ e. nesting e ≤ 64) es → rule_lines (front ++ flats i at es) (starts i es) ≡ spell_rules es
rules_spelled [] front i at len low = refl
rules_spelled (e ∷ es) front i at len low =
    let p = past at (codes "rule") in
    let here = flat i p e in
    let after = flats (i + size e) (at + line_width e) es in
    let nodes = front ++ (here ++ after) in
    let walk : walked i [] (drop i nodes) ≡ 32 ∷ spell e [] = ap (walked i []) (drop_at front (here ++ after) i len) ∙ walked_spells e i p [] after (omega (arith, low.0)) in
    let long : length (front ++ here) ≡ i + size e = length-append front here ∙ omega (arith, flat_length i p e) in
    let others : rule_lines nodes (starts (i + size e) es) ≡ spell_rules es = ap (λ l. rule_lines l (starts (i + size e) es)) (sym (append_assoc front here after)) ∙ rules_spelled es (front ++ here) (i + size e) (at + line_width e) long low.1 in
    let lines = rule_lines nodes (starts (i + size e) es) in
    ap (λ l. (codes "(rule" ++ (l ++ codes ")\n")) ++ lines) walk
    ∙ ap (λ l. codes "(rule" ++ (32 ∷ l)) (append_assoc (spell e []) (codes ")\n") lines ∙ sym (spell_append e [] (codes ")\n" ++ lines)))
    ∙ ap (λ l. codes "(rule" ++ (32 ∷ spell e (codes ")\n" ++ l))) others

-- A book's lines are how the grammar is written that its tables hold.
pub lines_spell : (book : Book) (g : Grammar) → Holds book g → book_lines book ≡ spelling g
lines_spell book g holds =
    let nodes = laid book.table in
    let roots = listed book.roots in
    let rules : rule_lines nodes roots ≡ spell_rules g.rules =
    ap (λ l. rule_lines l roots) holds.nodes_are ∙ ap (rule_lines (flats 0 (rules_at g) g.rules)) holds.roots_are ∙ rules_spelled g.rules [] 0 (rules_at g) refl holds.shallow in
    ap (λ l. class_lines l ++ rule_lines nodes roots) holds.classes_are
    ∙ ap (λ l. class_lines g.classes ++ l) rules
    ∙ sym (classes_spelled g.classes (spell_rules g.rules))

-- They are as many bytes as the book says: a book holds some grammar.
pub lines_count : (book : Book) → length (book_lines book) ≡ book.length
lines_count book = ∥∥₁_elim book.known (ℕ_set _ _) (λ h. ap length (lines_spell book h.0 h.1) ∙ sym h.1.length_is)
