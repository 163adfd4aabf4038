-- How a grammar is written: the bytes of its book.
use Rattle.std.specs.Prelude.{ℕ, List, [], ◌∷◌, ◌++◌, length, codes, decimal}
use Rattle.kinds.specs.declared.class.Class.{Class}
use Rattle.grammar.specs.Expr.{Expr, empty, any, term, call, seq, alt, star, not, Grammar}

-- The bytes of an expression, and then r: an opening bracket (40), its word, a space (32) before each operand, a closing bracket (41).
abbrev pub spell : Expr → List ℕ → List ℕ
spell empty r = 40 ∷ (codes "empty" ++ (41 ∷ r))
spell any r = 40 ∷ (codes "any" ++ (41 ∷ r))
spell (term n) r = 40 ∷ (codes "term" ++ (32 ∷ (decimal n ++ (41 ∷ r))))
spell (call n) r = 40 ∷ (codes "call" ++ (32 ∷ (decimal n ++ (41 ∷ r))))
spell (seq a b) r = 40 ∷ (codes "seq" ++ (32 ∷ spell a (32 ∷ spell b (41 ∷ r))))
spell (alt a b) r = 40 ∷ (codes "alt" ++ (32 ∷ spell a (32 ∷ spell b (41 ∷ r))))
spell (star a) r = 40 ∷ (codes "star" ++ (32 ∷ spell a (41 ∷ r)))
spell (not a) r = 40 ∷ (codes "not" ++ (32 ∷ spell a (41 ∷ r)))

-- A class line, and then r; each line ends in a line feed (10).
abbrev pub spell_class : Class → List ℕ → List ℕ
spell_class c r = 40 ∷ (codes "class" ++ (32 ∷ (decimal c.first ++ (32 ∷ (decimal c.second ++ (41 ∷ (10 ∷ r)))))))

-- A rule line, and then r.
abbrev pub spell_rule : Expr → List ℕ → List ℕ
spell_rule e r = 40 ∷ (codes "rule" ++ (32 ∷ spell e (41 ∷ (10 ∷ r))))

abbrev pub spell_classes : List Class → List ℕ → List ℕ
spell_classes [] r = r
spell_classes (c ∷ cs) r = spell_class c (spell_classes cs r)

abbrev pub spell_rules : List Expr → List ℕ
spell_rules [] = []
spell_rules (e ∷ es) = spell_rule e (spell_rules es)

-- The bytes of the book: the class lines, then the rule lines.
abbrev pub spelling : Grammar → List ℕ
spelling g = spell_classes g.classes (spell_rules g.rules)

-- How many bytes an expression takes.
abbrev pub width : Expr → ℕ
width e = length (spell e [])
