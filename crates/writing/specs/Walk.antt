-- What a walk over the nodes of a table writes, with a stack of the ends of the expressions that are still open, the innermost first.
use Rattle.std.specs.Prelude.{ℕ, ◌+◌, Bool, false, cond, List, [], ◌∷◌, ◌++◌, length, drop, map, reverse, codes, decimal, ◌==◌, nat_lt}
use Rattle.std.specs.List.{flat_map}
use Rattle.kinds.specs.declared.class.Class.{Class}
use Rattle.grammar.specs.Spelling.{spell_class}
use Rattle.grammar.specs.declared.node.Operator.{Operator}
use Rattle.grammar.specs.declared.node.Operator.TheVariants.{Empty, Any, Term, Call, Seq, Alt, Star, Not}
use Rattle.grammar.specs.declared.node.Node.{Node}
use Rattle.grammar.specs.declared.book.Book.{Book}
use Rattle.grammar.specs.Tables.{laid, listed}
use Rattle.writing.specs.declared.walk.OpenExpr.{OpenExpr}

-- A space and a number.
abbrev pub number_bytes : ℕ → List ℕ
number_bytes n = 32 ∷ decimal n

-- The front of an expression: a space, an opening bracket, its word and its number.
abbrev pub opening : Operator → List ℕ
opening Empty = codes " (empty"
opening Any = codes " (any"
opening (Term n) = codes " (term" ++ number_bytes n
opening (Call n) = codes " (call" ++ number_bytes n
opening Seq = codes " (seq"
opening Alt = codes " (alt"
opening Star = codes " (star"
opening Not = codes " (not"

-- The ends of what a stack holds: there the innermost stands last.
abbrev pub ends : List OpenExpr → List ℕ
ends xs = reverse (map (λ x. x.end) xs)

-- One more expression is open, if 64 are not already.
abbrev pub opened : ℕ → List ℕ → List ℕ
opened end st = cond (nat_lt (length st) 64) (end ∷ st) st

-- The innermost open expression ends before the node i.
abbrev pub ends_at : ℕ → List ℕ → Bool
ends_at i [] = false
ends_at i (end ∷ st) = end == i

-- The closing brackets of those that end before the node i.
abbrev pub closings : ℕ → List ℕ → List ℕ
closings i [] = []
closings i (end ∷ st) = cond (end == i) (41 ∷ closings i st) []

-- Those that are open after that.
abbrev pub still_open : ℕ → List ℕ → List ℕ
still_open i [] = []
still_open i (end ∷ st) = cond (end == i) (still_open i st) (end ∷ st)

-- The bytes, unless nothing is open.
abbrev pub while_open : List ℕ → List ℕ → List ℕ
while_open [] bytes = []
while_open (end ∷ st) bytes = bytes

-- What is written from the node i on, until nothing is open any more.
unfoldable pub walked : ℕ → List ℕ → List Node → List ℕ
walked i st [] = []
walked i st (node ∷ nodes) =
    let inside = opened node.end st in let open_still = still_open (i + 1) inside in
    opening node.operator ++ (closings (i + 1) inside ++ while_open open_still (walked (i + 1) open_still nodes))

-- The lines of the classes.
abbrev pub class_lines : List Class → List ℕ
class_lines classes = flat_map (λ class. spell_class class []) classes

-- The line of the rule whose expression begins at the node `start`.
abbrev pub rule_line : List Node → ℕ → List ℕ
rule_line nodes start = codes "(rule" ++ (walked start [] (drop start nodes) ++ codes ")\n")

-- The lines of the rules whose expressions begin at these nodes.
abbrev pub rule_lines : List Node → List ℕ → List ℕ
rule_lines nodes starts = flat_map (rule_line nodes) starts

-- The lines of a book, as its tables have them.
abbrev pub book_lines : Book → List ℕ
book_lines book = class_lines (listed book.classes) ++ rule_lines (laid book.table) (listed book.roots)
