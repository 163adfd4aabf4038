-- Which expression a node of a table is.
use Rattle.std.specs.Prelude.{◌≡◌, ℕ, ◌+◌, ◌<◌, List, length, slice_index_or}
use Rattle.grammar.specs.declared.node.Node.{Node}
use Rattle.grammar.specs.Expr.{Expr, empty, any, term, call, seq, alt, star, not, size}
use Rattle.grammar.specs.Tables.{blank}
use Rattle.grammar.specs.Layout.{operator_of}

-- The node with the number i has the expression's operator, and ends past its parts.
abbrev pub Heads : List Node → ℕ → Expr → Type 0
Heads ns i e = (i < length ns) × ((slice_index_or ns i blank).operator ≡ operator_of e) × ((slice_index_or ns i blank).end ≡ i + size e)

-- The parts of the expression are the nodes from the number i on.
abbrev pub Below : List Node → ℕ → Expr → Type 0
Below ns i empty = Unit {0}
Below ns i any = Unit {0}
Below ns i (term n) = Unit {0}
Below ns i (call n) = Unit {0}
Below ns i (seq a b) = (Heads ns i a × Below ns (i + 1) a) × (Heads ns (i + size a) b × Below ns (i + size a + 1) b)
Below ns i (alt a b) = (Heads ns i a × Below ns (i + 1) a) × (Heads ns (i + size a) b × Below ns (i + size a + 1) b)
Below ns i (star a) = Heads ns i a × Below ns (i + 1) a
Below ns i (not a) = Heads ns i a × Below ns (i + 1) a

-- The expression is the node with the number i, and its parts are the nodes after it.
abbrev pub Stands : List Node → ℕ → Expr → Type 0
Stands ns i e = Heads ns i e × Below ns (i + 1) e
