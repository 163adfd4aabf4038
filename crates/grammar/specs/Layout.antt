-- How the tables of a loaded book hold its grammar.
use Rattle.std.specs.Prelude.{◌≡◌, ℕ, ◌+◌, ◌≤◌, List, [], ◌∷◌, ◌++◌, length, codes}
use Rattle.kinds.specs.declared.class.Class.{Class}
use Rattle.grammar.specs.declared.node.Operator.{Operator}
use Rattle.grammar.specs.declared.node.Operator.TheVariants.{Empty, Any, Term, Call, Seq, Alt, Star, Not}
use Rattle.grammar.specs.declared.node.Node.{Node}
use Rattle.grammar.specs.declared.table.Table.{Table}
use Rattle.grammar.specs.declared.limited.Limited.{Limited}
use Rattle.grammar.specs.Expr.{Expr, empty, any, term, call, seq, alt, star, not, Grammar, size, nesting}
use Rattle.grammar.specs.Spelling.{spelling, width}
use Rattle.grammar.specs.Allowed.{past, line_width, rules_at, Each}
use Rattle.grammar.specs.Tables.{laid, listed}

-- An expression's own operator.
abbrev pub operator_of : Expr → Operator
operator_of empty = Empty
operator_of any = Any
operator_of (term n) = Term n
operator_of (call n) = Call n
operator_of (seq a b) = Seq
operator_of (alt a b) = Alt
operator_of (star a) = Star
operator_of (not a) = Not

-- The node of an expression with the number i that stands at the place `at` of its book.
abbrev pub root : ℕ → ℕ → Expr → Node
root i at e = record { operator = operator_of e; end = i + size e; place = at }

-- The nodes of the parts of an expression that stands at the place `at`, from the number i on.
abbrev pub below : ℕ → ℕ → Expr → List Node
below i at empty = []
below i at any = []
below i at (term n) = []
below i at (call n) = []
below i at (seq a b) =
    let p = past at (codes "seq") in let q = p + width a + 1 in
    (root i p a ∷ below (i + 1) p a) ++ (root (i + size a) q b ∷ below (i + size a + 1) q b)
below i at (alt a b) =
    let p = past at (codes "alt") in let q = p + width a + 1 in
    (root i p a ∷ below (i + 1) p a) ++ (root (i + size a) q b ∷ below (i + size a + 1) q b)
below i at (star a) = let p = past at (codes "star") in root i p a ∷ below (i + 1) p a
below i at (not a) = let p = past at (codes "not") in root i p a ∷ below (i + 1) p a

-- The nodes of an expression: itself, then its parts.
abbrev pub flat : ℕ → ℕ → Expr → List Node
flat i at e = root i at e ∷ below (i + 1) at e

-- The nodes of the rules whose first line begins at `at`.
abbrev pub flats : ℕ → ℕ → List Expr → List Node
flats i at [] = []
flats i at (e ∷ es) = flat i (past at (codes "rule")) e ++ flats (i + size e) (at + line_width e) es

-- The index of each rule's expression.
abbrev pub starts : ℕ → List Expr → List ℕ
starts i [] = []
starts i (e ∷ es) = i ∷ starts (i + size e) es

-- The tables hold the grammar, and `len` is how many bytes it is written in.
pub record Lays (classes : Limited Class 64) (table : Table) (roots : Limited ℕ 32) (len : ℕ) (g : Grammar) : Type 0 where
  pub classes_are : listed classes ≡ g.classes
  pub nodes_are : laid table ≡ flats 0 (rules_at g) g.rules
  pub roots_are : listed roots ≡ starts 0 g.rules
  pub length_is : len ≡ length (spelling g)
  pub shallow : Each (λ e. nesting e ≤ 64) g.rules

-- They hold some grammar.
abbrev pub Known : Limited Class 64 → Table → Limited ℕ 32 → ℕ → Type 0
Known classes table roots len = ∥ ((g : Grammar) × Lays classes table roots len g) ∥₁
