-- How the nullable rules are found: rounds of flags on the nodes and marks on the rules.
use Rattle.std.specs.Prelude.{◌≡◌, ℕ, ◌+◌, ◌<◌, ◌≤◌, Bool, true, false, ◌&&◌, ◌||◌, ◌⊎◌, List, [], ◌∷◌, length, get_or, slice_index, slice_index_or}
use Rattle.grammar.specs.declared.node.Operator.{Operator}
use Rattle.grammar.specs.declared.node.Operator.TheVariants.{Empty, Any, Term, Call, Seq, Alt, Star, Not}
use Rattle.grammar.specs.declared.node.Node.{Node}
use Rattle.grammar.specs.Expr.{Expr}
use Rattle.grammar.specs.Tables.{blank}
use Rattle.analyses.specs.Nulls.{nulls}
use Rattle.analyses.specs.Stands.{Stands}

-- Whether the node with the number i is nullable, given the rules' marks and the flags of the nodes after it.
abbrev pub flag_of : List Node → List Bool → List Bool → ℕ → Operator → Bool
flag_of ns marks flags i Empty = true
flag_of ns marks flags i Any = false
flag_of ns marks flags i (Term n) = false
flag_of ns marks flags i (Call n) = slice_index_or marks n false
flag_of ns marks flags i Seq = slice_index_or flags (i + 1) false && slice_index_or flags (get_or ns (i + 1) blank).end false
flag_of ns marks flags i Alt = slice_index_or flags (i + 1) false || slice_index_or flags (get_or ns (i + 1) blank).end false
flag_of ns marks flags i Star = true
flag_of ns marks flags i Not = true

-- From the number i on, the flags say which nodes are nullable by the marks.
abbrev pub Flagged : ℕ → List Node → List Bool → List Bool → Type 0
Flagged i ns marks flags = (k : ℕ) (e : Expr) → i ≤ k → Stands ns k e → slice_index_or flags k false ≡ nulls marks e

-- How many rules are not marked.
abbrev pub unmarked : List Bool → ℕ
unmarked [] = 0
unmarked (true ∷ marks) = unmarked marks
unmarked (false ∷ marks) = 1 + unmarked marks

-- What a round has done to the marks of the first k rules: each whose root is flagged is marked.
pub record Round (k : ℕ) (roots : List ℕ) (flags before after : List Bool) (changed : Bool) : Type 0 where
  pub as_long : length after ≡ length before
  pub new : (n : ℕ) → slice_index_or after n false ≡ true → (slice_index_or before n false ≡ true) ⊎ ((n < k) × (slice_index_or flags (slice_index roots n) false ≡ true))
  pub fewer : changed ≡ true → unmarked after < unmarked before
  pub still : changed ≡ false → (after ≡ before) × ((n : ℕ) → n < k → slice_index_or flags (slice_index roots n) false ≡ true → slice_index_or before n false ≡ true)
