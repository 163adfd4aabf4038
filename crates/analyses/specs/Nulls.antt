-- Which expressions are nullable, by marks on the rules.
use Rattle.std.specs.Prelude.{◌≡◌, ℕ, Bool, true, false, ◌&&◌, ◌||◌, List, slice_index_or}
use Rattle.grammar.specs.Expr.{Expr, empty, any, term, call, seq, alt, star, not, body}
use Rattle.grammar.specs.Nullable.{Nullable}

-- Whether an expression is nullable, if exactly the marked rules are.
abbrev pub nulls : List Bool → Expr → Bool
nulls marks empty = true
nulls marks any = false
nulls marks (term n) = false
nulls marks (call n) = slice_index_or marks n false
nulls marks (seq a b) = nulls marks a && nulls marks b
nulls marks (alt a b) = nulls marks a || nulls marks b
nulls marks (star a) = true
nulls marks (not a) = true

-- Every marked rule is nullable.
abbrev pub Sound : List Expr → List Bool → Type 0
Sound rules marks = (n : ℕ) → slice_index_or marks n false ≡ true → Nullable rules (body rules n)

-- Every rule that is nullable by the marks is marked.
abbrev pub Closed : List Expr → List Bool → Type 0
Closed rules marks = (n : ℕ) → nulls marks (body rules n) ≡ true → slice_index_or marks n false ≡ true

-- Exactly the nullable rules are marked; a number that names no rule is not.
abbrev pub MarksRight : List Expr → List Bool → Type 0
MarksRight rules marks = (n : ℕ) → (slice_index_or marks n false ≡ true → Nullable rules (body rules n)) × (Nullable rules (body rules n) → slice_index_or marks n false ≡ true)
