-- What is asked of a grammar has an answer, and only one.
use Rattle.std.specs.Prelude.{◌≡◌, ℕ, ◌⊎◌, List, Option}
use Rattle.grammar.specs.Expr.{Expr, Grammar}
use Rattle.grammar.specs.Nullable.{Nullable}
use Rattle.grammar.specs.Allowed.{Placed, expressions, Missing, Loop, Found}

-- An expression is nullable or it is not.
abbrev pub NullableDecided : Type 0
NullableDecided = (rules : List Expr) (e : Expr) → Nullable rules e ⊎ (Nullable rules e → ⊥)

-- There is a first name of nothing, or none.
abbrev pub MissingFound : Type 0
MissingFound = (g : Grammar) → (r : Option ℕ) × Found (Missing g) (expressions g) r

-- There is a first endless `star`, or none.
abbrev pub LoopFound : Type 0
LoopFound = (g : Grammar) → (r : Option ℕ) × Found (Loop g) (expressions g) r

-- What a search for the first one finds is one thing.
abbrev pub FoundOnce : Type 1
FoundOnce = (P : Expr → Type 0) (ps : List Placed) (r s : Option ℕ) → Found P ps r → Found P ps s → r ≡ s

-- So it is of the first name of nothing, and of the first endless `star`.
abbrev pub MissingOnce : Type 0
MissingOnce = (g : Grammar) (r s : Option ℕ) → Found (Missing g) (expressions g) r → Found (Missing g) (expressions g) s → r ≡ s

abbrev pub LoopOnce : Type 0
LoopOnce = (g : Grammar) (r s : Option ℕ) → Found (Loop g) (expressions g) r → Found (Loop g) (expressions g) s → r ≡ s
