-- Which expressions may match without reading a symbol.
use Rattle.std.specs.Prelude.{ℕ, List}
use Rattle.grammar.specs.Expr.{Expr, empty, call, seq, alt, star, not, body}

-- The smallest relation with these rules.
pub data Nullable (rules : List Expr) : Expr → Type 0 where
  of_empty : Nullable rules empty
  of_star : {e : Expr} → Nullable rules (star e)
  of_not : {e : Expr} → Nullable rules (not e)
  of_call : {n : ℕ} → Nullable rules (body rules n) → Nullable rules (call n)
  of_seq : {a b : Expr} → Nullable rules a → Nullable rules b → Nullable rules (seq a b)
  of_first : {a b : Expr} → Nullable rules a → Nullable rules (alt a b)
  of_second : {a b : Expr} → Nullable rules b → Nullable rules (alt a b)
