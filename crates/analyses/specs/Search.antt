-- Which operators a search through the nodes of a table stops at.
use Rattle.std.specs.Prelude.{ℕ, Bool, false, nat_le}
use Rattle.grammar.specs.declared.node.Operator.{Operator}
use Rattle.grammar.specs.declared.node.Operator.TheVariants.{Empty, Any, Term, Call, Seq, Alt, Star, Not}

-- The operator names a class or a rule that is not there.
abbrev pub lacks : ℕ → ℕ → Operator → Bool
lacks classes rules Empty = false
lacks classes rules Any = false
lacks classes rules (Term n) = nat_le classes n
lacks classes rules (Call n) = nat_le rules n
lacks classes rules Seq = false
lacks classes rules Alt = false
lacks classes rules Star = false
lacks classes rules Not = false
