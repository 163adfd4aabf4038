-- Parsing expressions, and the grammars made of them.
use Rattle.std.specs.Prelude.{ℕ, ◌+◌, max, List, slice_index_or}
use Rattle.kinds.specs.declared.class.Class.{Class}

-- A parsing expression.
pub data Expr : Type 0 where
  empty : Expr
  any : Expr
  term : ℕ → Expr
  call : ℕ → Expr
  seq : Expr → Expr → Expr
  alt : Expr → Expr → Expr
  star : Expr → Expr
  not : Expr → Expr

-- A grammar: the classes that its terms name, and the rules' expressions, both numbered from 0.
pub record Grammar : Type 0 where
  pub classes : List Class
  pub rules : List Expr

-- The expression of the rule with a number. A number that names no rule stands for `any`, which calls nothing.
abbrev pub body : List Expr → ℕ → Expr
body rules n = slice_index_or rules n any

-- How many expressions it is made of, itself among them.
abbrev pub size : Expr → ℕ
size empty = 1
size any = 1
size (term n) = 1
size (call n) = 1
size (seq a b) = 1 + (size a + size b)
size (alt a b) = 1 + (size a + size b)
size (star a) = 1 + size a
size (not a) = 1 + size a

-- How deep it is nested, itself counting 1.
abbrev pub nesting : Expr → ℕ
nesting empty = 1
nesting any = 1
nesting (term n) = 1
nesting (call n) = 1
nesting (seq a b) = 1 + max (nesting a) (nesting b)
nesting (alt a b) = 1 + max (nesting a) (nesting b)
nesting (star a) = 1 + nesting a
nesting (not a) = 1 + nesting a
