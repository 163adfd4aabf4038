-- What the parts of the reader promise.
use Rattle.std.specs.Prelude.{◌≡◌, ℕ, ◌+◌, ◌-◌, ◌≤◌, List, [], ◌∷◌, ◌++◌, length, drop, Result, MatchResult}
use Rattle.tokens.specs.Out.{Out, ok, no}
use Rattle.grammar.specs.declared.node.Operator.{Operator}
use Rattle.grammar.specs.declared.table.Table.{Table}
use Rattle.grammar.specs.declared.limited.Limited.{Limited}
use Rattle.grammar.specs.Expr.{Expr}
use Rattle.grammar.specs.Allowed.{line_width}
use Rattle.grammar.specs.Tables.{laid, listed}
use Rattle.grammar.specs.Layout.{operator_of, below, flat, flats, starts}
use Rattle.books.specs.declared.fault.BookFault.{BookFault}
use Rattle.books.specs.declared.head.Head.{Head}
use Rattle.books.specs.declared.reader.Reader.{Reader}
use Rattle.books.specs.Heads.{head_word}
use Rattle.books.specs.Reading.{rule_lines}

-- The bytes from where a reader stands on.
abbrev pub rest : Reader → List ℕ
rest r = drop r.at r.bytes.now

-- A reading by the reader r that gave the value a and left it as s.
pub record Stepped {E A : Type 0} (o : Out E A) (r : Reader) (a : A) (s : Reader) : Type 0 where
  pub same : s.bytes.now ≡ r.bytes.now
  pub says : o ≡ ok a s.at (rest s)

-- The reader r answered what the reading rd gives where r stands, and went on as s.
abbrev pub Follows : {E A : Type 0} → (ℕ → List ℕ → Out E A) → Reader → Result A E → Reader → Type 0
Follows rd r result s = MatchResult result (λ a. Stepped (rd r.at (rest r)) r a s) (λ e. rd r.at (rest r) ≡ no e)

-- How many expressions the table has.
abbrev pub count : Table → ℕ
count t = length (laid t)

-- A reading of an expression that stands at `place`, which the table has got.
pub record Grown (rd : ℕ → List ℕ → Out BookFault Expr) (place : ℕ) (r s : Reader) (before now : Table) : Type 0 where
  pub tree : Expr
  pub step : Stepped (rd r.at (rest r)) r tree s
  pub wrote : laid now ≡ laid before ++ flat (count before) place tree

-- The reader r answered whether the reading rd of an expression that stands at `place` has one; it went on as s, and the table has got it.
abbrev pub Grows : (ℕ → List ℕ → Out BookFault Expr) → ℕ → Reader → Result (Unit {0}) BookFault → Reader → Table → Table → Type 0
Grows rd place r result s before now = MatchResult result (λ _. Grown rd place r s before now) (λ e. rd r.at (rest r) ≡ no e)

-- A reading of the operands that stand past the word of `head`, which the table has got.
pub record Filled (rd : ℕ → List ℕ → Out BookFault Expr) (head : Head) (r s : Reader) (before now : Table) (operator : Operator) : Type 0 where
  pub tree : Expr
  pub step : Stepped (rd r.at (rest r)) r tree s
  pub is : operator ≡ operator_of tree
  pub wrote : (place : ℕ) → r.at ≡ place + (length (head_word head) + 1) → laid now ≡ laid before ++ below (count before) place tree

-- The bytes that rule lines take.
abbrev pub line_widths : List Expr → ℕ
line_widths [] = 0
line_widths (e ∷ es) = line_width e + line_widths es

-- The rule lines that the reader has read so far, since it was `start`.
pub record Begun (start : Reader) (table : Table) (roots : Limited ℕ 32) (r : Reader) : Type 0 where
  pub trees : List Expr
  pub same : r.bytes.now ≡ start.bytes.now
  pub goes : rule_lines r.bytes.now (32 - length (listed roots)) trees (count table) r.at (rest r) ≡ rule_lines start.bytes.now 32 [] 0 start.at (rest start)
  pub wrote : laid table ≡ flats 0 start.at trees
  pub begins : listed roots ≡ starts 0 trees
  pub most : length (listed roots) ≤ 32
  pub moved : r.at ≡ start.at + line_widths trees

-- All rule lines are read, and the tables have got them.
pub record Ruled (start : Reader) (table : Table) (roots : Limited ℕ 32) : Type 0 where
  pub trees : List Expr
  pub says : rule_lines start.bytes.now 32 [] 0 start.at (rest start) ≡ ok trees (length start.bytes.now) []
  pub wrote : laid table ≡ flats 0 start.at trees
  pub begins : listed roots ≡ starts 0 trees
