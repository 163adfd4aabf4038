-- Expressions by how many operands they have.
use Rattle.std.specs.Prelude.{ℕ, List, codes}
use Rattle.grammar.specs.declared.node.Operator.{Operator}
use Rattle.grammar.specs.declared.node.Operator.TheVariants.{Empty as EmptyOp, Any as AnyOp, Term as TermOp, Call as CallOp, Seq as SeqOp, Alt as AltOp, Star as StarOp, Not as NotOp}
use Rattle.grammar.specs.Expr.{Expr, empty, any, term, call, seq, alt, star, not}
use Rattle.books.specs.declared.head.Leaf.{Leaf}
use Rattle.books.specs.declared.head.Leaf.TheVariants.{Empty, Any}
use Rattle.books.specs.declared.head.Numbered.{Numbered}
use Rattle.books.specs.declared.head.Numbered.TheVariants.{Term, Call}
use Rattle.books.specs.declared.head.One.{One}
use Rattle.books.specs.declared.head.One.TheVariants.{Star, Not}
use Rattle.books.specs.declared.head.Two.{Two}
use Rattle.books.specs.declared.head.Two.TheVariants.{Seq, Alt}
use Rattle.books.specs.declared.head.Head.{Head}
use Rattle.books.specs.declared.head.Head.TheVariants.{Leaf as Leaf', Numbered as Numbered', One as One', Two as Two'}

-- The expression that an operator makes of its operands.
abbrev pub leaf : Leaf → Expr
leaf Empty = empty
leaf Any = any

abbrev pub numbered : Numbered → ℕ → Expr
numbered Term n = term n
numbered Call n = call n

abbrev pub one : One → Expr → Expr
one Star a = star a
one Not a = not a

abbrev pub two : Two → Expr → Expr → Expr
two Seq a b = seq a b
two Alt a b = alt a b

-- The same as an operator of the table.
abbrev pub leaf_op : Leaf → Operator
leaf_op Empty = EmptyOp
leaf_op Any = AnyOp

abbrev pub numbered_op : Numbered → ℕ → Operator
numbered_op Term n = TermOp n
numbered_op Call n = CallOp n

abbrev pub one_op : One → Operator
one_op Star = StarOp
one_op Not = NotOp

abbrev pub two_op : Two → Operator
two_op Seq = SeqOp
two_op Alt = AltOp

-- Its word.
abbrev pub leaf_word : Leaf → List ℕ
leaf_word Empty = codes "empty"
leaf_word Any = codes "any"

abbrev pub numbered_word : Numbered → List ℕ
numbered_word Term = codes "term"
numbered_word Call = codes "call"

abbrev pub one_word : One → List ℕ
one_word Star = codes "star"
one_word Not = codes "not"

abbrev pub two_word : Two → List ℕ
two_word Seq = codes "seq"
two_word Alt = codes "alt"

abbrev pub head_word : Head → List ℕ
head_word (Leaf' k) = leaf_word k
head_word (Numbered' k) = numbered_word k
head_word (One' k) = one_word k
head_word (Two' k) = two_word k
