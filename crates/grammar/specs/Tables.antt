-- What the tables of a book list.
use Rattle.std.specs.Prelude.{ℕ, List, take}
use Rattle.kinds.specs.declared.class.Class.{Class}
use Rattle.grammar.specs.declared.node.Operator.TheVariants.{Empty}
use Rattle.grammar.specs.declared.node.Node.{Node}
use Rattle.grammar.specs.declared.limited.Limited.{Limited}
use Rattle.grammar.specs.declared.table.Table.{Table}

-- The items that count.
unfoldable pub listed : {A : Type 0} {most : ℕ} → Limited A most → List A
listed l = take l.count l.list

-- The expressions that count.
unfoldable pub laid : Table → List Node
laid t = listed t.list

-- What a number past the table reads as.
abbrev pub blank : Node
blank = record { operator = Empty; end = 0; place = 0 }

-- What a number past the classes reads as.
abbrev pub no_class : Class
no_class = record { first = 0; second = 0 }
