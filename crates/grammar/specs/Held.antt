-- What it is for a loaded book to hold a grammar.
use Rattle.grammar.specs.declared.book.Book.{Book}
use Rattle.grammar.specs.Expr.{Grammar}
use Rattle.grammar.specs.Layout.{Lays}

-- The book's tables hold the grammar.
abbrev pub Holds : Book → Grammar → Type 0
Holds book g = Lays book.classes book.table book.roots book.length g
