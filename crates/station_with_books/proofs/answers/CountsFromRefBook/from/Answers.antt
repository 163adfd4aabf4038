use Rattle.grammar.specs.Allowed.{rules_at}
use Rattle.grammar.proofs.Widths.{starts_length}
use Rattle.books.proofs.Ruled.{flats_length}
use Rattle.station_with_books.proofs.answers.CountsFromRefBook.from.Goals as goal

pub returns : goal.returns
returns c = λ g holds. cc (starts_length 0 g.rules, flats_length 0 (rules_at g) g.rules)
