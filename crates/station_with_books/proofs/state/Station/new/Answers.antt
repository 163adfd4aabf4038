use Rattle.std.proofs.Common.{rules}
use Rattle.station_with_books.proofs.Links.{linked_lawful}
use Rattle.station_with_books.proofs.state.Station.new.Goals as goal

pub returns-clause-linked : goal.returns-clause-linked
returns-clause-linked g c = λ s log link. linked_lawful g.K.Kind.lawful c.args.kind (search rules) link
