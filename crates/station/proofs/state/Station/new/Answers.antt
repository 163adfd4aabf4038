use Rattle.std.proofs.Common.{rules}
use Rattle.station.proofs.Links.{linked_lawful}
use Rattle.station.proofs.state.Station.new.Goals as goal

pub returns-clause-linked : goal.returns-clause-linked
returns-clause-linked g c = λ s log link. linked_lawful _ (search rules) link
