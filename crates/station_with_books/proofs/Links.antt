-- Calls that keep their promises make a lawful log.
use Rattle.std.proofs.Common.{Bool, []}
use Rattle.kinds.specs.declared.class.Class.{Class}
use Rattle.station_with_books.specs.declared.state.Station.{Station}
use Rattle.station_with_books.specs.Law.{Log, Lawful, none, more}
use Rattle.station_with_books.specs.Stand.{Stands, Linked, start, next}

pub linked_lawful : {K S : Type 0} (lawful : K → Class → Bool) (kind : K) {first station : Station K} {log : Log S} →
    Stands {S = S} lawful kind first [] → Linked lawful first station log → Lawful (lawful kind) log × Stands lawful kind station log
linked_lawful lawful kind stands start = (none, stands)
linked_lawful lawful kind stands (next {log = log} link keeps) =
    let before = linked_lawful lawful kind stands link in
    let after = keeps kind log before.1 in
    (more before.0 after.0, after.1)
