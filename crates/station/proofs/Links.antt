-- Calls that keep their promises make a lawful log.
use Rattle.std.proofs.Common.{[]}
use Rattle.station.specs.declared.state.Station.{Station}
use Rattle.station.specs.Law.{Log, Lawful, none, more}
use Rattle.station.specs.Stand.{Stands, Linked, start, next}

pub linked_lawful : {K S : Type 0} (kind : K) {first station : Station K} {log : Log S} →
    Stands {S = S} kind first [] → Linked first station log → Lawful log × Stands kind station log
linked_lawful kind stands start = (none, stands)
linked_lawful kind stands (next {log = log} link keeps) =
    let before = linked_lawful kind stands link in
    let after = keeps kind log before.1 in
    (more before.0 after.0, after.1)
