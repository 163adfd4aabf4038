use Rattle.std.proofs.Common.{Ok, refl, rules}
use Rattle.station_with_books.specs.Calls.{Took}
use Rattle.station_with_books.proofs.Promises.{loads_keep}
use Rattle.station_with_books.proofs.state.Station.load.Goals as goal

pub returns-in_err-book-clause-keeps : goal.returns-in_err-book-clause-keeps
returns-in_err-book-clause-keeps g c = loads_keep g.K.Kind.lawful _ _ _ _ (search rules)

pub returns : goal.returns
returns g c =
    let v = c.in_ok-book.ensures.verdict in
    let s = (c.in_ok-book.ensures.spelled _ _ v.0).0 v.1 in
    let took : Took (g.K.Kind.lawful c.args.self.now.kind) c.args.self.now c.args.bytes.now c.from-counts.result _ = record {
      grammar = v.0;
      book = c.in_ok-book.book;
      spells = s.0;
      allowed = s.1;
      counts_are = c.from-counts.ensures v.0 v.2;
      in_force = refl;
      holds = v.2;
      kind_stays = refl;
      sum_stays = refl;
      reads_stay = refl;
    } in
    record { keeps = loads_keep g.K.Kind.lawful _ _ _ (Ok _) took; loads = took }
