use Rattle.std.proofs.Common.{◌≡◌, ◌≤◌, length, take, drop}
use Rattle.station_with_books.proofs.Serves.{Serving}
use Rattle.station_with_books.proofs.serving.serve.Given as goal

abbrev pub invariant-loop-i : goal.invariant-loop-i
invariant-loop-i g l = record {
  asked : l.i ≤ length l.requests;
  served : Serving g.row.K-Symbol.Denot g.K.Kind.lawful l.fn.kind l.station l.fn.out (take l.i l.requests) (take l.i l.answers) l.out;
  untouched : drop l.i l.answers ≡ drop l.i l.initial.answers;
}
