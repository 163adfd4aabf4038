use Rattle.std.proofs.Common.{◌≡◌, ◌≤◌, length, take, drop}
use Rattle.station.proofs.Serves.{Serving}
use Rattle.station.proofs.serving.serve.Given as goal

abbrev pub invariant-loop-i : goal.invariant-loop-i
invariant-loop-i g l = record {
  asked : l.i ≤ length l.requests;
  served : Serving g.row.K-Symbol.Denot l.initial.station.kind l.station (take l.i l.requests) (take l.i l.answers);
  untouched : drop l.i l.answers ≡ drop l.i l.initial.answers;
}
