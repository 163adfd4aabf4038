use Rattle.std.proofs.Common.{◌≡◌, ◌≤◌, length, take, drop}
use Rattle.texts.proofs.copy.copy_symbols.Given as goal

abbrev pub invariant-loop-place : goal.invariant-loop-place
invariant-loop-place g l = record {
  within : l.place ≤ length (g.T.Text.list l.text);
  filled : take l.place l.out ≡ take l.place (g.T.Text.list l.text);
  untouched : drop l.place l.out ≡ drop l.place l.initial.out;
}
