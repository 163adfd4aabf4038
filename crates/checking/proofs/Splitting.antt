-- Lines of a front and of a rest of the bytes.
use Rattle.std.proofs.Common.{◌≡◌, ℕ, ◌+◌, ◌-◌, ◌≤◌, List, length, take, drop, arith, length-take, length-drop}
use Rattle.std.proofs.lemmas.List.{get_or-take, get_or-drop}
use Rattle.checking.specs.Lines.{Starts, Ends}

pub starts_in_front : (bs : List ℕ) (p a : ℕ) → p ≤ length bs → Starts (take p bs) (length (take p bs)) a → Starts bs p a
starts_in_front bs p a h s =
    let front = length-take p bs in
    let before = s.before in
    record {
      before = omega arith;
      one_line = λ k i j. rw (get_or-take p bs k 0 j) at (s.one_line k i (omega arith));
      first = λ i. rw (get_or-take p bs (a - 1) 0 (omega arith)) at (s.first i);
    }

pub ends_in_rest : (bs : List ℕ) (p b : ℕ) → p ≤ length bs → Ends (drop p bs) 0 b → Ends bs p (p + b)
ends_in_rest bs p b h e =
    let rest = length-drop p bs in
    let within = e.within in
    record {
      after = omega arith;
      within = omega arith;
      one_line = λ k i j. let same : p + (k - p) ≡ k = omega arith in rw (get_or-drop p bs (k - p) 0, same) at (e.one_line (k - p) (omega arith) (omega arith));
      last = λ i. rw (get_or-drop p bs b 0) at (e.last (omega arith));
    }
