-- Writing piece by piece.
use Rattle.std.proofs.Common.{◌≡◌, ℕ, ◌+◌, ◌<◌, ◌≤◌, List, [], ◌++◌, length, get_or, take, drop, Some, sym, ap, ◌∙◌, subst, arith, length-append, length-drop}
use Rattle.std.specs.List.{flat_map}
use Rattle.std.proofs.lemmas.List.{append-nil, append_assoc, drop-drop, flat_map_more, take_all, take_more, take-append-drop, length-take-le}
use Rattle.std.proofs.lemmas.List.Folds.{length-flat_map-take}
use Rattle.writing.specs.declared.writer.Writer.{Writer}
use Rattle.writing.specs.Wrote.{written, left, Put, Wrote}

-- Two pieces, one after the other.
pub two : {a b : List ℕ} {w x y : Writer} → Put a w x → Put b x y → Put (a ++ b) w y
two {a} {b} {w} {x} {y} p q = record {
  added = q.added ∙ ap (λ l. l ++ b) p.added ∙ append_assoc (written w) a b;
  rest = q.rest ∙ ap (drop (length b)) p.rest ∙ drop-drop (length b) (length a) (left w) ∙ ap (λ n. drop n (left w)) (sym (length-append a b));
  lent = q.lent ∙ p.lent;
}

-- After the first piece there is room for the second.
pub room : {a : List ℕ} (b : List ℕ) {w x : Writer} → length (a ++ b) ≤ length (left w) → Put a w x → length b ≤ length (left x)
room {a} b {w} {x} all p = omega (arith, all, length-append a b, ap length p.rest ∙ length-drop (length a) (left w))

-- What was written of a whole, and what is left to write of it.
pub record Partly (whole rest : List ℕ) (old new : Writer) : Type 0 where
  pub done : List ℕ
  pub split : whole ≡ done ++ rest
  pub put : Put done old new

-- The rest is these pieces, and the first is written now.
pub one_more : {whole rest a more : List ℕ} {w x y : Writer} → Partly whole rest w x → rest ≡ a ++ more → Put a x y → Partly whole more w y
one_more {a = a} {more = more} p e q = record {
  done = p.done ++ a;
  split = p.split ∙ ap (λ l. p.done ++ l) e ∙ sym (append_assoc p.done a more);
  put = two p.put q;
}

pub all_put : {whole rest : List ℕ} {w x : Writer} → Partly whole rest w x → rest ≡ [] → Put whole w x
all_put {w = w} {x = x} p e = subst (λ l. Put l w x) (sym (p.split ∙ ap (λ l. p.done ++ l) e ∙ append-nil p.done)) p.put

-- There is room for the piece that comes next.
pub room_next : {whole rest : List ℕ} (a more : List ℕ) {w x : Writer} → length whole ≤ length (left w) → Partly whole rest w x → rest ≡ a ++ more → length a ≤ length (left x)
room_next {whole} {rest} a more {w} {x} all p e =
    let here : length rest ≤ length (left x) = room rest (omega (arith, all, ap length p.split)) p.put in
    omega (arith, here, ap length e, length-append a more)

-- Lines: those of the first i items are written, and there is room for the next one's.
pub line_room : {X : Type 0} (f : X → List ℕ) (xs : List X) (i : ℕ) (d : X) {w x : Writer} → length (flat_map f xs) ≤ length (left w) → Put (flat_map f (take i xs)) w x → i < length xs → length (f (get_or xs i d)) ≤ length (left x)
line_room f xs i d {w} {x} all p inside = omega (arith, length-flat_map-take f xs i d inside, ap length p.rest ∙ length-drop (length (flat_map f (take i xs))) (left w))

pub line_more : {X : Type 0} (f : X → List ℕ) (xs : List X) (i : ℕ) (d : X) {w x y : Writer} → Put (flat_map f (take i xs)) w x → i < length xs → Put (f (get_or xs i d)) x y → Put (flat_map f (take (i + 1) xs)) w y
line_more f xs i d {w} {x} {y} p inside q =
    let e : flat_map f (take (i + 1) xs) ≡ flat_map f (take i xs) ++ f (get_or xs i d) = ap (flat_map f) (take_more xs i d inside) ∙ sym (flat_map_more f [] (take i xs) (get_or xs i d)) in
    subst (λ l. Put l w y) (sym e) (two p q)

pub lines_all : {X : Type 0} (f : X → List ℕ) (xs ys : List X) (i : ℕ) {w x : Writer} → Put (flat_map f (take i xs)) w x → length xs ≤ i → xs ≡ ys → Put (flat_map f ys) w x
lines_all f xs ys i {w} {x} p past same = subst (λ l. Put (flat_map f l) w x) (take_all i xs past ∙ same) p

-- What stands at the front of a buffer, once a writer that began there has written it.
pub front : {bytes spelled : List ℕ} (w x : Writer) → w.count ≡ 0 → Put bytes w x → bytes ≡ spelled → (after : List ℕ) → after ≡ x.out.now → Wrote spelled w.out.now (Some x.count) after
front {bytes} {spelled} w x begins p is after lent =
    let all : written x ≡ spelled = p.added ∙ ap (λ n. take n w.out.now ++ bytes) begins ∙ is in
    let count : x.count ≡ length spelled = sym (length-take-le x.count x.out.now x.within) ∙ ap length all in
    let rest : left x ≡ drop x.count w.out.now = p.rest ∙ ap (λ n. drop (length bytes) (drop n w.out.now)) begins ∙ ap (λ n. drop n w.out.now) (ap length is ∙ sym count) in
    (count, lent ∙ sym (take-append-drop x.count x.out.now) ∙ ap (λ l. l ++ left x) all ∙ ap (λ l. spelled ++ l) rest)
