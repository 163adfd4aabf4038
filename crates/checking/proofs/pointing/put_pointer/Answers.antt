use Rattle.std.proofs.Common.{◌≡◌, ℕ, min, List, [], ◌∷◌, ◌++◌, length, replicate, vec_items, codes, ◌+◌, ◌-◌, take, take_all, append_assoc, refl, ap, arith, length-append}
use Rattle.checking.specs.declared.line.Line.{Line}
use Rattle.checking.specs.declared.excerpt.Excerpt.{Excerpt}
use Rattle.checking.specs.Lines.{Around}
use Rattle.checking.specs.Excerpts.{excerpt_of, cut_before, cut_after}
use Rattle.checking.specs.Escapes.{escapes}
use Rattle.checking.specs.Pointing.{part, dots, before, after, pointer, Points}
use Rattle.checking.proofs.pointing.put_pointer.Goals as goal

-- The pieces that were put, one after another, make the two lines.
pointed : (bs : List ℕ) (place p : ℕ) (line : Line) (e : Excerpt) (t : List ℕ) {u v w x y z o : List ℕ} (column : ℕ) → p ≡ min place (length bs) → Around bs place line → e ≡ excerpt_of line p →
    u ≡ t ++ dots (cut_before e) → v ≡ u ++ escapes (part bs e.from p) → column ≡ length v - length t →
    w ≡ v ++ escapes (part bs p e.to) → x ≡ w ++ dots (cut_after e) → y ≡ x ++ (10 ∷ []) → z ≡ y ++ replicate column 32 → o ≡ z ++ codes "^\n" →
    (shown : List ℕ) × Points bs place shown × (o ≡ t ++ shown)
pointed bs place p line e t {v = v} column is_p around is_e a b is_column c d f g h =
    let front : v ≡ t ++ before bs e p = rw (b, a) (simp append_assoc) in
    let wide : column ≡ length (before bs e p) = let l = length-append t (before bs e p) in omega (arith, is_column, ap length front, l) in
    let whole : _ ≡ t ++ pointer bs e p = rw (h, g, f, d, c, front, wide) (simp append_assoc) in
    let shows : pointer bs e p ≡ pointer bs (excerpt_of line (min place (length bs))) (min place (length bs)) = rw (is_e, is_p) refl in
    (pointer bs e p, record { line = line; around = around; shows = shows }, whole)

-- A text that grows by so many spaces.
spaced : (y z : List ℕ) (n m column : ℕ) → n ≡ length y + column → m ≡ length y → z ≡ take n y ++ replicate (n - m) 32 → z ≡ y ++ replicate column 32
spaced y z n m column is_n is_m is_z =
    let left : n - m ≡ column = omega (arith, is_n, is_m) in
    rw (is_z, take_all n y (omega (arith, is_n)), left) refl

pub returns : goal.returns
returns c =
    let dots_before = rw (c.as_bytes.ensures.value, c.dots.ensures, c.is_cut_before.ensures) at c.in_ok-extend_from_slice.ensures.items in
    let dots_after = rw (c.as_bytes-2.ensures.value, c.dots-2.ensures, c.is_cut_after.ensures) at c.in_ok-extend_from_slice-2.ensures.items in
    let column : c.len.result - c.len-start.result ≡ length (vec_items c.put_escaped.new.text) - length (vec_items c.args.text.now) = omega (arith, c.len.ensures, c.len-start.ensures, c.put_escaped.new.text.ok.0, c.args.text.now.ok.0) in
    pointed c.args.bytes.now c.args.place c.min-place.result c.around-line.result c.around-shown.result (vec_items c.args.text.now) (c.len.result - c.len-start.result)
    c.min-place.ensures c.around-line.ensures c.around-shown.ensures dots_before c.in_ok-put_escaped.ensures column c.in_ok-put_escaped-2.ensures dots_after c.in_ok-extend_from_slice-3.ensures.items (spaced _ _ (c.len-2.result + (c.len.result - c.len-start.result)) c.extend_from_slice-3.new.self.len _ (omega (arith, c.len-2.ensures, c.extend_from_slice-3.new.self.ok.0)) (omega (arith, c.extend_from_slice-3.new.self.ok.0)) c.in_ok-resize.ensures.items) c.in_ok-extend_from_slice-4.ensures.items
