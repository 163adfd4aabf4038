use Rattle.std.proofs.Common.{ℕ, sym, refl, subst, arith, length-take}
use Rattle.station_with_books.specs.declared.request.Request.TheVariants.{Load}
use Rattle.checking.specs.Checks.{Checked, over, accepted, refused}
use Rattle.checking.specs.Reports.{acceptance}
use Rattle.checking.proofs.Asked.{answered, took_then, faulty_then, is_loaded, is_shown}
use Rattle.checking.proofs.asking.check.Goals as goal
use Rattle.checking.proofs.asking.check.Goals.{in-Ok+in_ok-put_acceptance-in-Ok, in-Err+in_ok-put_refusal-in-Err}

pub returns-then-input-gt-MOST_INPUT : goal.returns-then-input-gt-MOST_INPUT
returns-then-input-gt-MOST_INPUT c = rw (c.in_ok-extend_from_slice.ensures.items, c.new-text.ensures.items) (over (omega arith))

pub returns-in_default : goal.returns-in_default
returns-in_default c =
    let two = answered c.args.input.now c.as_mut_slice-out.result.now (Load c.args.input) c.min-room.result c.serve.new.answers c.serve.auto.answers c.serve.ensures.count c.min-room.ensures (omega (arith, c.as_mut_slice-out.ensures.len, c.in_ok-buffer.ensures.len)) refl (λ reply. refl) c.serve.ensures.served in
    elim (is_loaded two c.in_default.not-Loaded) [ ]

pub returns-in_default-shown : goal.returns-in_default-shown
returns-in_default-shown c =
    let two = answered c.args.input.now c.as_mut_slice-out.result.now (Load c.args.input) c.min-room.result c.serve.new.answers c.serve.auto.answers c.serve.ensures.count c.min-room.ensures (omega (arith, c.as_mut_slice-out.ensures.len, c.in_ok-buffer.ensures.len)) refl (λ reply. refl) c.serve.ensures.served in
    elim (is_shown two c.in_default-shown.not-Shown) [ ]

pub unwrap-length-requires : goal.unwrap-length-requires
unwrap-length-requires c =
    let two = answered c.args.input.now c.as_mut_slice-out.result.now (Load c.args.input) c.min-room.result c.serve.new.answers c.serve.auto.answers c.serve.ensures.count c.min-room.ensures (omega (arith, c.as_mut_slice-out.ensures.len, c.in_ok-buffer.ensures.len)) refl (λ reply. refl) c.serve.ensures.served in
    (took_then two c.in-Loaded.is c.in-Shown.is c.in-Ok.is).is_shown

pub slice_bounds-put_acceptance-end : goal.slice_bounds-put_acceptance-end
slice_bounds-put_acceptance-end c =
    let two = answered c.args.input.now c.as_mut_slice-out.result.now (Load c.args.input) c.min-room.result c.serve.new.answers c.serve.auto.answers c.serve.ensures.count c.min-room.ensures (omega (arith, c.as_mut_slice-out.ensures.len, c.in_ok-buffer.ensures.len)) refl (λ reply. refl) c.serve.ensures.served in
    let h = (took_then two c.in-Loaded.is c.in-Shown.is c.in-Ok.is).shows _ c.unwrap-length.ensures in
    omega (arith, h.0, length-take {A = ℕ})

pub returns : goal.returns
returns c =
    let two = answered c.args.input.now c.as_mut_slice-out.result.now (Load c.args.input) c.min-room.result c.serve.new.answers c.serve.auto.answers c.serve.ensures.count c.min-room.ensures (omega (arith, c.as_mut_slice-out.ensures.len, c.in_ok-buffer.ensures.len)) refl (λ reply. refl) c.serve.ensures.served in
    elim c.match-loaded-2.branch [
      | in-Ok+in_ok-put_acceptance-in-Ok w ↦
          let p = w.in_ok-put_acceptance-in-Ok.ensures in
          let t = took_then two c.in-Loaded.is c.in-Shown.is w.in-Ok.is in
          let same = t.shows _ w.unwrap-length.ensures in
          rw (w.text-is, p, c.new-text.ensures.items) (subst (λ b. Checked c.args.input.now (acceptance w.in-Ok.counts b)) (sym same.1) (accepted (omega arith) t.spells t.allowed t.counts_are))
      | in-Err+in_ok-put_refusal-in-Err w ↦
          let p = w.in_ok-put_refusal-in-Err.ensures in
          rw (w.text-is, p.2, c.new-text.ensures.items) (refused (omega arith) (faulty_then two c.in-Loaded.is w.in-Err.is) p.1)
    ]
