use Rattle.std.proofs.Common.{◌/◌, refl, rules, arith}
use Rattle.std.proofs.lemmas.Option.{slice_get_read}
use Rattle.texts.proofs.Nth.{packed_past, packed_high, packed_low}
use Rattle.texts.proofs.packed.PackedText.symbol.Goals as goal
use Rattle.texts.proofs.packed.PackedText.symbol.Goals.{then-place-eq0, else-place-eq0}

pub returns-in_err-byte : goal.returns-in_err-byte
returns-in_err-byte c =
    let past = packed_past c.args.self.now.bytes.now c.args.place c.args.self.now.within (search rules) in
    search rules

pub returns : goal.returns
returns c =
    let bytes = c.args.self.now.bytes.now in
    let at = slice_get_read bytes _ (c.args.place / 2) c.in_ok-byte.byte.now refl (search rules) (search rules) in
    elim c.if-place-eq0.branch [
      | then-place-eq0 w ↦ let high = packed_high bytes c.args.place _ c.args.self.now.within (omega arith) at in search rules
      | else-place-eq0 w ↦ let low = packed_low bytes c.args.place _ c.args.self.now.within (λ even. omega arith) at in search rules
    ]
