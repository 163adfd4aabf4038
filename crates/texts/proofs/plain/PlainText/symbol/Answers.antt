use Rattle.std.proofs.Common.{rules, arith, length-take}
use Rattle.texts.proofs.Nth.{copied_get}
use Rattle.texts.proofs.plain.PlainText.symbol.Goals as goal

pub slice_bounds-get-end : goal.slice_bounds-get-end
slice_bounds-get-end g c = let h = simp length-take at c.len.ensures in simp length-take (omega arith)

pub returns : goal.returns
returns g c =
    let found = copied_get 65535 _ _ _ _ c.len.ensures c.get.ensures.lookup in
    search rules
