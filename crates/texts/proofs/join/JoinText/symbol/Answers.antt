use Rattle.std.proofs.Common.{◌++◌, ◌∙◌, arith}
use Rattle.texts.proofs.Nth.{nth_past, nth_front, nth_back}
use Rattle.texts.proofs.join.JoinText.symbol.Goals as goal

pub returns-then-place-ge-MOST_SYMBOLS : goal.returns-then-place-ge-MOST_SYMBOLS
returns-then-place-ge-MOST_SYMBOLS g c =
    nth_past 65535 (g.A.Text.list c.args.self.now.front ++ g.B.Text.list c.args.self.now.back) c.args.place (omega arith)

pub returns-then-place-middle : goal.returns-then-place-middle
returns-then-place-middle g c =
    let front = g.A.Text.list c.args.self.now.front in
    c.symbol.ensures ∙ nth_front 65535 front (g.B.Text.list c.args.self.now.back) c.args.place (omega arith) (omega arith)

pub returns-else-place-middle : goal.returns-else-place-middle
returns-else-place-middle g c =
    let front = g.A.Text.list c.args.self.now.front in
    let back = nth_back 65535 front (g.B.Text.list c.args.self.now.back) c.args.place (omega arith) (omega arith) in
    c.symbol-else-place-middle.ensures ∙ (rw (← c.len-middle.ensures) at back)
