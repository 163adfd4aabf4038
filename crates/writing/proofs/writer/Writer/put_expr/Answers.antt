use Rattle.std.proofs.Common.{◌+◌, ◌∙◌, length, drop, refl, sym, arith}
use Rattle.std.proofs.lemmas.Bool.{eqb-true, eqb-false}
use Rattle.stack.specs.Held.{held}
use Rattle.writing.specs.Walk.{ends}
use Rattle.writing.proofs.Ends.{opened_is, length_ends}
use Rattle.writing.proofs.Puts.{all_put, room_next}
use Rattle.writing.proofs.Turns.{walked_turn, walked_past, fronted, goes_on, all_closed}
use Rattle.writing.proofs.writer.Writer.put_expr.Goals as goal

pub put_opening-requires : goal.put_opening-requires
put_opening-requires c = room_next _ _ c.requires c.loop-i.invariant.bytes (walked_turn _ _ c.nodes_from-nodes.result.now _ c.loop-i-test.true)

pub put_closings-requires : goal.put_closings-requires
put_closings-requires c =
    let opens = opened_is c.loop-i.stack c.push.new.self _ _ c.loop-i.invariant.size c.push.ensures.room c.push.ensures.held in
    room_next _ _ c.requires (fronted _ _ _ c.nodes_from-nodes.result.now _ c.loop-i.invariant.bytes c.loop-i-test.true c.put_opening.ensures opens) refl

pub returns-then-is_empty : goal.returns-then-is_empty
returns-then-is_empty c =
    let nodes = c.nodes_from-nodes.result.now in
    let opens = opened_is c.loop-i.stack c.push.new.self _ _ c.loop-i.invariant.size c.push.ensures.room c.push.ensures.held in
    let front = fronted _ _ _ nodes _ c.loop-i.invariant.bytes c.loop-i-test.true c.put_opening.ensures opens in
    let none = length_ends (held c.put_closings.new.stack) ∙ eqb-true _ _ (sym c.is_empty.ensures ∙ c.if-is_empty.true) in
    all_closed (c.from-first.result + c.loop-i.i + 1) (ends (held c.push.new.self)) (drop (c.loop-i.i + 1) nodes) _ front c.put_closings.ensures.bytes c.put_closings.ensures.left none

pub loop-i-preserved : goal.loop-i-preserved
loop-i-preserved c =
    let nodes = c.nodes_from-nodes.result.now in
    let opens = opened_is c.loop-i.stack c.push.new.self _ _ c.loop-i.invariant.size c.push.ensures.room c.push.ensures.held in
    let front = fronted _ _ _ nodes _ c.loop-i.invariant.bytes c.loop-i-test.true c.put_opening.ensures opens in
    let some = eqb-false (length (held c.put_closings.new.stack)) 0 (sym c.is_empty.ensures ∙ c.if-is_empty.false) in
    record {
      bytes = goes_on (c.from-first.result + c.loop-i.i + 1) (c.from-first.result + (c.loop-i.i + 1)) (ends (held c.push.new.self)) (drop (c.loop-i.i + 1) nodes) _ front c.put_closings.ensures.bytes c.put_closings.ensures.left (omega (arith, length_ends (held c.put_closings.new.stack), some)) (omega arith);
      size = omega arith;
    }

pub returns : goal.returns
returns c = all_put c.loop-i.invariant.bytes (walked_past _ _ c.nodes_from-nodes.result.now _ c.loop-i-test.false)
