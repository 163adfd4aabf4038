use Rattle.std.proofs.Common.{◌≡◌, [], ◌∷◌, ◌++◌, length, get_or, arith, ap, ◌∙◌}
use Rattle.std.proofs.lemmas.List.{append_assoc, get_or_at, length-append, length-set, length_push}
use Rattle.grammar.specs.Tables.{laid, blank}
use Rattle.analyses.proofs.Rounds.{flagged_more}
use Rattle.analyses.proofs.nullable.flag_nodes.Goals as goal

pub loop-i-preserved : goal.loop-i-preserved
loop-i-preserved c =
    let left = c.next.new.self.iter.iter.rest.now in
    let node = c.in-Some.node.now in
    let nodes = laid c.args.table.now in
    let i = c.in-Some.i in
    let step = c.in-Some.ensures.steps in
    let so_far = c.loop-i.invariant in
    let done = node ∷ so_far.2.0 in
    let count : length left ≡ i = omega arith in
    let split : nodes ≡ left ++ done = so_far.2.1 ∙ ap (λ l. l ++ so_far.2.0) step.1.0 ∙ append_assoc left (node ∷ []) so_far.2.0 in
    let here : get_or nodes i blank ≡ node = ap (λ l. get_or l i blank) split ∙ get_or_at left node so_far.2.0 blank i count in
    let longer = ap length step.1.0 ∙ length_push left node in
    let whole = ap length (c.nodes-nodes.ensures.nodes ∙ split) ∙ length-append left done in (
      omega arith,
      length-set c.loop-i.flags i c.flag_node.result ∙ so_far.1,
      (done, split),
      rw count (flagged_more nodes c.args.marks.now c.loop-i.flags i (λ k e h s. so_far.3 k e (omega arith) s) c.flag_node.result (omega arith) (cc)),
    )
