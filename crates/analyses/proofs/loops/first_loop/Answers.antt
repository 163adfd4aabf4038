use Rattle.std.proofs.Common.{rules, ◌≡◌, ◌&&◌, Bool, Bor, drop}
use borrow.Author.Tests.{tests}
use Rattle.std.proofs.lemmas.Iterator.{YieldsList-from_slice, YieldsList-from_zip}
use Rattle.std.proofs.lemmas.Iterator.Adapters.{YieldsList-from_skip}
use Rattle.std.proofs.lemmas.Iterator.Search.{find_from_yields_List}
use Rattle.std.specs.List.{find, zip}
use Rattle.std.specs.Option.{option_map}
use Rattle.grammar.specs.declared.node.Node.{Node}
use Rattle.grammar.specs.Tables.{laid}
use Rattle.analyses.proofs.Decided.{loop_found, loop_once}
use Rattle.analyses.proofs.Search.{repeats, first_loop_lem}
use Rattle.analyses.proofs.loops.first_loop.Goals as goal

pub returns-clause-first : goal.returns-clause-first
returns-clause-first c =
    let nodes = laid c.args.book.now.table in
    let flags = c.flag_nodes-flags.result in
    let test : (Node × Bool) → Bool = λ p. repeats p.0.operator && p.1 in
    let found : option_map (λ (p : Bor Node × Bor Bool). (p.0.now, p.1.now)) c.find.result ≡ find test (zip nodes (drop 1 flags)) = find_from_yields_List test c.find.new.self _ c.find.result c.find.ensures.ran (YieldsList-from_zip (YieldsList-from_slice nodes (cc)) (YieldsList-from_skip 1 (YieldsList-from_slice flags (cc)) (cc))) (λ x b q k. search (rules, tests)) in
    let places : c.map.result ≡ option_map (λ (p : Node × Bool). p.0.place) (find test (zip nodes (drop 1 flags))) = search (rules, found) in
    first_loop_lem c.args.book.now _ _ _ c.nullable_rules-rules.ensures.right c.flag_nodes-flags.ensures places

pub returns-clause-found : goal.returns-clause-found
returns-clause-found c = loop_found

pub returns-clause-once : goal.returns-clause-once
returns-clause-once c = loop_once
