use Rattle.std.proofs.Common.{◌≡◌, ℕ, ◌<◌, Bool, true, List, length, get_or, drop, Some, None, sym, refl, ap, ◌∙◌, arith, rules}
use Rattle.std.proofs.lemmas.List.{drop_more, drop_all}
use Rattle.std.specs.List.{find}
use Rattle.std.specs.Option.{option_map}
use Rattle.grammar.specs.declared.node.Node.{Node}
use Rattle.grammar.specs.Tables.{laid, blank}
use Rattle.analyses.specs.Search.{lacks}
use Rattle.analyses.proofs.Decided.{missing_found, missing_once}
use Rattle.analyses.proofs.Search.{first_missing_lem}
use Rattle.analyses.proofs.missing.first_missing.Goals as goal

stops : (test : Node → Bool) (ns : List Node) (i : ℕ) → find test (drop i ns) ≡ find test ns → i < length ns → test (get_or ns i blank) ≡ true → find test ns ≡ Some (get_or ns i blank)
stops test ns i before here passes = sym before ∙ ap (find test) (drop_more ns i blank here) ∙ rw passes refl

pub returns-then-is_missing-clause-first : goal.returns-then-is_missing-clause-first
returns-then-is_missing-clause-first c =
    let test : Node → Bool = λ n. lacks c.count-classes.result c.count-rules.result n.operator in
    let ns = laid c.args.book.now.table in
    let same = c.nodes-node-items.ensures.nodes in
    let passes : test (get_or ns c.loop-node.node-index blank) ≡ true = rw (← same) (sym c.is_missing.ensures ∙ c.if-is_missing.true) in
    let s = stops test ns c.loop-node.node-index c.loop-node.invariant (omega (arith, ap length same)) passes in
    rw same (first_missing_lem c.args.book.now _ _ _ c.count-classes.ensures.count c.count-rules.ensures.count (ap (option_map (λ (n : Node). n.place)) (sym s)))

pub returns-then-is_missing-clause-found : goal.returns-then-is_missing-clause-found
returns-then-is_missing-clause-found c = missing_found

pub returns-then-is_missing-clause-once : goal.returns-then-is_missing-clause-once
returns-then-is_missing-clause-once c = missing_once

pub returns-clause-first : goal.returns-clause-first
returns-clause-first c =
    let ns = laid c.args.book.now.table in
    let same = c.nodes-node-items.ensures.nodes in
    let none = ap (find (λ (n : Node). lacks c.count-classes.result c.count-rules.result n.operator)) (drop_all c.loop-node.node-index ns (omega (arith, ap length same))) in
    first_missing_lem c.args.book.now _ _ _ c.count-classes.ensures.count c.count-rules.ensures.count (ap (option_map (λ (n : Node). n.place)) (sym none ∙ c.loop-node.invariant))

pub returns-clause-found : goal.returns-clause-found
returns-clause-found c = missing_found

pub returns-clause-once : goal.returns-clause-once
returns-clause-once c = missing_once
