use Rattle.std.proofs.Common.{rules, tests, arith, ◌∙◌}
use Rattle.std.proofs.lemmas.Grind.{common_steps}
use Rattle.std.proofs.lemmas.Iterator.{YieldsList-from_slice}
use Rattle.std.proofs.lemmas.Iterator.Search.{YieldsList-from_take_while}
use Rattle.std.proofs.lemmas.Iterator.Consumers.{count_from_yields_List}
use Rattle.std.proofs.lemmas.List.Folds.{length-prefix_len}
use Rattle.std.proofs.lemmas.List.Sums.{prefix_len-le-length}
use Rattle.tokens.specs.Lexing.{digit}
use Rattle.tokens.proofs.lexer.cut_number.Goals as goal

pub returns : goal.returns
returns c book at =
    let counted = count_from_yields_List c.take_while.result _ c.count-width.ensures.ran
    (YieldsList-from_take_while _ digit (YieldsList-from_slice c.args.bytes.now cc) c.take_while.ensures.closure c.take_while.ensures.done (λ x b q k. search (rules, tests))) in
    let width = counted ∙ length-prefix_len digit c.args.bytes.now in
    let within = prefix_len-le-length digit c.args.bytes.now in
    grind (arith, common_steps)
