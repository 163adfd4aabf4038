use Rattle.std.proofs.Common.{[], length, ap, arith, length-append}
use Rattle.grammar.specs.Spelling.{spell_class}
use Rattle.grammar.specs.Tables.{laid, listed}
use Rattle.writing.specs.Walk.{class_lines, rule_line, rule_lines}
use Rattle.writing.proofs.Puts.{two, room, line_room, line_more, lines_all}
use Rattle.writing.proofs.writer.Writer.put_book.Goals as goal

pub put_class-requires : goal.put_class-requires
put_class-requires c =
    let book = c.args.book.now in
    line_room (λ x. spell_class x []) c.as_slice-class-items.result.now _ _
    (omega (arith, c.requires, length-append (class_lines (listed book.classes)) (rule_lines (laid book.table) (listed book.roots)), ap (λ l. length (class_lines l)) c.as_slice-class-items.ensures.list)) c.loop-class.invariant c.loop-class-test.true

pub loop-class-preserved : goal.loop-class-preserved
loop-class-preserved c = line_more (λ x. spell_class x []) _ _ _ c.loop-class.invariant c.loop-class-test.true c.put_class.ensures

pub put_rule-requires : goal.put_rule-requires
put_rule-requires c =
    let book = c.args.book.now in
    let classes = lines_all (λ x. spell_class x []) _ _ _ c.loop-class.invariant c.loop-class-test.false c.as_slice-class-items.ensures.list in
    let left = room (rule_lines (laid book.table) (listed book.roots)) c.requires classes in
    line_room (rule_line (laid book.table)) c.as_slice-start-items.result.now _ _ (omega (arith, left, ap (λ l. length (rule_lines (laid book.table) l)) c.as_slice-start-items.ensures.list)) c.loop-start.invariant c.loop-start-test.true

pub loop-start-preserved : goal.loop-start-preserved
loop-start-preserved c = line_more (rule_line (laid c.args.book.now.table)) _ _ _ c.loop-start.invariant c.loop-start-test.true c.put_rule.ensures

pub returns : goal.returns
returns c =
    two (lines_all (λ x. spell_class x []) _ _ _ c.loop-class.invariant c.loop-class-test.false c.as_slice-class-items.ensures.list)
    (lines_all (rule_line (laid c.args.book.now.table)) _ _ _ c.loop-start.invariant c.loop-start-test.false c.as_slice-start-items.ensures.list)
