use Rattle.std.proofs.Common.{take}
use Rattle.grammar.specs.Tables.{laid}
use Rattle.writing.specs.Wrote.{Put}
use Rattle.writing.specs.Walk.{class_lines, rule_lines}
use Rattle.writing.proofs.writer.Writer.put_book.Given as goal

abbrev pub invariant-loop-class : goal.invariant-loop-class
invariant-loop-class l = Put (class_lines (take l.class-index l.class-items)) l.initial.self l.self

abbrev pub invariant-loop-start : goal.invariant-loop-start
invariant-loop-start l = Put (rule_lines (laid l.book.table) (take l.start-index l.start-items)) l.initial.self l.self
