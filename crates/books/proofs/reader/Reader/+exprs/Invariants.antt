use Rattle.std.proofs.Common.{◌+◌, ◌*◌}
use Rattle.books.proofs.reader.Reader.+exprs.Given as goal

-- The nesting left falls from an expression to its operands.
abbrev pub decreases-expr : goal.decreases-expr
decreases-expr l = 3 * l.left

abbrev pub decreases-operand : goal.decreases-operand
decreases-operand l = 3 * l.left + 1

abbrev pub decreases-operands : goal.decreases-operands
decreases-operands l = 3 * l.left + 2
