use Rattle.writing.proofs.Puts.{two}
use Rattle.writing.proofs.writer.Writer.put_rule.Goals as goal

pub returns : goal.returns
returns c = two c.put.ensures (two c.put_expr.ensures c.put-2.ensures)
