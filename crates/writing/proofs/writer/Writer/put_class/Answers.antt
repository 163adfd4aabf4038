use Rattle.std.proofs.Common.{rules}
use Rattle.writing.proofs.Puts.{two, room}
use Rattle.writing.proofs.writer.Writer.put_class.Goals as goal

pub put-requires-2 : goal.put-requires-2
put-requires-2 c = search (rules, room)

pub returns : goal.returns
returns c = two c.put.ensures (two c.put_number.ensures (two c.put_number-2.ensures c.put-2.ensures))
