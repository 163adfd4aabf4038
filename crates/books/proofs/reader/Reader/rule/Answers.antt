use Rattle.std.proofs.Common.{arith}
use Rattle.books.proofs.Ruled.{grown_line}
use Rattle.books.proofs.reader.Reader.rule.Goals as goal

pub returns : goal.returns
returns c =
    grown_line c.args.left (omega arith) c.args.self.now _ _ c.in_ok-expect.ensures c.in_ok-expect-2.ensures c.in_ok-operand.ensures c.in_ok-expect-3.ensures c.in_ok-expect-4.ensures
