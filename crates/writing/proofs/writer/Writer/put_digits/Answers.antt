use Rattle.std.proofs.Common.{subst, arith}
use Rattle.writing.specs.Wrote.{Room}
use Rattle.writing.proofs.Digits.{one_digit, two_digits, three_digits}
use Rattle.writing.proofs.writer.Writer.put_digits.Goals as goal

pub put-requires : goal.put-requires
put-requires c = subst (λ ds. Room ds c.args.self.now) (one_digit {n = c.args.number} (omega arith) c.digit.ensures) c.requires

pub put-requires-in-10-to-99 : goal.put-requires-in-10-to-99
put-requires-in-10-to-99 c = subst (λ ds. Room ds c.args.self.now) (two_digits {n = c.args.number} (omega arith) (omega arith) c.digit-in-10-to-99.ensures c.digit-in-10-to-99-2.ensures) c.requires

pub put-requires-in-100-to-999 : goal.put-requires-in-100-to-999
put-requires-in-100-to-999 c =
    subst (λ ds. Room ds c.args.self.now) (three_digits {n = c.args.number} (omega arith) (omega arith) c.digit-in-100-to-999.ensures c.digit-in-100-to-999-2.ensures c.digit-in-100-to-999-3.ensures) c.requires

pub returns-in-0-to-9 : goal.returns-in-0-to-9
returns-in-0-to-9 c = rw (one_digit {n = c.args.number} (omega arith) c.digit.ensures) c.put.ensures

pub returns-in-10-to-99 : goal.returns-in-10-to-99
returns-in-10-to-99 c = rw (two_digits {n = c.args.number} (omega arith) (omega arith) c.digit-in-10-to-99.ensures c.digit-in-10-to-99-2.ensures) c.put-in-10-to-99.ensures

pub returns-in-100-to-999 : goal.returns-in-100-to-999
returns-in-100-to-999 c =
    rw (three_digits {n = c.args.number} (omega arith) (omega arith) c.digit-in-100-to-999.ensures c.digit-in-100-to-999-2.ensures c.digit-in-100-to-999-3.ensures) c.put-in-100-to-999.ensures
