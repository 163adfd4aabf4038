use Rattle.std.proofs.Common.{◌≡◌, ◌≤◌, drop}
use Rattle.tokens.specs.Lexing.{value}
use Rattle.tokens.proofs.lexer.number.Given as goal

abbrev pub invariant-loop-digit : goal.invariant-loop-digit
invariant-loop-digit l = (l.sum ≤ 4294967295) × (value l.sum (drop l.digit-index l.digits) ≡ value 0 l.digits)
