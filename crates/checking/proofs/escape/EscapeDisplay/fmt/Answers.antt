use Rattle.std.proofs.Common.{◌≡◌, ℕ, ◌/◌, ◌%◌, false, arith}
use Rattle.std.specs.Fmt.{digit_glyph}
use Rattle.std.proofs.lemmas.Fmt.{hex_byte}
use Rattle.std.proofs.lemmas.Bool.{ne_eqb}
use Rattle.std.proofs.lemmas.Bool.Decides.{nat_tests}
use Rattle.checking.specs.Escapes.{hex, printable}
use Rattle.checking.proofs.escape.EscapeDisplay.fmt.Goals as goal
use Rattle.checking.proofs.escape.EscapeDisplay.fmt.Goals.{in_default-via-then-byte-lt32, in_default-via-else-byte-lt32+else-byte-lt127}

glyph_is_hex : (d : ℕ) → digit_glyph false d ≡ hex d
glyph_is_hex d = grind (arith, nat_tests)

pub returns-in_default-clause-writes : goal.returns-in_default-clause-writes
returns-in_default-clause-writes g c =
    let b : ℕ = c.args.self.now.0 in
    let hidden : printable b ≡ false = elim c.in_default.branch [ in_default-via-then-byte-lt32 w ↦ grind (arith, nat_tests) | in_default-via-else-byte-lt32+else-byte-lt127 w ↦ grind (arith, nat_tests) ] in
    let written = rw (c.laid_out.ensures, c.in_radix.ensures) at c.write-in_default.ensures.writes in
    rw (ne_eqb b 92 (omega arith), hidden, ← glyph_is_hex (b / 16), ← glyph_is_hex (b % 16), ← hex_byte false b (omega arith)) written
