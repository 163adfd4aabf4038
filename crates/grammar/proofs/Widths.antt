-- How many bytes and how many nodes an expression takes, and how many roots the rules have.
use Rattle.std.proofs.Common.{◌≡◌, ℕ, suc, ◌+◌, List, [], ◌∷◌, length, decimal, refl, ap, arith, length-append}
use Rattle.grammar.specs.Expr.{Expr, empty, any, term, call, seq, alt, star, not, size}
use Rattle.grammar.specs.Spelling.{spell, width}
use Rattle.grammar.specs.Layout.{below, flat, starts}

pub spell_length : (e : Expr) (r : List ℕ) → length (spell e r) ≡ width e + length r
spell_length empty r = omega arith
spell_length any r = omega arith
spell_length (term n) r = omega (arith, length-append (decimal n) (41 ∷ r), length-append (decimal n) (41 ∷ []))
spell_length (call n) r = omega (arith, length-append (decimal n) (41 ∷ r), length-append (decimal n) (41 ∷ []))
spell_length (seq a b) r =
    omega (arith, spell_length a (32 ∷ spell b (41 ∷ r)), spell_length b (41 ∷ r), spell_length a (32 ∷ spell b (41 ∷ [])), spell_length b (41 ∷ []))
spell_length (alt a b) r =
    omega (arith, spell_length a (32 ∷ spell b (41 ∷ r)), spell_length b (41 ∷ r), spell_length a (32 ∷ spell b (41 ∷ [])), spell_length b (41 ∷ []))
spell_length (star a) r = omega (arith, spell_length a (41 ∷ r), spell_length a (41 ∷ []))
spell_length (not a) r = omega (arith, spell_length a (41 ∷ r), spell_length a (41 ∷ []))

pub below_length : (i at : ℕ) (e : Expr) → length (below i at e) + 1 ≡ size e
below_length i at empty = refl
below_length i at any = refl
below_length i at (term n) = refl
below_length i at (call n) = refl
below_length i at (seq a b) = omega (arith, length-append (flat i (at + 5) a) (flat (i + size a) (at + 5 + width a + 1) b), below_length (i + 1) (at + 5) a, below_length (i + size a + 1) (at + 5 + width a + 1) b)
below_length i at (alt a b) = omega (arith, length-append (flat i (at + 5) a) (flat (i + size a) (at + 5 + width a + 1) b), below_length (i + 1) (at + 5) a, below_length (i + size a + 1) (at + 5 + width a + 1) b)
below_length i at (star a) = omega (arith, below_length (i + 1) (at + 6) a)
below_length i at (not a) = omega (arith, below_length (i + 1) (at + 5) a)

pub flat_length : (i at : ℕ) (e : Expr) → length (flat i at e) ≡ size e
flat_length i at e = omega (arith, below_length (i + 1) at e)

pub starts_length : (i : ℕ) (rules : List Expr) → length (starts i rules) ≡ length rules
starts_length i [] = refl
starts_length i (e ∷ es) = ap suc (starts_length (i + size e) es)
