-- What comes off a stack.
use Rattle.std.proofs.Common.{◌≡◌, ℕ, ◌-◌, List, Some, None, length, take, Option, subst, arith}
use Rattle.std.proofs.lemmas.Grind.{common_steps}
use Rattle.std.proofs.lemmas.Option.{gets}
use Rattle.stack.specs.Held.{last, front, Taken}

-- A list is its front and its last.
pub ends_in : {R : Type 0} (xs : List R) (top : Option R) → top ≡ last xs → Taken xs top (front xs)
ends_in xs None is_top = (grind (arith, common_steps, gets), grind (arith, common_steps, gets))
ends_in xs (Some top) is_top = grind (arith, common_steps, gets)

-- The last of the first n comes off, and one fewer are left.
pub taken_last : {R : Type 0} (n : ℕ) (xs : List R) (top : Option R) (m : ℕ) → top ≡ last (take n xs) → m ≡ length (take n xs) - 1 → Taken (take n xs) top (take m xs)
taken_last n xs top m is_top fewer =
    let less : front (take n xs) ≡ take m xs = grind (arith, common_steps) in
    subst (Taken (take n xs) top) less (ends_in (take n xs) top is_top)
