-- The stack's records, the top last, and their ends, the innermost first.
use Rattle.std.proofs.Common.{◌≡◌, ℕ, ◌<◌, true, false, cond, eqb, ltb, List, [], ◌∷◌, ◌++◌, length, Some, None, Option, Ok, Err, is_ok, Result, sym, ap, ◌∙◌, arith}
use Rattle.std.proofs.lemmas.Grind.{common_steps}
use Rattle.std.proofs.lemmas.Bool.Decides.{nat_tests}
use Rattle.std.proofs.lemmas.List.{length-map, length-reverse, map_push, reverse-append}
use Rattle.stack.specs.declared.stack.Stack.{Stack}
use Rattle.stack.specs.Held.{held, last, front, Taken}
use Rattle.stack.proofs.Tops.{ends_in}
use Rattle.writing.specs.declared.walk.OpenExpr.{OpenExpr}
use Rattle.writing.specs.Walk.{ends, ends_at, closings, opened, still_open}

pub ends_pushed : (xs : List OpenExpr) (x : OpenExpr) → ends (xs ++ (x ∷ [])) ≡ x.end ∷ ends xs
ends_pushed xs x = simp (map_push, reverse-append)

pub length_ends : (xs : List OpenExpr) → length (ends xs) ≡ length xs
length_ends xs = simp (length-map, length-reverse)

-- The end of the top is the innermost.
pub top_none : (i : ℕ) (xs : List OpenExpr) → None ≡ last xs → ends_at i (ends xs) ≡ false
top_none i xs is_top = ap (λ l. ends_at i (ends l)) (ends_in xs None is_top).0

pub top_some : (i : ℕ) (xs : List OpenExpr) (x : OpenExpr) → Some x ≡ last xs → ends_at i (ends xs) ≡ eqb x.end i
top_some i xs x is_top = ap (λ l. ends_at i (ends l)) (ends_in xs (Some x) is_top) ∙ ap (ends_at i) (ends_pushed (front xs) x)

-- The innermost ends: its record comes off.
pub record Closed (i : ℕ) (xs ys : List OpenExpr) : Type 0 where
  pub bracket : closings i (ends xs) ≡ 41 ∷ closings i (ends ys)
  pub others : still_open i (ends xs) ≡ still_open i (ends ys)
  pub fewer : length ys < length xs

pub closed : (i : ℕ) (xs ys : List OpenExpr) (top : Option OpenExpr) → ends_at i (ends xs) ≡ true → Taken xs top ys → Closed i xs ys
closed i xs ys None h none = let off : false ≡ true = sym (ap (λ l. ends_at i (ends l)) none.0) ∙ h in absurd (cc)
closed i xs ys (Some x) h split =
    let k : ends xs ≡ x.end ∷ ends ys = ap ends split ∙ ends_pushed ys x in
    let t : eqb x.end i ≡ true = sym (ap (ends_at i) k) ∙ h in
    record {
      bracket = ap (closings i) k ∙ rw t;
      others = ap (still_open i) k ∙ rw t;
      fewer = grind (arith, common_steps);
    }

-- What is open after a push.
pub opened_is : (stack after : Stack OpenExpr) (x : OpenExpr) (pushed : Result (Unit {0}) OpenExpr) → length stack.records.now ≡ 64 → pushed ≡ cond (ltb stack.depth (length stack.records.now)) (Ok tt) (Err x)
    → held after ≡ cond (is_ok pushed) (held stack ++ (x ∷ [])) (held stack) → ends (held after) ≡ opened x.end (ends (held stack))
opened_is stack after x pushed size room e = grind (arith, common_steps, nat_tests, ends_pushed, length_ends)
