-- What a reader of bytes answers, and how readers are put together.
use Rattle.std.specs.Prelude.{ℕ, List}

-- A value, with the place after it and the bytes from there on; or a fault.
pub data Out (E A : Type 0) : Type 0 where
  ok : A → ℕ → List ℕ → Out E A
  no : E → Out E A

-- One reader, then another on what the first left; the first fault stands.
abbrev pub after : {E A B : Type 0} → Out E A → (A → ℕ → List ℕ → Out E B) → Out E B
after (ok a at xs) f = f a at xs
after (no e) f = no e

-- The same answer, its fault wrapped in another.
abbrev pub inside : {E F A : Type 0} → (E → F) → Out E A → Out F A
inside g (ok a at xs) = ok a at xs
inside g (no e) = no (g e)
