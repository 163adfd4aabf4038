-- What it is to write bytes into a buffer.
use Rattle.std.specs.Prelude.{◌≡◌, ℕ, ◌<◌, ◌≤◌, List, ◌++◌, length, take, drop, Some, None, Option}
use Rattle.writing.specs.declared.writer.Writer.{Writer}

-- What a writer has written, and what is left of its buffer.
abbrev pub written : Writer → List ℕ
written writer = take writer.count writer.out.now

abbrev pub left : Writer → List ℕ
left writer = drop writer.count writer.out.now

-- There is room for the bytes.
abbrev pub Room : List ℕ → Writer → Type 0
Room bytes writer = length bytes ≤ length (left writer)

-- The bytes are written after the others, over as many bytes of the buffer; the rest is as before, and the buffer the same.
pub record Put (bytes : List ℕ) (old new : Writer) : Type 0 where
  pub added : written new ≡ written old ++ bytes
  pub rest : left new ≡ drop (length bytes) (left old)
  pub lent : new.out.ghost_name ≡ old.out.ghost_name

-- Either the bytes were written to the front, n of them, and past them the buffer is as before; or it was too short for them and is as before.
abbrev pub Wrote : List ℕ → List ℕ → Option ℕ → List ℕ → Type 0
Wrote bytes before (Some n) after = (n ≡ length bytes) × (after ≡ bytes ++ drop n before)
Wrote bytes before None after = (length before < length bytes) × (after ≡ before)
