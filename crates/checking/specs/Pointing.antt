-- A line as it is shown, and a caret under a place of it.
use Rattle.std.specs.Prelude.{◌≡◌, ℕ, ◌-◌, min, Bool, cond, List, [], ◌∷◌, ◌++◌, length, take, drop, replicate, codes}
use Rattle.checking.specs.declared.line.Line.{Line}
use Rattle.checking.specs.declared.excerpt.Excerpt.{Excerpt}
use Rattle.checking.specs.Lines.{Around}
use Rattle.checking.specs.Excerpts.{excerpt_of, cut_before, cut_after}
use Rattle.checking.specs.Escapes.{escapes}

-- The bytes from a up to b.
abbrev pub part : List ℕ → ℕ → ℕ → List ℕ
part bs a b = take (b - a) (drop a bs)

-- Three dots where a line is cut.
abbrev pub dots : Bool → List ℕ
dots cut = cond cut (codes "...") []

-- What is shown of the line before the place, and from the place on.
abbrev pub before : List ℕ → Excerpt → ℕ → List ℕ
before bs e p = dots (cut_before e) ++ escapes (part bs e.from p)

abbrev pub after : List ℕ → Excerpt → ℕ → List ℕ
after bs e p = escapes (part bs p e.to) ++ dots (cut_after e)

-- The line, and below it the caret: as many spaces before it as what stands before the place is wide.
abbrev pub pointer : List ℕ → Excerpt → ℕ → List ℕ
pointer bs e p = before bs e p ++ after bs e p ++ (10 ∷ []) ++ replicate (length (before bs e p)) 32 ++ codes "^\n"

-- These bytes show the line of the place, which past the bytes is taken for their end.
pub record Points (bs : List ℕ) (place : ℕ) (text : List ℕ) : Type 0 where
  pub line : Line
  pub around : Around bs place line
  pub shows : text ≡ pointer bs (excerpt_of line (min place (length bs))) (min place (length bs))
