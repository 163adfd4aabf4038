-- What is said of a book.
use Rattle.std.specs.Prelude.{◌≡◌, ℕ, List, ◌++◌, codes, decimal}
use Rattle.books.specs.declared.fault.BookFault.{BookFault}
use Rattle.books.specs.Faults.{told}
use Rattle.station_with_books.specs.declared.answers.Counts.{Counts}
use Rattle.checking.specs.Pointing.{Points}

-- The first line: of an accepted book its counts, of a refused one the fault's number, line and place.
abbrev pub acceptance_head_lem : Counts → List ℕ
acceptance_head_lem counts =
    codes "book accepted: classes " ++ (decimal counts.classes ++ (codes ", rules " ++ (decimal counts.rules ++ (codes ", expressions " ++ (decimal counts.expressions ++ codes "\n")))))

abbrev pub refusal_head_lem : BookFault → List ℕ
refusal_head_lem fault =
    codes "book " ++ (decimal (told fault).number ++ (codes " line " ++ (decimal (told fault).spot.line ++ (codes " place " ++ (decimal (told fault).spot.place ++ codes "\n")))))

-- An accepted book: its counts, then the book.
abbrev pub acceptance : Counts → List ℕ → List ℕ
acceptance counts book = acceptance_head_lem counts ++ book

-- A refused book: the fault, some words, the line of its place and a caret.
pub record Refusal (book : List ℕ) (fault : BookFault) (said : List ℕ) : Type 0 where
  pub words : List ℕ
  pub pointed : List ℕ
  pub points : Points book (told fault).spot.place pointed
  pub said_is : said ≡ refusal_head_lem fault ++ words ++ codes "\n" ++ pointed
