-- What load and show do, for every station and every argument.
use Rattle.std.specs.Prelude.{◌≡◌, ℕ, ◌<◌, ◌≤◌, Bool, List, ◌++◌, length, drop, Some, None, Ok, Err, Option, Result}
use Rattle.kinds.specs.declared.class.Class.{Class}
use Rattle.grammar.specs.declared.book.Book.{Book}
use Rattle.grammar.specs.Expr.{Grammar}
use Rattle.grammar.specs.Spelling.{spelling}
use Rattle.grammar.specs.Allowed.{Allowed}
use Rattle.grammar.specs.Held.{Holds}
use Rattle.books.specs.declared.fault.BookFault.{BookFault}
use Rattle.books.specs.Verdict.{Refuses}
use Rattle.station_with_books.specs.declared.answers.Counts.{Counts}
use Rattle.station_with_books.specs.declared.answers.ShowRefusal.{ShowRefusal}
use Rattle.station_with_books.specs.declared.answers.ShowRefusal.TheVariants.{NoBook, TooShort}
use Rattle.station_with_books.specs.declared.state.Station.{Station}
use Rattle.station_with_books.specs.Law.{counts_of}

-- An accepted load: the allowed grammar that spells the bytes is in force, and the bill and the count of reads stay.
pub record Took {K : Type 0} (lawful : Class → Bool) (before : Station K) (bytes : List ℕ) (counts : Counts) (after : Station K) : Type 0 where
  pub grammar : Grammar
  pub book : Book
  pub spells : bytes ≡ spelling grammar
  pub allowed : Allowed lawful grammar
  pub counts_are : counts ≡ counts_of grammar
  pub in_force : after.book ≡ Some book
  pub holds : Holds book grammar
  pub kind_stays : after.kind ≡ before.kind
  pub sum_stays : after.sum ≡ before.sum
  pub reads_stay : after.reads ≡ before.reads

-- A load takes the bytes, or names their fault and changes nothing.
abbrev pub Loads : {K : Type 0} → (Class → Bool) → Station K → List ℕ → Result Counts BookFault → Station K → Type 0
Loads lawful before bytes (Ok counts) after = Took lawful before bytes counts after
Loads lawful before bytes (Err fault) after = Refuses lawful bytes fault × (after ≡ before)

-- A show without a book is refused; with one, of whatever grammar it holds, the bytes are written, or the buffer is too short for them; a refused one leaves the buffer.
abbrev pub Shows : Option Book → List ℕ → Result ℕ ShowRefusal → List ℕ → Type 0
Shows None out result after = (result ≡ Err NoBook) × (after ≡ out)
Shows (Some book) out (Ok n) after = (g : Grammar) → Holds book g → (n ≡ length (spelling g)) × (length (spelling g) ≤ length out) × (after ≡ spelling g ++ drop n out)
Shows (Some book) out (Err refusal) after = (refusal ≡ TooShort) × (after ≡ out) × ((g : Grammar) → Holds book g → length out < length (spelling g))
