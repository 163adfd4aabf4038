-- What is said of an input.
use Rattle.std.specs.Prelude.{◌≡◌, ℕ, ◌<◌, ◌≤◌, List, length, codes}
use Rattle.kinds.specs.Classes.{byte_lawful}
use Rattle.grammar.specs.Expr.{Grammar}
use Rattle.grammar.specs.Spelling.{spelling}
use Rattle.grammar.specs.Allowed.{Allowed}
use Rattle.books.specs.declared.fault.BookFault.{BookFault}
use Rattle.books.specs.Verdict.{Refuses}
use Rattle.station_with_books.specs.declared.answers.Counts.{Counts}
use Rattle.station_with_books.specs.Law.{counts_of}
use Rattle.checking.specs.Reports.{acceptance, Refusal}

-- An input over the limit is called that; one that an allowed grammar spells is accepted, with the grammar's counts, and shown byte for byte; any other is refused for its fault.
pub data Checked (input : List ℕ) : List ℕ → Type 0 where
  over : 131072 < length input → Checked input (codes "input too long\n")
  accepted : {g : Grammar} {counts : Counts} → length input ≤ 131072 → input ≡ spelling g → Allowed byte_lawful g → counts ≡ counts_of g → Checked input (acceptance counts input)
  refused : {fault : BookFault} {said : List ℕ} → length input ≤ 131072 → Refuses byte_lawful input fault → Refusal input fault said → Checked input said
