-- How a station stands to a log, and what each call promises.
use Rattle.std.specs.Prelude.{◌≡◌, ℕ, Bool, List, [], ◌∷◌, Some, None, Ok, Err, Option, Result}
use Rattle.kinds.specs.declared.class.Class.{Class}
use Rattle.grammar.specs.declared.book.Book.{Book}
use Rattle.grammar.specs.Expr.{Grammar}
use Rattle.grammar.specs.Spelling.{spelling}
use Rattle.grammar.specs.Allowed.{Allowed}
use Rattle.grammar.specs.Held.{Holds}
use Rattle.books.specs.declared.fault.BookFault.{BookFault}
use Rattle.station_with_books.specs.declared.answers.Counts.{Counts}
use Rattle.station_with_books.specs.declared.answers.ShowRefusal.{ShowRefusal}
use Rattle.station_with_books.specs.declared.state.Station.{Station}
use Rattle.station_with_books.specs.Law.{Call, Reply, loaded, faulted, shown, unshown, Log, owed, reads, in_force, Due}

-- The book that a station keeps is the one whose bytes are in force: it holds the allowed grammar that spells them.
abbrev pub KeepsBook : (Class → Bool) → Option Book → Option (List ℕ) → Type 0
KeepsBook lawful None None = Unit {0}
KeepsBook lawful None (Some bytes) = ⊥
KeepsBook lawful (Some book) None = ⊥
KeepsBook lawful (Some book) (Some bytes) = (g : Grammar) × (bytes ≡ spelling g) × Allowed lawful g × Holds book g

-- The station is as the log leaves it; `lawful` gives each kind its lawful classes.
pub record Stands {K S : Type 0} (lawful : K → Class → Bool) (kind : K) (station : Station K) (log : Log S) : Type 0 where
  pub kind_is : station.kind ≡ kind
  pub sum_is : station.sum ≡ owed log
  pub reads_is : station.reads ≡ reads log
  pub book_is : KeepsBook (lawful kind) station.book (in_force log)

-- What a call promises: after every log at which the station stood, the reply is due, and the station stands at the longer log.
abbrev pub Keeps : {K S : Type 0} → (K → Class → Bool) → Station K → Call S → Reply → Station K → Type 0
Keeps {K} {S} lawful before call reply after =
    (kind : K) (log : Log S) → Stands lawful kind before log → Due (lawful kind) log call reply × Stands lawful kind after ((call, reply) ∷ log)

-- A log of calls that follow one another from a first station, each keeping its promise.
pub data Linked {K S : Type 0} (lawful : K → Class → Bool) (first : Station K) : Station K → Log S → Type 0 where
  start : Linked lawful first first []
  next : {before after : Station K} {call : Call S} {reply : Reply} {log : Log S} →
      Linked lawful first before log → Keeps lawful before call reply after → Linked lawful first after ((call, reply) ∷ log)

-- The reply that load's answer makes, and show's with the buffer as it is then.
abbrev pub load_reply : Result Counts BookFault → Reply
load_reply (Ok counts) = loaded counts
load_reply (Err fault) = faulted fault

abbrev pub show_reply : Result ℕ ShowRefusal → List ℕ → Reply
show_reply (Ok n) out = shown n out
show_reply (Err refusal) out = unshown refusal out
