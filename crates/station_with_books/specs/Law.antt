-- Calls, replies and logs, and which reply is due.
use Rattle.std.specs.Prelude.{◌≡◌, ℕ, ◌<◌, ◌≤◌, Bool, List, [], ◌∷◌, ◌++◌, length, drop, Some, None, Option}
use Rattle.kinds.specs.declared.class.Class.{Class}
use Rattle.grammar.specs.Expr.{Grammar}
use Rattle.grammar.specs.Spelling.{spelling}
use Rattle.grammar.specs.Allowed.{sizes, Allowed}
use Rattle.books.specs.declared.fault.BookFault.{BookFault}
use Rattle.books.specs.Verdict.{Refuses}
use Rattle.station_with_books.specs.declared.answers.Counts.{Counts}
use Rattle.station_with_books.specs.declared.answers.ShowRefusal.{ShowRefusal}
use Rattle.station_with_books.specs.declared.answers.ShowRefusal.TheVariants.{NoBook, TooShort}

-- What is asked of a station, over the symbols S of its kind: to load a book's bytes; to show the book in a buffer, given as it is; the bill; to settle.
pub data Call (S : Type 0) : Type 0 where
  load : List ℕ → Call S
  show : List ℕ → Call S
  bill : Call S
  settle : Call S

-- What it replies: to load, the counts or the fault; to show, how many bytes, or the refusal, and the buffer as it is then; to bill and settle, the steps on the bill.
pub data Reply : Type 0 where
  loaded : Counts → Reply
  faulted : BookFault → Reply
  shown : ℕ → List ℕ → Reply
  unshown : ShowRefusal → List ℕ → Reply
  total : ℕ → Reply

-- A call with its reply.
abbrev pub Entry : Type 0 → Type 0
Entry S = Call S × Reply

-- The calls with their replies, the newest first.
abbrev pub Log : Type 0 → Type 0
Log S = List (Entry S)

-- What an entry does to a station.
pub data Effect : Type 0 where
  nothing : Effect
  puts : List ℕ → Effect
  settles : Effect

-- A load that was accepted puts its bytes in force; settle starts the bill and the count of reads again; all else changes nothing.
abbrev pub effect : {S : Type 0} → Entry S → Effect
effect (load bytes, loaded counts) = puts bytes
effect (load bytes, faulted fault) = nothing
effect (load bytes, shown n out) = nothing
effect (load bytes, unshown refusal out) = nothing
effect (load bytes, total n) = nothing
effect (show out, reply) = nothing
effect (bill, reply) = nothing
effect (settle, reply) = settles

-- The steps that an effect puts on the bill: no call is charged for yet.
abbrev pub charge : Effect → ℕ
charge nothing = 0
charge (puts bytes) = 0
charge settles = 0

-- The bill, the count of reads, and the bytes in force, after an effect.
abbrev pub owed_after : Effect → ℕ → ℕ
owed_after nothing owed = owed
owed_after (puts bytes) owed = owed
owed_after settles owed = 0

abbrev pub reads_after : Effect → ℕ → ℕ
reads_after nothing reads = reads
reads_after (puts bytes) reads = reads
reads_after settles reads = 0

abbrev pub force_after : Effect → Option (List ℕ) → Option (List ℕ)
force_after nothing force = force
force_after (puts bytes) force = Some bytes
force_after settles force = force

-- The bill after a log, the reads counted, and the bytes of the book in force.
abbrev pub owed : {S : Type 0} → Log S → ℕ
owed [] = 0
owed (entry ∷ log) = owed_after (effect entry) (owed log)

abbrev pub reads : {S : Type 0} → Log S → ℕ
reads [] = 0
reads (entry ∷ log) = reads_after (effect entry) (reads log)

abbrev pub in_force : {S : Type 0} → Log S → Option (List ℕ)
in_force [] = None
in_force (entry ∷ log) = force_after (effect entry) (in_force log)

-- How many classes, rules and expressions a grammar has.
abbrev pub counts_of : Grammar → Counts
counts_of g = record { classes = length g.classes; rules = length g.rules; expressions = sizes g.rules }

-- The reply that is due to a call after a log, where `lawful` says which classes the kind allows.
pub data Due (lawful : Class → Bool) {S : Type 0} (log : Log S) : Call S → Reply → Type 0 where
  -- an allowed grammar spells the bytes
  accepted : {bytes : List ℕ} {g : Grammar} {counts : Counts} → bytes ≡ spelling g → Allowed lawful g → counts ≡ counts_of g → Due lawful log (load bytes) (loaded counts)
  refused : {bytes : List ℕ} {fault : BookFault} → Refuses lawful bytes fault → Due lawful log (load bytes) (faulted fault)
  -- no book yet; else the buffer is too short; else the bytes in force are written to its front
  no_book : {out after : List ℕ} → in_force log ≡ None → after ≡ out → Due lawful log (show out) (unshown NoBook after)
  too_short : {out after bytes : List ℕ} → in_force log ≡ Some bytes → length out < length bytes → after ≡ out → Due lawful log (show out) (unshown TooShort after)
  written : {out after bytes : List ℕ} {n : ℕ} → in_force log ≡ Some bytes → length bytes ≤ length out → n ≡ length bytes → after ≡ bytes ++ drop n out → Due lawful log (show out) (shown n after)
  billed : {n : ℕ} → n ≡ owed log → Due lawful log bill (total n)
  settled : {n : ℕ} → n ≡ owed log → Due lawful log settle (total n)

-- Each reply was due after the log before it.
pub data Lawful (lawful : Class → Bool) {S : Type 0} : Log S → Type 0 where
  none : Lawful lawful []
  more : {call : Call S} {reply : Reply} {log : Log S} → Lawful lawful log → Due lawful log call reply → Lawful lawful ((call, reply) ∷ log)
