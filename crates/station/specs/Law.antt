-- Calls, replies and logs, and which reply is due.
use Rattle.std.specs.Prelude.{◌≡◌, ℕ, List, [], ◌∷◌}

-- What is asked of a station, over the symbols S of its kind.
pub data Call (S : Type 0) : Type 0 where
  bill : Call S
  settle : Call S

-- What it replies: to bill and settle, the steps on the bill.
pub data Reply : Type 0 where
  total : ℕ → Reply

-- A call with its reply.
abbrev pub Entry : Type 0 → Type 0
Entry S = Call S × Reply

-- The calls with their replies, the newest first.
abbrev pub Log : Type 0 → Type 0
Log S = List (Entry S)

-- What an entry does to a station.
pub data Effect : Type 0 where
  nothing : Effect
  settles : Effect

-- Bill changes nothing; settle starts the bill and the count of reads again.
abbrev pub effect : {S : Type 0} → Entry S → Effect
effect (bill, reply) = nothing
effect (settle, reply) = settles

-- The steps that an effect puts on the bill: no call is charged for yet.
abbrev pub charge : Effect → ℕ
charge nothing = 0
charge settles = 0

-- The bill, and the count of reads, after an effect.
abbrev pub owed_after : Effect → ℕ → ℕ
owed_after nothing owed = owed
owed_after settles owed = 0

abbrev pub reads_after : Effect → ℕ → ℕ
reads_after nothing reads = reads
reads_after settles reads = 0

-- The bill after a log, and the reads counted.
abbrev pub owed : {S : Type 0} → Log S → ℕ
owed [] = 0
owed (entry ∷ log) = owed_after (effect entry) (owed log)

abbrev pub reads : {S : Type 0} → Log S → ℕ
reads [] = 0
reads (entry ∷ log) = reads_after (effect entry) (reads log)

-- The reply that is due to a call after a log.
pub data Due {S : Type 0} (log : Log S) : Call S → Reply → Type 0 where
  billed : {n : ℕ} → n ≡ owed log → Due log bill (total n)
  settled : {n : ℕ} → n ≡ owed log → Due log settle (total n)

-- Each reply was due after the log before it.
pub data Lawful {S : Type 0} : Log S → Type 0 where
  none : Lawful []
  more : {call : Call S} {reply : Reply} {log : Log S} → Lawful log → Due log call reply → Lawful ((call, reply) ∷ log)
