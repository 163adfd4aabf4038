-- The law of a station, over every list of calls.
use Rattle.std.specs.Prelude.{◌≡◌, ℕ, ◌+◌, Bool, List, [], ◌∷◌, ◌++◌, length, drop, ◌≢◌}
use Rattle.kinds.specs.declared.class.Class.{Class}
use Rattle.station_with_books.specs.declared.answers.Counts.{Counts}
use Rattle.station_with_books.specs.Law.{Call, load, show, Reply, loaded, shown, total, Entry, Log, puts, settles, effect, charge, Due, Lawful}

-- The charges of a part of a log, in sum.
abbrev pub charges : {S : Type 0} → Log S → ℕ
charges [] = 0
charges (entry ∷ log) = charges log + charge (effect entry)

-- The calls of a log alone, and the replies alone.
abbrev pub asked : {S : Type 0} → Log S → List (Call S)
asked [] = []
asked ((call, reply) ∷ log) = call ∷ asked log

abbrev pub replied : {S : Type 0} → Log S → List Reply
replied [] = []
replied ((call, reply) ∷ log) = reply ∷ replied log

-- A part of a log with no settle in it.
pub data Unsettled {S : Type 0} : Log S → Type 0 where
  none : Unsettled []
  more : {entry : Entry S} {log : Log S} → (effect entry ≢ settles) → Unsettled log → Unsettled (entry ∷ log)

-- A log that is empty, or whose newest entry is a settle.
pub data Fresh {S : Type 0} : Log S → Type 0 where
  at_first : Fresh []
  just_settled : {entry : Entry S} {log : Log S} → effect entry ≡ settles → Fresh (entry ∷ log)

-- A part of a log in which no load was accepted.
pub data Unloaded {S : Type 0} : Log S → Type 0 where
  none : Unloaded []
  more : {entry : Entry S} {log : Log S} → ((bytes : List ℕ) → effect entry ≢ puts bytes) → Unloaded log → Unloaded (entry ∷ log)

pub record Law (lawful : Class → Bool) (S : Type 0) : Type 0 where
  -- to each call after each log exactly one reply is due
  pub one_reply_is_due : (log : Log S) (call : Call S) → (reply : Reply) × Due lawful log call reply × ((other : Reply) → Due lawful log call other → other ≡ reply)
  -- so the calls alone decide every reply of a lawful log
  pub calls_decide_replies : (log other : Log S) → Lawful lawful log → Lawful lawful other → asked log ≡ asked other → log ≡ other
  -- a total that was answered is the sum of the charges since the last settle, or since the station was made
  pub bill_is_the_charges : (later since before : Log S) (call : Call S) (n : ℕ) →
      Lawful lawful (later ++ ((call, total n) ∷ (since ++ before))) → Unsettled since → Fresh before → n ≡ charges since
  -- what a show wrote is the bytes of the load that was accepted last, and nothing past them
  pub show_writes_the_bytes_last_accepted : (later since before : Log S) (out after bytes : List ℕ) (n : ℕ) (counts : Counts) →
      Lawful lawful (later ++ ((show out, shown n after) ∷ (since ++ ((load bytes, loaded counts) ∷ before)))) → Unloaded since →
      (n ≡ length bytes) × (after ≡ bytes ++ drop (length bytes) out)
