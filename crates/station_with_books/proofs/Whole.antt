-- The law over lawful logs.
use Rattle.std.proofs.Common.{◌≡◌, ℕ, ◌+◌, ◌<◌, ◌≤◌, Bool, ◌⊎◌, List, [], ◌∷◌, ◌++◌, length, drop, Some, None, Option, refl, ap, ◌∙◌, inl, inr, arith}
use Rattle.std.proofs.lemmas.Bool.{cases_lt}
use Rattle.kinds.specs.declared.class.Class.{Class}
use Rattle.grammar.specs.Expr.{Grammar}
use Rattle.grammar.specs.Spelling.{spelling}
use Rattle.grammar.specs.Allowed.{Allowed}
use Rattle.books.specs.declared.fault.BookFault.{BookFault}
use Rattle.books.specs.Verdict.{Accepts, Refuses}
use Rattle.books.proofs.Verdicts.{accepted_as_spelled, one_verdict}
use Rattle.station_with_books.specs.declared.answers.ShowRefusal.TheVariants.{NoBook, TooShort}
use Rattle.station_with_books.specs.Law.{Call, load, show, bill, settle, Reply, loaded, faulted, shown, unshown, total, Log, Effect, nothing, puts, settles, effect, charge, owed_after, force_after, owed, in_force, counts_of, Due, accepted, refused, no_book, too_short, written, billed, settled, Lawful, none, more}
use Rattle.station_with_books.specs.Whole.{charges, asked, Unsettled, Fresh, at_first, just_settled, Unloaded, Law}
use Rattle.station_with_books.specs.Whole as whole

-- settled or just made, nothing is owed
fresh_owes_nothing : {S : Type 0} {log : Log S} → Fresh log → owed log ≡ 0
fresh_owes_nothing at_first = refl
fresh_owes_nothing (just_settled {log = log} e) = ap (λ x. owed_after x (owed log)) e

-- what does not settle adds its charge
adds_its_charge : (e : Effect) (m n : ℕ) → (e ≡ settles → ⊥) → m ≡ n → owed_after e m ≡ n + charge e
adds_its_charge nothing m n h same = omega arith
adds_its_charge (puts bytes) m n h same = omega arith
adds_its_charge settles m n h same = absurd (h refl)

owed_is_charges : {S : Type 0} {since before : Log S} → Unsettled since → Fresh before → owed (since ++ before) ≡ charges since
owed_is_charges whole.Unsettled.none f = fresh_owes_nothing f
owed_is_charges (whole.Unsettled.more {entry = entry} h u) f = adds_its_charge (effect entry) _ _ h (owed_is_charges u f)

-- what puts no bytes in force leaves those that are
force_stays : (e : Effect) (force : Option (List ℕ)) → ((bytes : List ℕ) → e ≡ puts bytes → ⊥) → force_after e force ≡ force
force_stays nothing force h = refl
force_stays (puts bytes) force h = absurd (h bytes refl)
force_stays settles force h = refl

last_loaded : {S : Type 0} {since : Log S} (before : Log S) → Unloaded since → in_force (since ++ before) ≡ in_force before
last_loaded before whole.Unloaded.none = refl
last_loaded before (whole.Unloaded.more {entry = entry} h u) = force_stays (effect entry) _ h ∙ last_loaded before u

module _ (lawful : Class → Bool) where
  -- the grammar of accepted bytes is one
  one_grammar : {bytes : List ℕ} {g h : Grammar} → bytes ≡ spelling g → Allowed lawful g → bytes ≡ spelling h → Allowed lawful h → g ≡ h
  one_grammar {bytes = bytes} {g = g} {h = h} e a f b =
      (one_verdict lawful bytes).one_grammar g h ((accepted_as_spelled lawful bytes g).1 (e, a)) ((accepted_as_spelled lawful bytes h).1 (f, b))

  not_both : {bytes : List ℕ} {g : Grammar} {fault : BookFault} → bytes ≡ spelling g → Allowed lawful g → Refuses lawful bytes fault → ⊥
  not_both {bytes = bytes} {g = g} {fault = fault} e a r = (one_verdict lawful bytes).not_both g fault ((accepted_as_spelled lawful bytes g).1 (e, a)) r

module _ (lawful : Class → Bool) {S : Type 0} where
  due_one : {log : Log S} {call : Call S} {reply other : Reply} → Due lawful log call reply → Due lawful log call other → reply ≡ other
  due_one (accepted e a c) (accepted f b d) = cc (one_grammar lawful e a f b)
  due_one (accepted e a c) (refused r) = absurd (not_both lawful e a r)
  due_one (refused r) (accepted e a c) = absurd (not_both lawful e a r)
  due_one (refused {bytes = bytes} r) (refused s) = ap faulted ((one_verdict lawful bytes).one_fault _ _ r s)
  due_one (no_book h a) (no_book k b) = cc
  due_one (no_book h a) (too_short k l b) = cc
  due_one (no_book h a) (written k l m b) = cc
  due_one (too_short k l b) (no_book h a) = cc
  due_one (too_short h l a) (too_short k m b) = cc
  due_one (too_short {bytes = x} h l a) (written {bytes = y} k m n b) = let same : x ≡ y = cc in absurd (omega (arith, ap length same))
  due_one (written k l m b) (no_book h a) = cc
  due_one (written {bytes = x} h l m a) (too_short {bytes = y} k n b) = let same : x ≡ y = cc in absurd (omega (arith, ap length same))
  due_one (written h l m a) (written k n o b) = cc
  due_one (billed h) (billed k) = cc
  due_one (settled h) (settled k) = cc

  due_load : (log : Log S) (bytes : List ℕ) → (((g : Grammar) × Accepts lawful bytes g) ⊎ ((e : BookFault) × Refuses lawful bytes e)) → (reply : Reply) × Due lawful log (load bytes) reply
  due_load log bytes (inl (g, a)) = let s = (accepted_as_spelled lawful bytes g).0 a in (loaded (counts_of g), accepted s.0 s.1 refl)
  due_load log bytes (inr (e, r)) = (faulted e, refused r)

  due_fitting : (log : Log S) (out bytes : List ℕ) → in_force log ≡ Some bytes → (length out < length bytes) ⊎ (length bytes ≤ length out) → (reply : Reply) × Due lawful log (show out) reply
  due_fitting log out bytes e (inl h) = (unshown TooShort out, too_short e h refl)
  due_fitting log out bytes e (inr h) = (shown (length bytes) (bytes ++ drop (length bytes) out), written e h refl refl)

  due_show : (log : Log S) (out : List ℕ) (force : Option (List ℕ)) → in_force log ≡ force → (reply : Reply) × Due lawful log (show out) reply
  due_show log out None e = (unshown NoBook out, no_book e refl)
  due_show log out (Some bytes) e = due_fitting log out bytes e (cases_lt (length out) (length bytes))

  due_some : (log : Log S) (call : Call S) → (reply : Reply) × Due lawful log call reply
  due_some log (load bytes) = due_load log bytes (one_verdict lawful bytes).some
  due_some log (show out) = due_show log out (in_force log) refl
  due_some log bill = (total (owed log), billed refl)
  due_some log settle = (total (owed log), settled refl)

  total_is_owed : {log : Log S} {call : Call S} {n : ℕ} → Due lawful log call (total n) → n ≡ owed log
  total_is_owed (billed h) = h
  total_is_owed (settled h) = h

  shown_is_in_force : {log : Log S} {out after bytes : List ℕ} {n : ℕ} → in_force log ≡ Some bytes → Due lawful log (show out) (shown n after) → (n ≡ length bytes) × (after ≡ bytes ++ drop (length bytes) out)
  shown_is_in_force f (written h l m a) = (cc, cc)

  newest_due : {log : Log S} {call : Call S} {reply : Reply} → Lawful lawful ((call, reply) ∷ log) → Due lawful log call reply
  newest_due (more l d) = d

  before_lawful : (later : Log S) {log : Log S} → Lawful lawful (later ++ log) → Lawful lawful log
  before_lawful [] l = l
  before_lawful ((call, reply) ∷ later) (more l d) = before_lawful later l

  replies_decided : {log other : Log S} → Lawful lawful log → Lawful lawful other → asked log ≡ asked other → log ≡ other
  replies_decided none none e = refl
  replies_decided none (more l d) e = cc
  replies_decided (more l d) none e = cc
  replies_decided (more {call = c} {reply = r} {log = log} l d) (more {call = k} {reply = q} {log = other} m b) e =
      let parts : asked log ≡ asked other = cc in
      let calls : c ≡ k = cc in
      let logs = replies_decided l m parts in
      cc (due_one (rw (calls, logs) at d) b)

pub the_law : (lawful : Class → Bool) (S : Type 0) → Law lawful S
the_law lawful S = record {
  one_reply_is_due = λ log call. let due = due_some lawful log call in (due.0, due.1, λ other d. due_one lawful d due.1);
  calls_decide_replies = λ log other l m e. replies_decided lawful l m e;
  bill_is_the_charges = λ later since before call n l u f.
      total_is_owed lawful (newest_due lawful (before_lawful lawful later l)) ∙ owed_is_charges u f;
  show_writes_the_bytes_last_accepted = λ later since before out after bytes n counts l u.
      shown_is_in_force lawful (last_loaded ((load bytes, loaded counts) ∷ before) u) (newest_due lawful (before_lawful lawful later l));
}
