-- The law over lawful logs.
use Rattle.std.proofs.Common.{◌≡◌, ℕ, ◌+◌, [], ◌∷◌, ◌++◌, sym, refl, ap, ◌∙◌, subst, arith}
use Rattle.station.specs.Law.{Call, bill, settle, Reply, total, Log, Effect, nothing, settles, effect, charge, owed_after, owed, Due, billed, settled, Lawful, none, more}
use Rattle.station.specs.Whole.{charges, asked, Unsettled, Fresh, at_first, just_settled, Law}
use Rattle.station.specs.Whole as whole

-- settled or just made, nothing is owed
fresh_owes_nothing : {S : Type 0} {log : Log S} → Fresh log → owed log ≡ 0
fresh_owes_nothing at_first = refl
fresh_owes_nothing (just_settled {log = log} e) = ap (λ x. owed_after x (owed log)) e

-- what does not settle adds its charge
adds_its_charge : (e : Effect) (m n : ℕ) → (e ≡ settles → ⊥) → m ≡ n → owed_after e m ≡ n + charge e
adds_its_charge nothing m n h same = omega arith
adds_its_charge settles m n h same = absurd (h refl)

owed_is_charges : {S : Type 0} {since before : Log S} → Unsettled since → Fresh before → owed (since ++ before) ≡ charges since
owed_is_charges whole.none f = fresh_owes_nothing f
owed_is_charges (whole.more {entry = entry} h u) f = adds_its_charge (effect entry) _ _ h (owed_is_charges u f)

module _ {S : Type 0} where
  due_one : {log : Log S} {call : Call S} {reply other : Reply} → Due log call reply → Due log call other → reply ≡ other
  due_one (billed h) (billed k) = ap total (h ∙ sym k)
  due_one (settled h) (settled k) = ap total (h ∙ sym k)

  due_some : (log : Log S) (call : Call S) → (reply : Reply) × Due log call reply
  due_some log bill = (total (owed log), billed refl)
  due_some log settle = (total (owed log), settled refl)

  total_is_owed : {log : Log S} {call : Call S} {n : ℕ} → Due log call (total n) → n ≡ owed log
  total_is_owed (billed h) = h
  total_is_owed (settled h) = h

  newest_due : {log : Log S} {call : Call S} {reply : Reply} → Lawful ((call, reply) ∷ log) → Due log call reply
  newest_due (more l d) = d

  before_lawful : (later : Log S) {log : Log S} → Lawful (later ++ log) → Lawful log
  before_lawful [] l = l
  before_lawful ((call, reply) ∷ later) (more l d) = before_lawful later l

  replies_decided : {log other : Log S} → Lawful log → Lawful other → asked log ≡ asked other → log ≡ other
  replies_decided none none e = refl
  replies_decided none (more l d) e = cc
  replies_decided (more l d) none e = cc
  replies_decided (more {call = c} {reply = r} {log = log} l d) (more {call = k} {reply = q} {log = other} m b) e =
      let calls : c ≡ k = cc in
      let parts : asked log ≡ asked other = cc in
      let logs : log ≡ other = replies_decided l m parts in
      let due : Due other k r = subst (λ x. Due other x r) calls (subst (λ x. Due x c r) logs d) in
      let same : r ≡ q = due_one due b in
      cc

pub the_law : (S : Type 0) → Law S
the_law S = record {
  one_reply_is_due = λ log call. let due = due_some log call in (due.0, due.1, λ other d. due_one d due.1);
  calls_decide_replies = λ log other l m e. replies_decided l m e;
  bill_is_the_charges = λ later since before call n l u f.
      total_is_owed (newest_due (before_lawful later l)) ∙ owed_is_charges u f;
}
