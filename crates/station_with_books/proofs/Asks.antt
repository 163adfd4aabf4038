-- A request that was asked and answered keeps the promise of its call.
use Rattle.std.proofs.Common.{◌≡◌, ℕ, Bool, List, ◌++◌, length, min, take, drop, Ok, Err, Result, Bor, refl}
use Rattle.std.proofs.lemmas.List.{take_min, drop_min}
use Rattle.kinds.specs.declared.class.Class.{Class}
use Rattle.books.specs.declared.fault.BookFault.{BookFault}
use Rattle.station_with_books.specs.declared.state.Station.{Station}
use Rattle.station_with_books.specs.declared.answers.Counts.{Counts}
use Rattle.station_with_books.specs.declared.answers.ShowRefusal.{ShowRefusal}
use Rattle.station_with_books.specs.declared.request.Request.{Request}
use Rattle.station_with_books.specs.declared.request.Request.TheVariants.{Load, Show, Bill, Settle}
use Rattle.station_with_books.specs.declared.request.Answer.TheVariants.{Loaded, Shown, Total}
use Rattle.station_with_books.specs.Law.{load, show, bill, settle, total}
use Rattle.station_with_books.specs.Stand.{Keeps, load_reply, show_reply}
use Rattle.station_with_books.specs.Served.{Asked}

module _ {K S : Type 0} (lawful : K → Class → Bool) {before after : Station K} {out : List ℕ} {request : Request} where
  pub asked_load : (bytes : Bor (List ℕ)) (r : Result Counts BookFault) → request ≡ Load bytes → Keeps {S = S} lawful before (load bytes.now) (load_reply r) after → Asked S lawful before out request (Loaded r) after out
  asked_load bytes (Ok counts) e keeps = rw e (record { reply = _; keeps = keeps; answer_is = refl; out_is = refl })
  asked_load bytes (Err fault) e keeps = rw e (record { reply = _; keeps = keeps; answer_is = refl; out_is = refl })

  -- it has the front of the buffer, or all of it
  pub asked_show : (n m : ℕ) (r : Result ℕ ShowRefusal) (shown : List ℕ) → request ≡ Show n → m ≡ min n (length out) → Keeps {S = S} lawful before (show (take m out)) (show_reply r shown) after → Asked S lawful before out request (Shown r) after (shown ++ drop m out)
  asked_show n m (Ok k) shown e least keeps = rw (e, least, drop_min) (record { reply = _; keeps = rw (least, take_min) at keeps; answer_is = refl; out_is = refl })
  asked_show n m (Err refusal) shown e least keeps = rw (e, least, drop_min) (record { reply = _; keeps = rw (least, take_min) at keeps; answer_is = refl; out_is = refl })

  pub asked_bill : (n : ℕ) → request ≡ Bill → Keeps {S = S} lawful before bill (total n) after → Asked S lawful before out request (Total n) after out
  asked_bill n e keeps = rw e (record { reply = _; keeps = keeps; answer_is = refl; out_is = refl })

  pub asked_settle : (n : ℕ) → request ≡ Settle → Keeps {S = S} lawful before settle (total n) after → Asked S lawful before out request (Total n) after out
  asked_settle n e keeps = rw e (record { reply = _; keeps = keeps; answer_is = refl; out_is = refl })
