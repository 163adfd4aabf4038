-- What load and show do keeps the law.
use Rattle.std.proofs.Common.{◌≡◌, ℕ, Bool, List, Some, None, Ok, Err, Option, Result, refl, ◌∙◌}
use Rattle.kinds.specs.declared.class.Class.{Class}
use Rattle.grammar.specs.declared.book.Book.{Book}
use Rattle.books.specs.declared.fault.BookFault.{BookFault}
use Rattle.station_with_books.specs.declared.answers.Counts.{Counts}
use Rattle.station_with_books.specs.declared.answers.ShowRefusal.{ShowRefusal}
use Rattle.station_with_books.specs.declared.state.Station.{Station}
use Rattle.station_with_books.specs.Law.{load, show, Log, in_force, Due, accepted, refused, no_book, too_short, written}
use Rattle.station_with_books.specs.Stand.{KeepsBook, Keeps, load_reply, show_reply}
use Rattle.station_with_books.specs.Calls.{Loads, Shows}

module _ {K S : Type 0} (lawful : K → Class → Bool) where
  pub loads_keep : (before after : Station K) (bytes : List ℕ) (r : Result Counts BookFault) → Loads (lawful before.kind) before bytes r after → Keeps {S = S} lawful before (load bytes) (load_reply r) after
  loads_keep before after bytes (Ok counts) t kind log stands =
      let allowed = rw stands.kind_is at t.allowed in (
        accepted t.spells allowed t.counts_are,
        record {
          kind_is = t.kind_stays ∙ stands.kind_is;
          sum_is = t.sum_stays ∙ stands.sum_is;
          reads_is = t.reads_stay ∙ stands.reads_is;
          book_is = rw t.in_force (t.grammar, t.spells, allowed, t.holds);
        },
      )
  loads_keep before after bytes (Err fault) (r, same) kind log stands = (
    refused (rw stands.kind_is at r),
    rw same (record { kind_is = stands.kind_is; sum_is = stands.sum_is; reads_is = stands.reads_is; book_is = stands.book_is }),
  )

-- the reply to show is due
shows_due : {S : Type 0} (lawful : Class → Bool) (log : Log S) (book : Option Book) (force : Option (List ℕ)) (out : List ℕ) (r : Result ℕ ShowRefusal) (after : List ℕ) → in_force log ≡ force → KeepsBook lawful book force → Shows book out r after → Due lawful log (show out) (show_reply r after)
shows_due lawful log None None out r after e k s = rw s.0 (no_book e s.1)
shows_due lawful log None (Some bytes) out r after e k s = absurd k
shows_due lawful log (Some book) None out r after e k s = absurd k
shows_due lawful log (Some book) (Some bytes) out (Ok n) after e (g, spells, allowed, holds) s =
    let w = s g holds in written e (rw spells w.1) (rw spells w.0) (rw spells w.2)
shows_due lawful log (Some book) (Some bytes) out (Err refusal) after e (g, spells, allowed, holds) (is, same, short) =
    rw is (too_short {out = out} e (rw spells (short g holds)) same)

module _ {K S : Type 0} (lawful : K → Class → Bool) where
  pub shows_keep : (station : Station K) (out : List ℕ) (r : Result ℕ ShowRefusal) (after : List ℕ) → Shows station.book out r after → Keeps {S = S} lawful station (show out) (show_reply r after) station
  shows_keep station out r after s kind log stands = (
    shows_due (lawful kind) log station.book (in_force log) out r after refl stands.book_is s,
    record { kind_is = stands.kind_is; sum_is = stands.sum_is; reads_is = stands.reads_is; book_is = stands.book_is },
  )
