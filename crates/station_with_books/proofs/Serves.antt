-- One more request served is one more entry of the log.
use Rattle.std.proofs.Common.{◌≡◌, ℕ, ◌+◌, ◌<◌, Bool, List, [], length, get_or, take, set}
use Rattle.std.proofs.lemmas.List.{take_more, take_more_set}
use Rattle.kinds.specs.declared.class.Class.{Class}
use Rattle.station_with_books.specs.declared.state.Station.{Station}
use Rattle.station_with_books.specs.declared.request.Request.{Request}
use Rattle.station_with_books.specs.declared.request.Answer.{Answer}
use Rattle.station_with_books.specs.Law.{none, more}
use Rattle.station_with_books.specs.Stand.{Stands}
use Rattle.station_with_books.specs.Served.{Asked, Served}
use Rattle.station_with_books.specs.Served as served

-- After some requests: a lawful log of them, at which the station stands.
pub record Serving {K : Type 0} (S : Type 0) (lawful : K → Class → Bool) (kind : K) (station : Station K) (first : List ℕ) (requests : List Request) (answers : List Answer) (out : List ℕ) : Type 0 where
  pub so_far : Served S (lawful kind) first requests answers out
  pub stands : Stands lawful kind station so_far.log

module _ {K S : Type 0} (lawful : K → Class → Bool) {kind : K} {station : Station K} {out : List ℕ} where
  pub serving_none : Stands {S = S} lawful kind station [] → Serving S lawful kind station out [] [] out
  serving_none stands = record { so_far = record { log = []; lawful_is = none; serves = served.none }; stands = stands }

  pub serving_more : {after : Station K} {first out_then : List ℕ} (xs : List Request) (ys : List Answer) (i : ℕ) (x : Request) (y : Answer) →
      i < length xs → x ≡ get_or xs i x → i < length ys → Asked S lawful station out x y after out_then → Serving S lawful kind station first (take i xs) (take i ys) out →
      Serving S lawful kind after first (take (i + 1) xs) (take (i + 1) (set ys i y)) out_then
  serving_more xs ys i x y a e b asked before =
      let s = before.so_far in
      let due = asked.keeps kind s.log before.stands in
      record {
        so_far = record {
          log = _;
          lawful_is = more s.lawful_is due.0;
          serves = rw (take_more xs i x, ← e, take_more_set, asked.answer_is, asked.out_is) (served.more s.serves x asked.reply);
        };
        stands = due.1;
      }
