-- One more request served is one more entry of the log.
use Rattle.std.proofs.Common.{◌≡◌, ℕ, ◌+◌, ◌<◌, List, [], ◌∷◌, ◌++◌, map, reverse, length, get_or, take, set, sym, refl, ap, ◌∙◌}
use mathlib.Core.List.{map-append, reverse-append}
use Rattle.std.proofs.lemmas.List.{take_more, take_more_set}
use Rattle.station.specs.declared.state.Station.{Station}
use Rattle.station.specs.declared.request.Request.{Request}
use Rattle.station.specs.declared.request.Answer.{Answer}
use Rattle.station.specs.Law.{none, more}
use Rattle.station.specs.Whole.{asked, replied}
use Rattle.station.specs.Stand.{Stands, Keeps}
use Rattle.station.specs.Served.{call_of, reply_of, Served}

-- the newest comes first when a list that grows at its end is turned round
newest_first : {X Y : Type 0} (f : X → Y) (before after : List X) (x : X) (ys : List Y) →
    after ≡ before ++ (x ∷ []) → ys ≡ reverse (map f before) → f x ∷ ys ≡ reverse (map f after)
newest_first f before after x ys grown so_far = simp (grown, so_far, map-append, reverse-append)

-- After some requests: a lawful log of them, at which the station stands.
pub record Serving {K : Type 0} (S : Type 0) (kind : K) (station : Station K) (requests : List Request) (answers : List Answer) : Type 0 where
  pub served : Served {S = S} (map call_of requests) (map reply_of answers)
  pub stands : Stands kind station served.log

pub serving_none : {K S : Type 0} {kind : K} {station : Station K} → Stands {S = S} kind station [] → Serving S station.kind station [] []
serving_none stands = record {
  served = record { log = []; lawful = none; calls_are = refl; replies_are = refl };
  stands = record { kind_is = refl; sum_is = stands.sum_is; reads_is = stands.reads_is };
}

pub serving_more : {K S : Type 0} {kind : K} {station after : Station K} (xs : List Request) (ys : List Answer) (i : ℕ) (x : Request) (y : Answer) →
    i < length xs → x ≡ get_or xs i x → i < length ys → Keeps {S = S} station (call_of x) (reply_of y) after →
    Serving S kind station (take i xs) (take i ys) → Serving S kind after (take (i + 1) xs) (take (i + 1) (set ys i y))
serving_more {kind = kind} xs ys i x y a e b keeps so_far =
    let s = so_far.served in
    let due = keeps kind s.log so_far.stands in
    let asked_more : take (i + 1) xs ≡ take i xs ++ (x ∷ []) = take_more xs i x a ∙ ap (λ v. take i xs ++ (v ∷ [])) (sym e) in
    record {
      served = record {
        log = (call_of x, reply_of y) ∷ s.log;
        lawful = more s.lawful due.0;
        calls_are = newest_first call_of (take i xs) (take (i + 1) xs) x (asked s.log) asked_more s.calls_are;
        replies_are = newest_first reply_of (take i ys) (take (i + 1) (set ys i y)) y (replied s.log) (take_more_set ys i y b) s.replies_are;
      };
      stands = due.1;
    }
