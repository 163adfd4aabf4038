-- How a station stands to a log, and what each call promises.
use Rattle.std.specs.Prelude.{◌≡◌, [], ◌∷◌}
use Rattle.station.specs.declared.state.Station.{Station}
use Rattle.station.specs.Law.{Call, Reply, Log, owed, reads, Due}

-- The station is as the log leaves it.
pub record Stands {K S : Type 0} (kind : K) (station : Station K) (log : Log S) : Type 0 where
  pub kind_is : station.kind ≡ kind
  pub sum_is : station.sum ≡ owed log
  pub reads_is : station.reads ≡ reads log

-- What a call promises: after every log at which the station stood, the reply is due, and the station stands at the longer log.
abbrev pub Keeps : {K S : Type 0} → Station K → Call S → Reply → Station K → Type 0
Keeps {K} {S} before call reply after =
    (kind : K) (log : Log S) → Stands kind before log → Due log call reply × Stands kind after ((call, reply) ∷ log)

-- A log of calls that follow one another from a first station, each keeping its promise.
pub data Linked {K S : Type 0} (first : Station K) : Station K → Log S → Type 0 where
  start : Linked first first []
  next : {before after : Station K} {call : Call S} {reply : Reply} {log : Log S} →
      Linked first before log → Keeps before call reply after → Linked first after ((call, reply) ∷ log)
