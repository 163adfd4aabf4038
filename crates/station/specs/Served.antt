-- What it means that requests were served with answers.
use Rattle.std.specs.Prelude.{◌≡◌, List, reverse}
use Rattle.station.specs.Law.{Call, bill, settle, Reply, total, Log, Lawful}
use Rattle.station.specs.Whole.{asked, replied}
use Rattle.station.specs.declared.request.Request.{Request}
use Rattle.station.specs.declared.request.Request.TheVariants.{Bill, Settle}
use Rattle.station.specs.declared.request.Answer.{Answer}
use Rattle.station.specs.declared.request.Answer.TheVariants.{Total}

-- The call that a request makes.
abbrev pub call_of : {S : Type 0} → Request → Call S
call_of Bill = bill
call_of Settle = settle

-- The reply that an answer gives.
abbrev pub reply_of : Answer → Reply
reply_of (Total n) = total n

-- These calls, in the order of time, with these replies are a lawful log.
pub record Served {S : Type 0} (calls : List (Call S)) (replies : List Reply) : Type 0 where
  pub log : Log S
  pub lawful : Lawful log
  pub calls_are : asked log ≡ reverse calls
  pub replies_are : replied log ≡ reverse replies
