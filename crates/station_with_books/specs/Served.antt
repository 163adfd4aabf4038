-- What it means that requests were served with answers.
use Rattle.std.specs.Prelude.{◌≡◌, ℕ, Bool, List, [], ◌∷◌, ◌++◌, take, drop, Ok, Err}
use Rattle.kinds.specs.declared.class.Class.{Class}
use Rattle.station_with_books.specs.declared.state.Station.{Station}
use Rattle.station_with_books.specs.Law.{Call, load, show, bill, settle, Reply, loaded, faulted, shown, unshown, total, Log, Lawful}
use Rattle.station_with_books.specs.Stand.{Keeps}
use Rattle.station_with_books.specs.declared.request.Request.{Request}
use Rattle.station_with_books.specs.declared.request.Request.TheVariants.{Load, Show, Bill, Settle}
use Rattle.station_with_books.specs.declared.request.Answer.{Answer}
use Rattle.station_with_books.specs.declared.request.Answer.TheVariants.{Loaded, Shown, Total}

-- The call that a request makes, where the lent buffer is `out`.
abbrev pub call_of : {S : Type 0} → List ℕ → Request → Call S
call_of out (Load bytes) = load bytes.now
call_of out (Show length) = show (take length out)
call_of out Bill = bill
call_of out Settle = settle

-- What is answered for a reply.
abbrev pub answer_of : Reply → Answer
answer_of (loaded counts) = Loaded (Ok counts)
answer_of (faulted fault) = Loaded (Err fault)
answer_of (shown n after) = Shown (Ok n)
answer_of (unshown refusal after) = Shown (Err refusal)
answer_of (total n) = Total n

-- The lent buffer after a request and its reply: show has had the front of it.
abbrev pub out_after : List ℕ → Request → Reply → List ℕ
out_after out (Load bytes) reply = out
out_after out (Show length) (shown n after) = after ++ drop length out
out_after out (Show length) (unshown refusal after) = after ++ drop length out
out_after out (Show length) (loaded counts) = out
out_after out (Show length) (faulted fault) = out
out_after out (Show length) (total n) = out
out_after out Bill reply = out
out_after out Settle reply = out

-- One request was asked, and answered with what its reply says.
pub record Asked (S : Type 0) {K : Type 0} (lawful : K → Class → Bool) (before : Station K) (out : List ℕ) (request : Request) (answer : Answer) (after : Station K) (out_then : List ℕ) : Type 0 where
  pub reply : Reply
  pub keeps : Keeps {S = S} lawful before (call_of out request) reply after
  pub answer_is : answer ≡ answer_of reply
  pub out_is : out_then ≡ out_after out request reply

-- The log's calls are these requests, in the order of time, and its replies these answers, where the lent buffer was `out` at first.
pub data Serves {S : Type 0} (out : List ℕ) : List Request → List Answer → Log S → List ℕ → Type 0 where
  none : Serves out [] [] [] out
  more : {requests : List Request} {answers : List Answer} {log : Log S} {mid : List ℕ} → Serves out requests answers log mid → (request : Request) (reply : Reply) →
      Serves out (requests ++ (request ∷ [])) (answers ++ (answer_of reply ∷ [])) ((call_of mid request, reply) ∷ log) (out_after mid request reply)

-- These requests with these answers are a lawful log, and this is how they left the lent buffer.
pub record Served (S : Type 0) (lawful : Class → Bool) (out : List ℕ) (requests : List Request) (answers : List Answer) (out_then : List ℕ) : Type 0 where
  pub log : Log S
  pub lawful_is : Lawful lawful log
  pub serves : Serves out requests answers log out_then
