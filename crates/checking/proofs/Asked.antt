-- What a station answers to a load and then a show.
use Rattle.std.proofs.Common.{◌≡◌, ℕ, ◌<◌, ◌≤◌, min, Bool, List, [], ◌∷◌, ◌++◌, length, get_or, take, drop, Some, None, Ok, Err, Result, Option, sym, refl, ap, ◌∙◌, subst, append_assoc, arith, length-append, length-take, take_at}
use Rattle.kinds.specs.declared.class.Class.{Class}
use Rattle.grammar.specs.Expr.{Grammar}
use Rattle.grammar.specs.Spelling.{spelling}
use Rattle.grammar.specs.Allowed.{Allowed}
use Rattle.books.specs.declared.fault.BookFault.{BookFault}
use Rattle.books.specs.Verdict.{Refuses}
use Rattle.station_with_books.specs.declared.answers.Counts.{Counts}
use Rattle.station_with_books.specs.declared.answers.ShowRefusal.{ShowRefusal}
use Rattle.std.specs.Result.{IsOk}
use Rattle.station_with_books.specs.declared.request.Request.{Request}
use Rattle.station_with_books.specs.declared.request.Request.TheVariants.{Show}
use Rattle.station_with_books.specs.declared.request.Answer.{Answer}
use Rattle.station_with_books.specs.declared.request.Answer.TheVariants.{Loaded, Shown}
use Rattle.station_with_books.specs.Law.{Call, load, show, Reply, loaded, Log, counts_of, Due, accepted, refused, no_book, too_short, written, Lawful, more}
use Rattle.station_with_books.specs.Served.{call_of, answer_of, out_after, Serves, Served}
use Rattle.station_with_books.specs.Served as served

-- Lists that are equal up to their last elements have the same last element and the same rest.
longer : {A : Type 0} (z : A) (zs : List A) (x y : A) → x ∷ [] ≡ z ∷ (zs ++ (y ∷ [])) → ⊥
longer z zs x y e = let k = length-append zs (y ∷ []) in omega (arith, ap length e, k)

last_same : {A : Type 0} (xs ys : List A) (x y : A) → xs ++ (x ∷ []) ≡ ys ++ (y ∷ []) → (xs ≡ ys) × (x ≡ y)
last_same [] [] x y e = (refl, cc)
last_same [] (z ∷ zs) x y e = elim (longer z zs x y e) [ ]
last_same (w ∷ ws) [] x y e = elim (longer w ws y x (sym e)) [ ]
last_same (w ∷ ws) (z ∷ zs) x y e =
    let rest : ws ++ (x ∷ []) ≡ zs ++ (y ∷ []) = cc in
    let same : w ≡ z = cc in
    let p = last_same ws zs x y rest in
    (let q = p.0 in cc, p.1)

-- No list ends in an element and is empty.
never_empty : {A : Type 0} (xs : List A) (x : A) → [] ≡ xs ++ (x ∷ []) → ⊥
never_empty xs x e = let k = length-append xs (x ∷ []) in omega (arith, ap length e, k)

-- The last of the requests that were served, with its reply.
record Last {S : Type 0} (out : List ℕ) (requests : List Request) (request : Request) (answers : List Answer) (answer : Answer) (log : Log S) (out_then : List ℕ) : Type 0 where
  earlier : Log S
  mid : List ℕ
  reply : Reply
  serves : Serves out requests answers earlier mid
  log_is : log ≡ (call_of mid request, reply) ∷ earlier
  answer_is : answer ≡ answer_of reply
  out_is : out_then ≡ out_after mid request reply

serves_as : {S : Type 0} {out : List ℕ} {rs rs' : List Request} {ys ys' : List Answer} {log : Log S} {o : List ℕ} → rs ≡ rs' → ys ≡ ys' → Serves out rs ys log o → Serves out rs' ys' log o
serves_as {S = S} {out = out} {rs = rs} {rs' = rs'} {ys = ys} {log = log} {o = o} p q s =
    subst (λ z. Serves {S = S} out rs' z log o) q (subst (λ z. Serves {S = S} out z ys log o) p s)

last_of : {S : Type 0} {out : List ℕ} {rs : List Request} {ys : List Answer} {log : Log S} {o : List ℕ} (rs₀ : List Request) (r : Request) (ys₀ : List Answer) (y : Answer) →
    rs ≡ rs₀ ++ (r ∷ []) → ys ≡ ys₀ ++ (y ∷ []) → Serves out rs ys log o → Last out rs₀ r ys₀ y log o
last_of rs₀ r ys₀ y e f served.none = elim (never_empty rs₀ r e) [ ]
last_of rs₀ r ys₀ y e f (served.more {requests = xs} {answers = zs} {log = earlier} {mid = mid} s request reply) =
    let p = last_same xs rs₀ request r e in
    let q = last_same zs ys₀ (answer_of reply) y f in
    record {
      earlier = earlier;
      mid = mid;
      reply = reply;
      serves = serves_as p.0 q.0 s;
      log_is = ap (λ z. (call_of mid z, reply) ∷ earlier) p.1;
      answer_is = sym q.1;
      out_is = ap (λ z. out_after mid z reply) p.1;
    }

none_of : {S : Type 0} {out : List ℕ} {rs : List Request} {ys : List Answer} {log : Log S} {o : List ℕ} → rs ≡ [] → Serves out rs ys log o → (log ≡ []) × (o ≡ out)
none_of e served.none = (refl, refl)
none_of e (served.more {requests = xs} s request reply) = elim (never_empty xs request (sym e)) [ ]

-- Two requests: the replies that were due, and what became of the buffer.
record Two (S : Type 0) (lawful : Class → Bool) (out : List ℕ) (r₀ r₁ : Request) (a₀ a₁ : Answer) (out_then : List ℕ) : Type 0 where
  first : Reply
  second : Reply
  first_due : Due lawful {S = S} [] (call_of out r₀) first
  second_due : Due lawful {S = S} ((call_of out r₀, first) ∷ []) (call_of (out_after out r₀ first) r₁) second
  first_is : a₀ ≡ answer_of first
  second_is : a₁ ≡ answer_of second
  out_is : out_then ≡ out_after (out_after out r₀ first) r₁ second

both_due : {S : Type 0} {lawful : Class → Bool} {c₀ c₁ : Call S} {p₀ p₁ : Reply} → Lawful lawful ((c₁, p₁) ∷ (c₀, p₀) ∷ []) → Due lawful [] c₀ p₀ × Due lawful ((c₀, p₀) ∷ []) c₁ p₁
both_due (more (more l d) e) = (d, e)

two_served : {S : Type 0} {lawful : Class → Bool} (out : List ℕ) (r₀ r₁ : Request) (a₀ a₁ : Answer) {out_then : List ℕ} → Served S lawful out (r₀ ∷ r₁ ∷ []) (a₀ ∷ a₁ ∷ []) out_then → Two S lawful out r₀ r₁ a₀ a₁ out_then
two_served {S = S} {lawful = lawful} out r₀ r₁ a₀ a₁ s =
    let b = last_of (r₀ ∷ []) r₁ (a₀ ∷ []) a₁ refl refl s.serves in
    let a = last_of [] r₀ [] a₀ refl refl b.serves in
    let n = none_of refl a.serves in
    let mid : b.mid ≡ out_after out r₀ a.reply = a.out_is ∙ ap (λ z. out_after z r₀ a.reply) n.1 in
    let earlier : b.earlier ≡ (call_of out r₀, a.reply) ∷ [] = a.log_is ∙ ap (λ z. (call_of z r₀, a.reply) ∷ a.earlier) n.1 ∙ ap (λ z. (call_of out r₀, a.reply) ∷ z) n.0 in
    let log : s.log ≡ (call_of (out_after out r₀ a.reply) r₁, b.reply) ∷ (call_of out r₀, a.reply) ∷ [] =
    b.log_is ∙ ap (λ z. (call_of z r₁, b.reply) ∷ b.earlier) mid ∙ ap (λ z. (call_of (out_after out r₀ a.reply) r₁, b.reply) ∷ z) earlier in
    let due = both_due (subst (λ z. Lawful lawful {S = S} z) log s.lawful_is) in
    record {
      first = a.reply;
      second = b.reply;
      first_due = due.0;
      second_due = due.1;
      first_is = a.answer_is;
      second_is = b.answer_is;
      out_is = b.out_is ∙ ap (λ z. out_after z r₁ b.reply) mid;
    }

-- A load that took, and then a show that wrote the same bytes; or a load that was refused.
pub data Outcome (lawful : Class → Bool) (input out_then : List ℕ) : Answer → Answer → Type 0 where
  took : {g : Grammar} {counts : Counts} {n : ℕ} → input ≡ spelling g → Allowed lawful g → counts ≡ counts_of g → n ≤ length out_then → take n out_then ≡ input → Outcome lawful input out_then (Loaded (Ok counts)) (Shown (Ok n))
  faulty : {fault : BookFault} {second : Result ℕ ShowRefusal} → Refuses lawful input fault → Outcome lawful input out_then (Loaded (Err fault)) (Shown second)

some_same : {A : Type 0} (x y : A) → ◌≡◌ {A = Option A} (Some x) (Some y) → x ≡ y
some_same x y e = cc

some_none : {A : Type 0} (x : A) → ◌≡◌ {A = Option A} (Some x) None → ⊥
some_none x e = let z : ◌≡◌ {A = ℕ} 0 1 = cc in omega arith

never_short : (xs ys : List ℕ) (n : ℕ) → xs ≡ ys → length xs ≤ n → n < length ys → ⊥
never_short xs ys n e room short = omega (arith, ap length e)

-- The show after a load that took: the buffer was long enough.
shown_after : {S : Type 0} {lawful : Class → Bool} (input out out_then : List ℕ) (n : ℕ) (g : Grammar) (counts : Counts) (second : Reply) →
    input ≡ spelling g → Allowed lawful g → counts ≡ counts_of g → length input ≤ length (take n out) → Due lawful {S = S} ((load input, loaded counts) ∷ []) (show (take n out)) second →
    out_then ≡ out_after out (Show n) second → Outcome lawful input out_then (Loaded (Ok counts)) (answer_of second)
shown_after input out out_then n g counts second spells allowed is_counts room (no_book force same) o = elim (some_none input force) [ ]
shown_after input out out_then n g counts second spells allowed is_counts room (too_short {bytes = bytes} force short same) o =
    elim (never_short input bytes (length (take n out)) (some_same input bytes force) room short) [ ]
shown_after input out out_then n g counts second spells allowed is_counts room (written {bytes = bytes} {n = m} force fits size is-after) o =
    let same = some_same input bytes force in
    let whole : out_then ≡ bytes ++ (drop m (take n out) ++ drop n out) = o ∙ ap (λ z. z ++ drop n out) is-after ∙ append_assoc bytes (drop m (take n out)) (drop n out) in
    took spells allowed is_counts (let l = length-append bytes (drop m (take n out) ++ drop n out) in omega (arith, ap length whole, size, l)) (ap (λ z. take m z) whole ∙ take_at bytes (drop m (take n out) ++ drop n out) m (sym size) ∙ sym same)

loaded_then : {S : Type 0} {lawful : Class → Bool} (input out out_then : List ℕ) (n : ℕ) (first second : Reply) → min (length input) 32768 ≤ length (take n out) →
    Due lawful {S = S} [] (load input) first → Due lawful {S = S} ((load input, first) ∷ []) (show (take n out)) second →
    out_then ≡ out_after out (Show n) second → Outcome lawful input out_then (answer_of first) (answer_of second)
loaded_then input out out_then n first second room (accepted {g = g} {counts = counts} spells allowed is_counts) due o =
    shown_after input out out_then n g counts second spells allowed is_counts (omega (arith, ap length spells, allowed.short)) due o
loaded_then input out out_then n first second room (refused r) (no_book force same) o = faulty r
loaded_then input out out_then n first second room (refused r) (too_short force short same) o = faulty r
loaded_then input out out_then n first second room (refused r) (written force fits size is-after) o = faulty r

-- What came of a load and a show, whose answers stand in a list of two.
outcome : {S : Type 0} {lawful : Class → Bool} (input out : List ℕ) (n : ℕ) (r : Request) (a₀ a₁ : Answer) {out_then : List ℕ} → min (length input) 32768 ≤ length (take n out) →
    call_of {S = S} out r ≡ load input → ((reply : Reply) → out_after out r reply ≡ out) →
    Served S lawful out (r ∷ Show n ∷ []) (a₀ ∷ a₁ ∷ []) out_then → Outcome lawful input out_then a₀ a₁
outcome {S = S} {lawful = lawful} input out n r a₀ a₁ {out_then = out_then} room is_load stays s =
    let t = two_served out r (Show n) a₀ a₁ s in
    let o = t.out_is ∙ ap (λ z. out_after z (Show n) t.second) (stays t.first) in
    let first_due = subst (λ z. Due lawful {S = S} [] z t.first) is_load t.first_due in
    let second_due = subst (λ z. Due lawful {S = S} ((z, t.first) ∷ []) (show (take n out)) t.second) is_load (subst (λ z. Due lawful {S = S} ((call_of out r, t.first) ∷ []) (show (take n z)) t.second) (stays t.first) t.second_due) in
    let found = loaded_then input out out_then n t.first t.second room first_due second_due o in
    subst (λ z. Outcome lawful input out_then z a₁) (sym t.first_is) (subst (λ z. Outcome lawful input out_then (answer_of t.first) z) (sym t.second_is) found)

clash : ◌≡◌ {A = ℕ} 0 1 → ⊥
clash e = omega arith

pub outcome_in : {S : Type 0} {lawful : Class → Bool} (input out : List ℕ) (n : ℕ) (r : Request) (answers : List Answer) (d : Answer) (k : ℕ) {out_then : List ℕ} → length answers ≡ 2 → k ≡ 2 → min (length input) 32768 ≤ length (take n out) →
    call_of {S = S} out r ≡ load input → ((reply : Reply) → out_after out r reply ≡ out) →
    Served S lawful out (take k (r ∷ Show n ∷ [])) (take k answers) out_then → Outcome lawful input out_then (get_or answers 0 d) (get_or answers 1 d)
outcome_in input out n r [] d k two is_k room is_load stays s = let z : ◌≡◌ {A = ℕ} 0 1 = omega arith in elim (clash z) [ ]
outcome_in input out n r (a ∷ []) d k two is_k room is_load stays s = let z : ◌≡◌ {A = ℕ} 0 1 = omega arith in elim (clash z) [ ]
outcome_in {S = S} {lawful = lawful} input out n r (a ∷ b ∷ []) d k {out_then = out_then} two is_k room is_load stays s =
    outcome input out n r a b room is_load stays (subst (λ j. Served S lawful out (take j (r ∷ Show n ∷ [])) (take j (a ∷ b ∷ [])) out_then) is_k s)
outcome_in input out n r (a ∷ b ∷ c ∷ rest) d k two is_k room is_load stays s = let z : ◌≡◌ {A = ℕ} 0 1 = omega arith in elim (clash z) [ ]

-- What an array of answers is read at past its end.
abbrev pub blank : Answer
blank = Loaded (Ok (record { classes = 0; rules = 0; expressions = 0 }))

-- What came of a load and a show in a buffer as long as the input, or as any book.
pub answered : {S : Type 0} {lawful : Class → Bool} (input out : List ℕ) (r : Request) (n : ℕ) (answers : List Answer) {k : ℕ} {out_then : List ℕ} → length answers ≡ 2 → k ≡ 2 → n ≡ min (length input) 32768 → length out ≡ n →
    call_of {S = S} out r ≡ load input → ((reply : Reply) → out_after out r reply ≡ out) →
    Served S lawful out (take k (r ∷ Show n ∷ [])) (take k answers) out_then → Outcome lawful input out_then (get_or answers 0 blank) (get_or answers 1 blank)
answered input out r n answers {k = k} two is_k room long is_load stays s =
    outcome_in input out n r answers blank k two is_k (omega (arith, length-take n out, room, long)) is_load stays s

-- What is known after a load that took: the grammar of the input, and that the show after it wrote the input.
pub record Took (lawful : Class → Bool) (input out_then : List ℕ) (counts : Counts) (shown : Result ℕ ShowRefusal) : Type 0 where
  pub grammar : Grammar
  pub spells : input ≡ spelling grammar
  pub allowed : Allowed lawful grammar
  pub counts_are : counts ≡ counts_of grammar
  pub is_shown : IsOk shown
  pub shows : (n : ℕ) → shown ≡ Ok n → (n ≤ length out_then) × (take n out_then ≡ input)

pub took_then : {lawful : Class → Bool} {input out_then : List ℕ} {a b : Answer} {l : Result Counts BookFault} {s : Result ℕ ShowRefusal} {k : Counts} →
    Outcome lawful input out_then a b → a ≡ Loaded l → b ≡ Shown s → l ≡ Ok k → Took lawful input out_then k s
took_then {input = input} {out_then = out_then} {s = s} {k = k} (took {g = g} {counts = counts} {n = m} spells allowed is_counts fits same) e f is =
    let same_counts : counts ≡ k = cc in
    let same_show : s ≡ Ok m = cc in
    record {
      grammar = g;
      spells = spells;
      allowed = allowed;
      counts_are = sym same_counts ∙ is_counts;
      is_shown = rw (same_show) refl;
      shows = λ n is_n. let same_size : m ≡ n = cc in (subst (λ z. z ≤ length out_then) same_size fits, subst (λ z. take z out_then ≡ input) same_size same);
    }
took_then (faulty r) e f is = let z : ◌≡◌ {A = ℕ} 0 1 = cc in elim (clash z) [ ]

pub faulty_then : {lawful : Class → Bool} {input out_then : List ℕ} {a b : Answer} {l : Result Counts BookFault} {fault : BookFault} →
    Outcome lawful input out_then a b → a ≡ Loaded l → l ≡ Err fault → Refuses lawful input fault
faulty_then {lawful = lawful} {input = input} {fault = fault} (faulty {fault = found} r) e is = let same : found ≡ fault = cc in subst (λ z. Refuses lawful input z) same r
faulty_then (took spells allowed is_counts fits same) e is = let z : ◌≡◌ {A = ℕ} 0 1 = cc in elim (clash z) [ ]

pub is_loaded : {lawful : Class → Bool} {input out_then : List ℕ} {a b : Answer} → Outcome lawful input out_then a b → ((l : Result Counts BookFault) → a ≡ Loaded l → ⊥) → ⊥
is_loaded (took {counts = counts} spells allowed is_counts fits same) other = other (Ok counts) refl
is_loaded (faulty {fault = fault} r) other = other (Err fault) refl

pub is_shown : {lawful : Class → Bool} {input out_then : List ℕ} {a b : Answer} → Outcome lawful input out_then a b → ((s : Result ℕ ShowRefusal) → b ≡ Shown s → ⊥) → ⊥
is_shown (took {n = n} spells allowed is_counts fits same) other = other (Ok n) refl
is_shown (faulty {second = second} r) other = other second refl
