use Rattle.std.proofs.Common.{◌≡◌, ℕ, List, ◌++◌, vec_items, codes, refl, ap, append_assoc}
use Rattle.std.proofs.lemmas.Result.{on_ok_weaker}
use Rattle.books.specs.declared.fault.BookFault.{BookFault}
use Rattle.books.specs.Faults.{told}
use Rattle.checking.specs.Pointing.{Points}
use Rattle.checking.specs.Reports.{refusal_head_lem, Refusal}
use Rattle.checking.proofs.report.put_refusal.Goals as goal

-- The head and the pointer make the four lines.
said_of : (book : List ℕ) (fault : BookFault) (place : ℕ) (t head : List ℕ) {u v : List ℕ} → place ≡ (told fault).spot.place → (words : List ℕ) × (head ≡ refusal_head_lem fault ++ words ++ codes "\n") →
    u ≡ t ++ head → (pointed : List ℕ) × Points book place pointed × (v ≡ u ++ pointed) → (said : List ℕ) × Refusal book fault said × (v ≡ t ++ said)
said_of book fault place t head is_place (words, is_head) a (pointed, points, b) = (
  refusal_head_lem fault ++ words ++ codes "\n" ++ pointed,
  record { words = words; pointed = pointed; points = rw is_place at points; said_is = refl },
  rw (b, a, is_head) (simp append_assoc),
)

pub returns : goal.returns
returns c =
    on_ok_weaker _ (said_of c.args.book.now c.args.fault.now c.spot.result.place (vec_items c.args.text.now) c.as_bytes.result.now
    (ap (λ s. s.place) c.spot.ensures) (rw c.as_bytes.ensures.value c.in_ok-head.ensures) c.in_ok-extend_from_slice.ensures.items) c.put_pointer.ensures
