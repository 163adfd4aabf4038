use Rattle.std.proofs.Common.{◌≡◌, ℕ, List, ◌++◌, string_bytes, codes, decimal, append_assoc}
use Rattle.std.proofs.lemmas.Result.{IfOk-weaker}
use Rattle.tokens.specs.declared.spot.Spot.{Spot}
use Rattle.books.specs.declared.fault.BookFault.{BookFault}
use Rattle.books.specs.Faults.{told}
use Rattle.checking.specs.Reports.{refusal_head_lem}
use Rattle.checking.proofs.report.refusal_head.Goals as goal

-- The pieces make the two lines.
said_of : (fault : BookFault) (number : ℕ) (spot : Spot) (words said : List ℕ) → number ≡ (told fault).number → spot ≡ (told fault).spot →
    said ≡ codes "book " ++ (decimal number ++ (codes " line " ++ (decimal spot.line ++ (codes " place " ++ (decimal spot.place ++ (codes "\n" ++ (words ++ codes "\n"))))))) → (ws : List ℕ) × (said ≡ refusal_head_lem fault ++ ws ++ codes "\n")
said_of fault number spot words said is_number is_spot is_said = (words, rw (is_said, is_number, is_spot) (simp append_assoc))

pub returns : goal.returns
returns c =
    IfOk-weaker _ _ _ (λ s. said_of c.args.fault.now c.number-number.result c.spot-place.result c.meaning-meaning.result.now (string_bytes s)
    c.number-number.ensures c.spot-place.ensures) c.format.ensures.ok
