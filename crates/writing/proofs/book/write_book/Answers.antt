use Rattle.std.proofs.Common.{cond, length, Some, None, sym, refl, ap, ◌∙◌, arith, rules}
use Rattle.std.proofs.lemmas.Bool.{le-leb}
use Rattle.writing.specs.Walk.{book_lines}
use Rattle.writing.proofs.Puts.{front}
use Rattle.writing.proofs.Held.{lines_spell, lines_count}
use Rattle.writing.proofs.book.write_book.Goals as goal

pub returns-clause-answer : goal.returns-clause-answer
returns-clause-answer c =
    let book = c.args.book.now in
    let count = (front _ _ refl c.put_book.ensures (refl {a = book_lines book}) _ refl).0 ∙ lines_count book in
    ap Some count ∙ sym (ap (λ b. cond b (Some book.length) None) (le-leb book.length (length c.args.out.now) (omega arith)))

pub returns-clause-wrote : goal.returns-clause-wrote
returns-clause-wrote c g holds = front _ c.put_book.new.self refl c.put_book.ensures (lines_spell c.args.book.now g holds) _ (search rules)
