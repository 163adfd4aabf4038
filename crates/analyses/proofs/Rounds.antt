-- A pass over the nodes flags the nullable ones, and rounds of passes mark the nullable rules.
use Rattle.std.proofs.Common.{◌≡◌, ℕ, ◌+◌, ◌<◌, Bool, true, false, List, [], length, get_or, set, refl, ap, ◌∙◌, arith, below_more}
use Rattle.std.proofs.lemmas.List.{length-set}
use Rattle.std.proofs.lemmas.Grind.{common_steps}
use Rattle.std.proofs.lemmas.Bool.{cases_eq, cases_Bool}
use Rattle.grammar.specs.declared.node.Node.{Node}
use Rattle.grammar.specs.declared.book.Book.{Book}
use Rattle.grammar.specs.Expr.{Expr, empty, any, term, call, seq, alt, star, not, size, body, Grammar}
use Rattle.grammar.specs.Allowed.{rules_at}
use Rattle.grammar.specs.Tables.{blank, laid, listed}
use Rattle.grammar.specs.Layout.{operator_of}
use Rattle.grammar.specs.Held.{Holds}
use Rattle.grammar.proofs.Widths.{starts_length}
use Rattle.analyses.specs.Nulls.{nulls, Sound, MarksRight}
use Rattle.analyses.specs.Stands.{Stands}
use Rattle.analyses.specs.Rounds.{flag_of, Flagged, Round}
use Rattle.analyses.proofs.Nulls.{unmarked_set, nulls_sound, closed_below, marks_right}
use Rattle.analyses.proofs.Stands.{stands_rules}

module _ (ns : List Node) (marks flags : List Bool) (i : ℕ) (later : Flagged (i + 1) ns marks flags) where
  flag_right : (e : Expr) → Stands ns i e → flag_of ns marks flags i (operator_of e) ≡ nulls marks e
  flag_right empty s = refl
  flag_right any s = refl
  flag_right (term n) s = refl
  flag_right (call n) s = refl
  flag_right (seq a b) s =
      let first = later (i + 1) a (omega arith) s.1.0 in
      let second = later (i + 1 + size a) b (omega arith) s.1.1 in
      cc
  flag_right (alt a b) s =
      let first = later (i + 1) a (omega arith) s.1.0 in
      let second = later (i + 1 + size a) b (omega arith) s.1.1 in
      cc
  flag_right (star a) s = refl
  flag_right (not a) s = refl

  -- One flag more.
  pub flagged_more : (r : Bool) → i < length flags → r ≡ flag_of ns marks flags i (get_or ns i blank).operator → Flagged i ns marks (set flags i r)
  flagged_more r l q k e h s =
      let here : Stands ns i e → r ≡ nulls marks e = λ t. q ∙ ap (flag_of ns marks flags i) t.0.1 ∙ flag_right e t in
      grind (arith, common_steps, cases_eq k i, later k e, here)

-- One rule more: it stays as it is, or it is marked.
module _ (k : ℕ) (roots : List ℕ) (flags before after : List Bool) (changed : Bool) (b : Round k roots flags before after changed) where
  pub round_skip : (get_or flags (get_or roots k 0) false ≡ true → get_or after k false ≡ true) → Round (k + 1) roots flags before after changed
  round_skip h = record {
    as_long = b.as_long;
    new = λ n e. grind (arith, b.new n e);
    fewer = b.fewer;
    still = λ c. let s = b.still c in (s.0, below_more _ _ s.1 (λ f. rw (← s.0) (h f)));
  }

  marked : k < length after → get_or after k false ≡ false → get_or flags (get_or roots k 0) false ≡ true → Round (k + 1) roots flags before (set after k true) true
  marked l h f = record {
    as_long = length-set after k true ∙ b.as_long;
    new = λ n e. grind (arith, common_steps, cases_eq n k, b.new n);
    fewer = λ _. grind (arith, unmarked_set after k l h, b.fewer, b.still, cases_Bool changed);
    still = λ c. cc;
  }

  -- what is so marked, under other names
  pub round_mark : (marks : List Bool) (new : Bool) → marks ≡ set after k true → new ≡ true → k < length after → get_or after k false ≡ false → get_or flags (get_or roots k 0) false ≡ true → Round (k + 1) roots flags before marks new
  round_mark marks new m e l h f = rw (m, e) (marked l h f)

-- The rules of a grammar that a book holds stand where its roots say.
roots_stand : (book : Book) (g : Grammar) → Holds book g → (n : ℕ) → n < length g.rules → Stands (laid book.table) (get_or (listed book.roots) n 0) (body g.rules n)
roots_stand book g h n l =
    rw h.roots_are (stands_rules (laid book.table) [] 0 (rules_at g) g.rules refl h.nodes_are n l)

pub roots_count : (book : Book) (g : Grammar) → Holds book g → length (listed book.roots) ≡ length g.rules
roots_count book g h = ap length h.roots_are ∙ starts_length 0 g.rules

-- A whole round.
module _ (book : Book) (flags before after : List Bool) (changed : Bool) (flagged : Flagged 0 (laid book.table) before flags) (b : Round (length (listed book.roots)) (listed book.roots) flags before after changed) (g : Grammar) (holds : Holds book g) where
  pub round_sound : Sound g.rules before → Sound g.rules after
  round_sound sound n e =
      let stands = roots_stand book g holds n in
      let flag = flagged (get_or (listed book.roots) n 0) (body g.rules n) (omega arith) in
      grind (arith, b.new n e, sound n, roots_count book g holds, stands, flag, nulls_sound g.rules before sound (body g.rules n))

  pub round_right : changed ≡ false → Sound g.rules before → MarksRight g.rules after
  round_right c sound =
      let s = b.still c in
      let closed : (n : ℕ) → n < length g.rules → nulls before (body g.rules n) ≡ true → get_or before n false ≡ true =
      λ n l q. s.1 n (omega (arith, roots_count book g holds)) (flagged (get_or (listed book.roots) n 0) (body g.rules n) (omega arith) (roots_stand book g holds n l) ∙ q) in
      rw s.0 (marks_right g.rules before sound (closed_below g.rules before closed))
