-- Rule lines that have been read stand in the tables.
use Rattle.std.proofs.Common.{◌≡◌, ℕ, ◌+◌, ◌-◌, ◌<◌, cond, ltb, List, [], ◌∷◌, ◌++◌, length, codes, sym, refl, ap, ◌∙◌, append_assoc, zero-add, arith, length-append, length-drop}
use Rattle.std.proofs.lemmas.List.{append-nil, length_push}
use Rattle.tokens.specs.Out.{Out, ok, no}
use Rattle.tokens.specs.declared.token.Word.TheVariants.{Rule}
use Rattle.tokens.specs.declared.token.Token.TheVariants.{Open, Close, Feed, Letters}
use Rattle.grammar.specs.declared.table.Table.{Table}
use Rattle.grammar.specs.declared.limited.Limited.{Limited}
use Rattle.grammar.specs.Expr.{Expr, size}
use Rattle.grammar.specs.Allowed.{past, line_width, sizes}
use Rattle.grammar.specs.Tables.{laid, listed}
use Rattle.grammar.specs.Layout.{flat, flats, starts}
use Rattle.grammar.proofs.Widths.{spell_length, flat_length}
use Rattle.books.specs.declared.fault.BookFault.{BookFault}
use Rattle.books.specs.declared.reader.Reader.{Reader}
use Rattle.books.specs.Reading.{expecting, operand, expression, rule_line, onward, rule_lines}
use Rattle.books.specs.Steps.{rest, Stepped, count, Grown, line_widths, Begun, Ruled}
use Rattle.books.proofs.Grows.{given_at, over, moved, lexed, grown_count}
use Rattle.books.proofs.Rows.{pushed, line_ok, rules_no, rules_on}
use Rattle.books.proofs.Sound.{rule_gives}
use Rattle.books.proofs.Spelled.{line_sound}

-- a rule line, from its parts
pub grown_line : (left : ℕ) → 0 < left → (r : Reader) {r₁ r₂ r₃ r₄ s : Reader} (T T' : Table)
    → Stepped (expecting r.bytes.now Open r.at (rest r)) r Open r₁
    → Stepped (expecting r₁.bytes.now (Letters Rule) r₁.at (rest r₁)) r₁ (Letters Rule) r₂
    → Grown (operand r₂.bytes.now (expression r₂.bytes.now 64) (count T)) (r₂.at + 1) r₂ r₃ T T'
    → Stepped (expecting r₃.bytes.now Close r₃.at (rest r₃)) r₃ Close r₄
    → Stepped (expecting r₄.bytes.now Feed r₄.at (rest r₄)) r₄ Feed s
    → Grown (rule_line r.bytes.now left (count T)) (past r.at (codes "rule")) r s T T'
grown_line left l r {r₁ = r₁} {r₂ = r₂} {r₃ = r₃} {r₄ = r₄} {s = s} T T' o w g q f =
    let bs : List ℕ = r.bytes.now in
    let same₂ : r₂.bytes.now ≡ bs = w.same ∙ o.same in
    let same₃ : r₃.bytes.now ≡ bs = g.step.same ∙ same₂ in
    let same₄ : r₄.bytes.now ≡ bs = q.same ∙ same₃ in
    let same : s.bytes.now ≡ bs = f.same ∙ same₄ in
    let place : r₂.at + 1 ≡ past r.at (codes "rule") = omega (arith, moved (40 ∷ []) r r₁ o.same (lexed o), moved (codes "rule") r₁ r₂ w.same (given_at (rule_gives r₁.bytes.now r₁.at (rest r₁)) w.says)) in
    record {
      tree = g.tree;
      step = record {
        same = same;
        says =
            rw same
            (line_ok bs r.at (rest r) left (count T) l (over (λ bs. expecting bs Open) bs refl o) (over (λ bs. expecting bs (Letters Rule)) bs o.same w) (over (λ bs. operand bs (expression bs 64) (count T)) bs same₂ g.step)
            (over (λ bs. expecting bs Close) bs same₃ q) (over (λ bs. expecting bs Feed) bs same₄ f));
      };
      wrote = g.wrote ∙ ap (λ a. laid T ++ flat (count T) a g.tree) place;
    }

-- how far a rule line goes, and that there was room for one
pub record Passed (left : ℕ) (r s : Reader) (x : Expr) : Type 0 where
  pub positive : 0 < left
  pub moved : s.at ≡ r.at + line_width x

pub passed : (left n : ℕ) (r s : Reader) {x : Expr} → Stepped (rule_line r.bytes.now left n r.at (rest r)) r x s → Passed left r s x
passed left n r s {x = x} h =
    let p = given_at (line_sound r.bytes.now left n r.at (rest r)) h.says in
    record { positive = p.positive; moved = omega (arith, ap length p.bytes, spell_length x (41 ∷ (10 ∷ rest s)), length-drop r.at r.bytes.now, length-drop s.at s.bytes.now, r.within, s.within, ap length h.same) }

pub line_widths_push : (es : List Expr) (x : Expr) → line_widths (es ++ (x ∷ [])) ≡ line_widths es + line_width x
line_widths_push [] x = omega arith
line_widths_push (e ∷ es) x = omega (arith, line_widths_push es x)

flats_push : (i at : ℕ) (es : List Expr) (x : Expr) → flats i at (es ++ (x ∷ [])) ≡ flats i at es ++ flat (i + sizes es) (past (at + line_widths es) (codes "rule")) x
flats_push i at [] x =
    let e : i ≡ i + 0 = omega arith in
    let f : at ≡ at + 0 = omega arith in
    append-nil (flat i (past at (codes "rule")) x) ∙ ap (λ k. flat k (past at (codes "rule")) x) e ∙ ap (λ k. flat (i + 0) (past k (codes "rule")) x) f
flats_push i at (y ∷ es) x =
    let e : i + size y + sizes es ≡ i + (size y + sizes es) = omega arith in
    let f : at + line_width y + line_widths es ≡ at + (line_width y + line_widths es) = omega arith in
    ap (λ ns. flat i (past at (codes "rule")) y ++ ns)
    (flats_push (i + size y) (at + line_width y) es x
    ∙ ap (λ k. flats (i + size y) (at + line_width y) es ++ flat k (past (at + line_width y + line_widths es) (codes "rule")) x) e
    ∙ ap (λ k. flats (i + size y) (at + line_width y) es ++ flat (i + (size y + sizes es)) (past k (codes "rule")) x) f)
    ∙ sym (append_assoc (flat i (past at (codes "rule")) y) (flats (i + size y) (at + line_width y) es) _)

pub starts_push : (i : ℕ) (es : List Expr) (x : Expr) → starts i (es ++ (x ∷ [])) ≡ starts i es ++ ((i + sizes es) ∷ [])
starts_push i [] x = let e : i ≡ i + 0 = omega arith in ap (λ k. k ∷ []) e
starts_push i (y ∷ es) x =
    let e : i + size y + sizes es ≡ i + (size y + sizes es) = omega arith in
    ap (λ xs. i ∷ xs) (starts_push (i + size y) es x ∙ ap (λ k. starts (i + size y) es ++ (k ∷ [])) e)

pub flats_length : (i at : ℕ) (es : List Expr) → length (flats i at es) ≡ sizes es
flats_length i at [] = refl
flats_length i at (e ∷ es) = omega (arith, length-append (flat i (past at (codes "rule")) e) (flats (i + size e) (at + line_width e) es), flat_length i (past at (codes "rule")) e, flats_length (i + size e) (at + line_width e) es)

onward_more : (rd : ℕ → List ℕ → Out BookFault (List Expr)) (es : List Expr) (at : ℕ) (xs : List ℕ) → 0 < length xs → onward rd es at xs ≡ rd at xs
onward_more rd es at [] h = absurd (omega arith)
onward_more rd es at (x ∷ xs) h = refl

onward_end : (rd : ℕ → List ℕ → Out BookFault (List Expr)) (es : List Expr) (at : ℕ) (xs : List ℕ) → length xs ≡ 0 → onward rd es at xs ≡ ok es at []
onward_end rd es at [] h = refl
onward_end rd es at (x ∷ xs) h = absurd (omega arith)

pub begun_none : (start : Reader) (T : Table) (R : Limited ℕ 32) → laid T ≡ [] → listed R ≡ [] → Begun start T R start
begun_none start T R l r =
    record {
      trees = [];
      same = refl;
      goes = ap (λ ns. rule_lines start.bytes.now (32 - length ns) [] (count T) start.at (rest start)) r ∙ ap (λ ns. rule_lines start.bytes.now 32 [] (length ns) start.at (rest start)) l;
      wrote = l;
      begins = r;
      most = omega (arith, ap length r);
      moved = omega arith;
    }

module _ (start : Reader) (T : Table) (R : Limited ℕ 32) (r : Reader) (b : Begun start T R r) (left : ℕ) (more_left : left ≡ 32 - length (listed R)) where
  pub begun_no : {e : BookFault} → rule_line r.bytes.now left (count T) r.at (rest r) ≡ no e → rule_lines start.bytes.now 32 [] 0 start.at (rest start) ≡ no e
  begun_no e = sym b.goes ∙ rules_no r.bytes.now _ _ _ _ _ (ap (λ k. rule_line r.bytes.now k (count T) r.at (rest r)) (sym more_left) ∙ e)

  -- after one more line, whose root has been pushed
  module _ (T' : Table) (s : Reader) (g : Grown (rule_line r.bytes.now left (count T)) (past r.at (codes "rule")) r s T T') (R' : Limited ℕ 32) (n : ℕ) (n_is : n ≡ count T) (push : listed R' ≡ cond (ltb (length (listed R)) 32) (listed R ++ (n ∷ [])) (listed R)) where
    line : Passed left r s g.tree
    line = passed left (count T) r s g.step

    pub room : length (listed R) < 32
    room = let p = line.positive in omega arith

    added : listed R' ≡ listed R ++ (count T ∷ [])
    added = pushed 32 (listed R) _ n room push ∙ ap (λ k. listed R ++ (k ∷ [])) n_is

    more : List Expr
    more = b.trees ++ (g.tree ∷ [])

    pub longer : length (listed R') ≡ length (listed R) + 1
    longer = ap length added ∙ length_push (listed R) (count T)

    on : rule_lines start.bytes.now 32 [] 0 start.at (rest start) ≡ onward (rule_lines r.bytes.now (32 - length (listed R')) more (count T + size g.tree)) more s.at (rest s)
    unfolding more
    on =
        sym b.goes ∙ rules_on r.bytes.now (32 - length (listed R)) (32 - length (listed R')) b.trees (count T) r.at (rest r) (omega (arith, longer, room)) (ap (λ k. rule_line r.bytes.now k (count T) r.at (rest r)) (sym more_left) ∙ g.step.says)

    counted : count T ≡ sizes b.trees
    counted = ap length b.wrote ∙ flats_length 0 start.at b.trees

    wrote_more : laid T' ≡ flats 0 start.at more
    unfolding more
    wrote_more =
        g.wrote ∙ ap (λ ns. ns ++ flat (count T) (past r.at (codes "rule")) g.tree) b.wrote
        ∙ ap (λ n. flats 0 start.at b.trees ++ flat n (past r.at (codes "rule")) g.tree) (counted ∙ sym (zero-add _))
        ∙ ap (λ a. flats 0 start.at b.trees ++ flat (0 + sizes b.trees) (past a (codes "rule")) g.tree) b.moved
        ∙ sym (flats_push 0 start.at b.trees g.tree)

    begins_more : listed R' ≡ starts 0 more
    unfolding more
    begins_more = added ∙ ap (λ xs. xs ++ (count T ∷ [])) b.begins ∙ ap (λ n. starts 0 b.trees ++ (n ∷ [])) (counted ∙ sym (zero-add _)) ∙ sym (starts_push 0 b.trees g.tree)

    same : s.bytes.now ≡ start.bytes.now
    same = g.step.same ∙ b.same

    pub begun_more : s.at < length s.bytes.now → Begun start T' R' s
    unfolding more
    begun_more h =
        record {
          trees = more;
          same = same;
          goes =
              ap (λ bs. rule_lines bs (32 - length (listed R')) more (count T') s.at (rest s)) g.step.same
              ∙ ap (λ n. rule_lines r.bytes.now (32 - length (listed R')) more n s.at (rest s)) (grown_count g)
              ∙ sym (onward_more (rule_lines r.bytes.now (32 - length (listed R')) more (count T + size g.tree)) _ s.at (rest s) (simp length-drop (omega arith)))
              ∙ sym on;
          wrote = wrote_more;
          begins = begins_more;
          most = omega (arith, longer, room);
          moved = omega (arith, line.moved, b.moved, line_widths_push b.trees g.tree);
        }

    pub begun_done : s.at ≡ length s.bytes.now → Ruled start T' R'
    unfolding more
    begun_done h =
        record {
          trees = more;
          says =
              on ∙ onward_end (rule_lines r.bytes.now (32 - length (listed R')) more (count T + size g.tree)) _ s.at (rest s) (simp length-drop (omega arith))
              ∙ ap (λ k. ok more k []) (h ∙ ap length same);
          wrote = wrote_more;
          begins = begins_more;
        }
