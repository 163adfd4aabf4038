-- What has been read stands in the table.
use Rattle.std.proofs.Common.{◌≡◌, ℕ, suc, ◌+◌, ◌-◌, ◌<◌, Bool, true, false, cond, ltb, List, [], ◌∷◌, ◌++◌, length, drop, set, Some, None, sym, refl, ap, ◌∙◌, subst, append_assoc, arith, length-append, length-drop}
use Rattle.std.proofs.lemmas.List.{append-nil, set_at}
use Rattle.std.proofs.lemmas.Bool.{ltb-true}
use Rattle.tokens.specs.Out.{Out, ok, no}
use Rattle.tokens.specs.declared.token.Token.{Token}
use Rattle.tokens.specs.declared.token.Token.TheVariants.{Open, Close, Space}
use Rattle.grammar.specs.declared.node.Operator.{Operator}
use Rattle.grammar.specs.declared.table.Table.{Table}
use Rattle.grammar.specs.Expr.{Expr, size}
use Rattle.grammar.specs.Spelling.{width}
use Rattle.grammar.specs.Allowed.{past}
use Rattle.grammar.specs.Tables.{laid, blank}
use Rattle.grammar.specs.Layout.{operator_of, root, below, flat}
use Rattle.grammar.proofs.Widths.{spell_length, flat_length, below_length}
use Rattle.books.specs.declared.fault.BookFault.{BookFault}
use Rattle.books.specs.declared.head.Leaf.{Leaf as LeafOf}
use Rattle.books.specs.declared.head.Numbered.{Numbered as NumberedOf}
use Rattle.books.specs.declared.head.One.{One as OneOf}
use Rattle.books.specs.declared.head.Two.{Two as TwoOf}
use Rattle.books.specs.declared.head.Head.{Head}
use Rattle.books.specs.declared.head.Head.TheVariants.{Leaf, Numbered, One, Two}
use Rattle.books.specs.Heads.{leaf, numbered, one, two, leaf_op, numbered_op, one_op, two_op, one_word, two_word, head_word}
use Rattle.books.specs.Reading.{expecting, numbering, heading, operand, operands, expression}
use Rattle.books.specs.declared.reader.Reader.{Reader}
use Rattle.books.specs.Steps.{rest, Stepped, count, Grown, Filled}
use Rattle.books.proofs.Lexed.{Gives, given, Lexed}
use Rattle.books.proofs.Heads.{op_leaf, below_leaf, op_numbered, below_numbered, op_one, below_one, op_two, below_two}
use Rattle.books.proofs.Sound.{expecting_gives, head_gives, operand_sound, expression_sound}
use Rattle.books.proofs.Outs.{operand_ok, leaf_ok, number_ok, one_ok, two_ok, close_ok, inner, expression_none, expression_some}

given_back : {E A : Type 0} {P : A → ℕ → List ℕ → Type 0} {a : A} {at : ℕ} {xs : List ℕ} → Gives {E = E} P (ok a at xs) → P a at xs
given_back (given p) = p

-- what holds of an answer that was given
pub given_at : {E A : Type 0} {P : A → ℕ → List ℕ → Type 0} {o : Out E A} {a : A} {at : ℕ} {xs : List ℕ} → Gives P o → o ≡ ok a at xs → P a at xs
given_at {P = P} h e = given_back (subst (λ o. Gives P o) e h)

-- a step, as a reading of the bytes of an earlier reader
pub over : {E A : Type 0} (rd : List ℕ → ℕ → List ℕ → Out E A) (bs : List ℕ) {r s : Reader} {a : A} → r.bytes.now ≡ bs → Stepped (rd r.bytes.now r.at (rest r)) r a s → rd bs r.at (drop r.at bs) ≡ ok a s.at (drop s.at bs)
over rd bs {r = r} {s = s} {a = a} e h =
    let p : r.bytes.now ≡ bs = e in
    let q : s.bytes.now ≡ r.bytes.now = h.same in
    let o : rd r.bytes.now r.at (drop r.at r.bytes.now) ≡ ok a s.at (drop s.at s.bytes.now) = h.says in
    cc

-- how far a reader went on, from the bytes that it took
pub moved : (w : List ℕ) (r s : Reader) → s.bytes.now ≡ r.bytes.now → rest r ≡ w ++ rest s → s.at ≡ r.at + length w
moved w r s e k =
    let l : length (rest r) ≡ length w + length (rest s) = ap length k ∙ length-append w (rest s) in
    omega (arith, l, length-drop r.at r.bytes.now, length-drop s.at s.bytes.now, r.within, s.within, ap length e)

-- what an expected token says of the bytes
pub lexed : {t : Token} {r s : Reader} → Stepped (expecting r.bytes.now t r.at (rest r)) r t s → Lexed t (rest r) (rest s)
lexed {t = t} {r = r} h = given_at (expecting_gives r.bytes.now t r.at (rest r)) h.says

-- the place of an expression, from where its operands are read
pub head_place : (r : Reader) {r₁ r₂ : Reader} {h : Head} → Stepped (expecting r.bytes.now Open r.at (rest r)) r Open r₁ → Stepped (heading r₁.bytes.now r₁.at (rest r₁)) r₁ h r₂ → r₂.at ≡ r.at + (length (head_word h) + 1)
head_place r {r₁ = r₁} {r₂ = r₂} {h = h} o w =
    omega (arith, moved (40 ∷ []) r r₁ o.same (lexed o), moved (head_word h) r₁ r₂ w.same (given_at (head_gives r₁.bytes.now r₁.at (rest r₁)) w.says))

pub space_moved : (r : Reader) {s : Reader} → Stepped (expecting r.bytes.now Space r.at (rest r)) r Space s → s.at ≡ r.at + 1
space_moved r {s = s} o = moved (32 ∷ []) r s o.same (lexed o)

pub operand_moved : (l n : ℕ) (r s : Reader) {x : Expr} → Stepped (operand r.bytes.now (expression r.bytes.now l) n r.at (rest r)) r x s → s.at ≡ r.at + 1 + width x
operand_moved l n r s {x = x} h =
    let p = given_at (operand_sound r.bytes.now l (expression r.bytes.now l) (expression_sound r.bytes.now l) n r.at (rest r)) h.says in
    let q : length (rest r) ≡ suc (width x + length (rest s)) = ap length p.bytes ∙ ap suc (spell_length x (rest s)) in
    omega (arith, q, length-drop r.at r.bytes.now, length-drop s.at s.bytes.now, r.within, s.within, ap length h.same)

-- how many expressions the table has after a reading
pub grown_count : {rd : ℕ → List ℕ → Out BookFault Expr} {place : ℕ} {r s : Reader} {T₀ T₁ : Table} (g : Grown rd place r s T₀ T₁) → count T₁ ≡ count T₀ + size g.tree
grown_count {place = place} {T₀ = T₀} g = ap length g.wrote ∙ length-append (laid T₀) _ ∙ ap (λ k. count T₀ + k) (flat_length (count T₀) place g.tree)

module _ (l : ℕ) (h : Head) (r : Reader) (T₀ : Table) where
  pub filled_leaf : (k : LeafOf) → h ≡ Leaf k → (o : Operator) → o ≡ leaf_op k → Filled (operands r.bytes.now (expression r.bytes.now l) h (count T₀)) h r r T₀ T₀ o
  filled_leaf k i o q =
      record {
        tree = leaf k;
        step = record { same = refl; says = leaf_ok r.bytes.now (expression r.bytes.now l) h _ _ _ k i };
        is = q ∙ sym (op_leaf k);
        wrote = λ place here. sym (append-nil (laid T₀)) ∙ ap (λ ns. laid T₀ ++ ns) (sym (below_leaf (count T₀) place k));
      }

  pub filled_number : (k : NumberedOf) → h ≡ Numbered k → (o : Operator) {v : ℕ} {r₁ r₂ : Reader} → o ≡ numbered_op k v → Stepped (expecting r.bytes.now Space r.at (rest r)) r Space r₁ → Stepped (numbering r₁.bytes.now r₁.at (rest r₁)) r₁ v r₂ → Filled (operands r.bytes.now (expression r.bytes.now l) h (count T₀)) h r r₂ T₀ T₀ o
  filled_number k i o {v = v} {r₂ = r₂} q s e =
      let same : r₂.bytes.now ≡ r.bytes.now = e.same ∙ s.same in
      record {
        tree = numbered k v;
        step = record {
          same = same;
          says = rw same (number_ok r.bytes.now (expression r.bytes.now l) h _ _ _ k i (over (λ bs. expecting bs Space) r.bytes.now refl s) (over numbering r.bytes.now s.same e));
        };
        is = q ∙ sym (op_numbered k v);
        wrote = λ place here. sym (append-nil (laid T₀)) ∙ ap (λ ns. laid T₀ ++ ns) (sym (below_numbered (count T₀) place k v));
      }

  pub filled_one : (k : OneOf) → h ≡ One k → (o : Operator) → o ≡ one_op k → {s : Reader} {T₁ : Table} → Grown (operand r.bytes.now (expression r.bytes.now l) (count T₀)) (r.at + 1) r s T₀ T₁ → Filled (operands r.bytes.now (expression r.bytes.now l) h (count T₀)) h r s T₀ T₁ o
  filled_one k i o q g =
      record {
        tree = one k g.tree;
        step = record { same = g.step.same; says = one_ok r.bytes.now (expression r.bytes.now l) h _ _ _ k i g.step.says };
        is = q ∙ sym (op_one k g.tree);
        wrote = λ place here.
            let p : r.at + 1 ≡ past place (one_word k) = omega (arith, here, ap (λ w. length (head_word w)) i) in
            g.wrote ∙ ap (λ a. laid T₀ ++ flat (count T₀) a g.tree) p ∙ ap (λ ns. laid T₀ ++ ns) (sym (below_one (count T₀) place k g.tree));
      }

  pub filled_two : (k : TwoOf) → h ≡ Two k → (o : Operator) → o ≡ two_op k → (s : Reader) (T₁ : Table) → Grown (operand r.bytes.now (expression r.bytes.now l) (count T₀)) (r.at + 1) r s T₀ T₁ → {t : Reader} {T₂ : Table} → Grown (operand s.bytes.now (expression s.bytes.now l) (count T₁)) (s.at + 1) s t T₁ T₂ → Filled (operands r.bytes.now (expression r.bytes.now l) h (count T₀)) h r t T₀ T₂ o
  filled_two k i o q s T₁ g {t = t} f =
      let m : s.at ≡ r.at + 1 + width g.tree = operand_moved l (count T₀) r s g.step in
      let same₁ : s.bytes.now ≡ r.bytes.now = g.step.same in
      let same : t.bytes.now ≡ r.bytes.now = f.step.same ∙ same₁ in
      let counted : count T₁ ≡ count T₀ + size g.tree = grown_count g in
      let read : operand s.bytes.now (expression s.bytes.now l) (count T₁) s.at (drop s.at s.bytes.now) ≡ ok f.tree t.at (drop t.at t.bytes.now) = f.step.says in
      let second : operand r.bytes.now (expression r.bytes.now l) (count T₀ + size g.tree) s.at (drop s.at r.bytes.now) ≡ ok f.tree t.at (drop t.at r.bytes.now) = cc in
      record {
        tree = two k g.tree f.tree;
        step = record { same = same; says = rw same (two_ok r.bytes.now (expression r.bytes.now l) h _ _ _ k i (over (λ bs. operand bs (expression bs l) (count T₀)) r.bytes.now refl g.step) second) };
        is = q ∙ sym (op_two k g.tree f.tree);
        wrote = λ place here.
            let p : r.at + 1 ≡ past place (two_word k) = omega (arith, here, ap (λ w. length (head_word w)) i) in
            let p₂ : s.at + 1 ≡ past place (two_word k) + width g.tree + 1 = omega (arith, m, p) in
            f.wrote ∙ ap (λ ns. ns ++ flat (count T₁) (s.at + 1) f.tree) g.wrote
            ∙ append_assoc (laid T₀) _ _
            ∙ ap (λ n. laid T₀ ++ (flat (count T₀) (r.at + 1) g.tree ++ flat n (s.at + 1) f.tree)) (grown_count g)
            ∙ ap (λ a. laid T₀ ++ (flat (count T₀) a g.tree ++ flat (count T₀ + size g.tree) (s.at + 1) f.tree)) p
            ∙ ap (λ a. laid T₀ ++ (flat (count T₀) (past place (two_word k)) g.tree ++ flat (count T₀ + size g.tree) a f.tree)) p₂
            ∙ ap (λ ns. laid T₀ ++ ns) (sym (below_two (count T₀) place k g.tree f.tree));
      }

-- an operand, from its space and its expression
module _ (l : ℕ) (r : Reader) {s : Reader} (T₀ : Table) (o : Stepped (expecting r.bytes.now Space r.at (rest r)) r Space s) where
  spaced : operand r.bytes.now (expression r.bytes.now l) (count T₀) r.at (rest r) ≡ expression r.bytes.now l (count T₀) s.at (drop s.at r.bytes.now)
  spaced = operand_ok r.bytes.now (expression r.bytes.now l) _ _ _ (over (λ bs. expecting bs Space) r.bytes.now refl o)

  pub operand_refused : {e : BookFault} → expression s.bytes.now l (count T₀) s.at (rest s) ≡ no e → operand r.bytes.now (expression r.bytes.now l) (count T₀) r.at (rest r) ≡ no e
  operand_refused e = spaced ∙ ap (λ bs. expression bs l (count T₀) s.at (drop s.at bs)) (sym o.same) ∙ e

  pub grown_operand : {t : Reader} (T₁ : Table) → Grown (expression s.bytes.now l (count T₀)) s.at s t T₀ T₁ → Grown (operand r.bytes.now (expression r.bytes.now l) (count T₀)) (r.at + 1) r t T₀ T₁
  grown_operand {t = t} T₁ g =
      let same : t.bytes.now ≡ r.bytes.now = g.step.same ∙ o.same in
      record {
        tree = g.tree;
        step = record { same = same; says = rw same (spaced ∙ over (λ bs. expression bs l (count T₀)) r.bytes.now o.same g.step) };
        wrote = g.wrote ∙ ap (λ a. laid T₀ ++ flat (count T₀) a g.tree) (space_moved r o);
      }

-- the room that was left for an expression
pub record Reserved (T₀ T₁ : Table) (slot : ℕ) : Type 0 where
  pub few : count T₀ < 512
  pub last : slot ≡ count T₀
  pub room : laid T₁ ≡ laid T₀ ++ (blank ∷ [])
  pub counted : count T₁ ≡ count T₀ + 1

pub reserved : (T₀ T₁ : Table) {slot : ℕ} → Some slot ≡ cond (ltb (count T₀) 512) (Some (count T₀)) None → laid T₁ ≡ cond (ltb (count T₀) 512) (laid T₀ ++ (blank ∷ [])) (laid T₀) → Reserved T₀ T₁ slot
reserved T₀ T₁ {slot = slot} s l = by_test (ltb (count T₀) 512) refl
  where
    by_test : (b : Bool) → ltb (count T₀) 512 ≡ b → Reserved T₀ T₁ slot
    by_test true e =
        let found : Some slot ≡ Some (count T₀) = s ∙ ap (λ b. cond b (Some (count T₀)) None) e in
        let room : laid T₁ ≡ laid T₀ ++ (blank ∷ []) = l ∙ ap (λ b. cond b (laid T₀ ++ (blank ∷ [])) (laid T₀)) e in
        record { few = ltb-true (count T₀) 512 e; last = cc; room = room; counted = ap length room ∙ length-append (laid T₀) (blank ∷ []) }
    by_test false e = let none : Some slot ≡ None = s ∙ ap (λ b. cond b (Some (count T₀)) None) e in absurd cc

-- what the refusals of an expression stand on
pub ruleset expr_steps = (expression_none, expression_some, reserved)

-- the table when the room has been filled
filled_room : {rd : ℕ → List ℕ → Out BookFault Expr} {h : Head} {r s : Reader} {T₀ T₁ T₂ : Table} (T₃ : Table) {slot : ℕ} {x : Operator} → Reserved T₀ T₁ slot → (g : Filled rd h r s T₁ T₂ x) → (place : ℕ) → r.at ≡ place + (length (head_word h) + 1) → laid T₃ ≡ set (laid T₂) slot (record { operator = x; end = count T₂; place = place }) → laid T₃ ≡ laid T₀ ++ flat (count T₀) place g.tree
filled_room {T₀ = T₀} {T₁ = T₁} {T₂ = T₂} T₃ {slot = slot} {x = x} v g place here last =
    let n : ℕ = count T₀ in
    let e : Expr = g.tree in
    let before : laid T₂ ≡ laid T₀ ++ (blank ∷ below (n + 1) place e) =
    g.wrote place here ∙ ap (λ ns. ns ++ below (count T₁) place e) v.room ∙ append_assoc (laid T₀) (blank ∷ []) (below (count T₁) place e) ∙ ap (λ k. laid T₀ ++ (blank ∷ below k place e)) v.counted in
    let c : count T₂ ≡ n + size e = ap length before ∙ length-append (laid T₀) (blank ∷ below (n + 1) place e) ∙ ap (λ k. n + k) (omega (arith, below_length (n + 1) place e)) in
    last
    ∙ ap (λ k. set (laid T₂) k (record { operator = x; end = count T₂; place = place })) v.last
    ∙ ap (λ k. set (laid T₂) n (record { operator = k; end = count T₂; place = place })) g.is
    ∙ ap (λ k. set (laid T₂) n (record { operator = operator_of e; end = k; place = place })) c
    ∙ ap (λ ns. set ns n (root n place e)) before
    ∙ set_at (laid T₀) blank (below (n + 1) place e) (root n place e) n refl

-- an expression, from its parts
pub grown : (l : ℕ) → 0 < l → (r : Reader) {r₁ r₂ r₃ s : Reader} {h : Head} {x : Operator} (T₀ T₁ T₂ T : Table) {slot : ℕ} → Reserved T₀ T₁ slot
    → Stepped (expecting r.bytes.now Open r.at (rest r)) r Open r₁
    → Stepped (heading r₁.bytes.now r₁.at (rest r₁)) r₁ h r₂
    → Filled (operands r₂.bytes.now (expression r₂.bytes.now (l - 1)) h (count T₁)) h r₂ r₃ T₁ T₂ x
    → Stepped (expecting r₃.bytes.now Close r₃.at (rest r₃)) r₃ Close s
    → laid T ≡ set (laid T₂) slot (record { operator = x; end = count T₂; place = r.at })
    → Grown (expression r.bytes.now l (count T₀)) r.at r s T₀ T
grown l positive r {r₂ = r₂} {r₃ = r₃} {s = s} {h = h} T₀ T₁ T₂ T v o w g q last =
    let bs : List ℕ = r.bytes.now in
    let same₂ : r₂.bytes.now ≡ bs = w.same ∙ o.same in
    let same₃ : r₃.bytes.now ≡ bs = g.step.same ∙ same₂ in
    let same : s.bytes.now ≡ bs = q.same ∙ same₃ in
    let counted : count T₁ ≡ count T₀ + 1 = v.counted in
    let read : operands r₂.bytes.now (expression r₂.bytes.now (l - 1)) h (count T₁) r₂.at (drop r₂.at r₂.bytes.now) ≡ ok g.tree r₃.at (drop r₃.at r₃.bytes.now) = g.step.says in
    let parts : operands bs (expression bs (l - 1)) h (count T₀ + 1) r₂.at (drop r₂.at bs) ≡ ok g.tree r₃.at (drop r₃.at bs) = cc in
    record {
      tree = g.tree;
      step = record {
        same = same;
        says =
            rw same
            (expression_some bs l _ r.at _ positive
            ∙ close_ok bs (inner bs (l - 1)) _ _ _ v.few (over (λ bs. expecting bs Open) bs refl o) (over heading bs o.same w) parts (over (λ bs. expecting bs Close) bs same₃ q));
      };
      wrote = filled_room T v g r.at (head_place r o w) last;
    }
