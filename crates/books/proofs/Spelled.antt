-- A book is read exactly when a grammar within the limits spells it.
use Rattle.std.proofs.Common.{◌≡◌, ℕ, zero, suc, ◌+◌, ◌<◌, ◌≤◌, Bool, true, eqb, List, [], ◌∷◌, ◌++◌, length, codes, decimal, sym, refl, ap, ◌∙◌, subst, append_assoc, arith}
use Rattle.std.proofs.lemmas.Bool.{cond_both, eqb-false}
use Rattle.std.proofs.lemmas.List.{append-nil}
use Rattle.kinds.specs.declared.class.Class.{Class}
use Rattle.tokens.specs.Out.{Out, ok, no, after}
use Rattle.tokens.specs.Spots.{spot}
use Rattle.tokens.specs.declared.token.Token.TheVariants.{Open, Close, Space, Feed}
use Rattle.grammar.specs.Expr.{Expr, Grammar, size, nesting}
use Rattle.grammar.specs.Spelling.{spell, spell_class, spell_rule, spell_classes, spell_rules, spelling}
use Rattle.grammar.specs.Allowed.{NumbersFit, ClassFits, Each, sizes, Within}
use Rattle.books.specs.declared.fault.BookFault.{BookFault}
use Rattle.books.specs.declared.fault.BookFault.TheVariants.{InExpr, TooMany, Unlawful}
use Rattle.books.specs.declared.head.LineWord.{LineWord}
use Rattle.books.specs.declared.head.LineWord.TheVariants.{Class as ClassLine, Rule as RuleLine}
use Rattle.books.specs.Reading.{expression, line_start_lem, class_numbers_lem, class_line, by_word, class_lines, rule_line, onward, rule_lines, reading}
use Rattle.books.proofs.Lexed.{Gives, given, none, after_gives, inside_gives, gives_weaker}
use Rattle.books.proofs.Sound.{expecting_gives, number_gives, rule_gives, line_word, line_word_gives, operand_sound, expression_sound}
use Rattle.books.proofs.Complete.{Reads, open_there, close_there, space_there, feed_there, rule_there, class_line_there, rule_line_there, number_there, operand_there, expression_complete}
use Rattle.books.proofs.Outs.{after_ok}
use Rattle.books.proofs.Rows.{start_on, numbers_ok, class_ok, classes_end, classes_on, line_ok, rules_on}

-- the numbers of a class line, its bracket, and then ys
abbrev class_tail : Class → List ℕ → List ℕ
class_tail c ys = 32 ∷ (decimal c.first ++ (32 ∷ (decimal c.second ++ (41 ∷ ys))))

module _ (bs : List ℕ) (lawful : Class → Bool) where
  numbers_sound : (at : ℕ) (xs : List ℕ) → Gives (λ c a ys. (xs ≡ class_tail c ys) × ClassFits c) (class_numbers_lem bs at xs)
  unfolding class_numbers_lem
  numbers_sound at xs =
      let P : Class → ℕ → List ℕ → Type 0 = λ c a ys. (xs ≡ class_tail c ys) × ClassFits c in
      after_gives P _ (expecting_gives bs Space at xs) (λ t a ys o.
      after_gives P _ (number_gives bs a ys) (λ v b zs p.
      after_gives P _ (expecting_gives bs Space b zs) (λ t c ws q.
      after_gives P _ (number_gives bs c ws) (λ u d vs r.
      after_gives P _ (expecting_gives bs Close d vs) (λ t f us s.
      given (o ∙ ap (λ k. 32 ∷ k) (p.0 ∙ ap (λ k. decimal v ++ k) (q ∙ ap (λ k. 32 ∷ k) (r.0 ∙ ap (λ k. decimal u ++ k) s))), (p.1, r.1)))))))

  start_sound : (at : ℕ) (xs : List ℕ) → Gives (λ w a ys. xs ≡ 40 ∷ (line_word w ++ ys)) (line_start_lem bs at xs)
  unfolding line_start_lem
  start_sound at xs =
      after_gives (λ w a ys. xs ≡ 40 ∷ (line_word w ++ ys)) _ (expecting_gives bs Open at xs) (λ t a ys o.
      gives_weaker (λ w b zs. xs ≡ 40 ∷ (line_word w ++ zs)) (line_word_gives bs a ys) (λ w b zs e. o ∙ ap (λ k. 40 ∷ k) e))

  class_sound : (at next : ℕ) (xs : List ℕ) → Gives (λ c a ys. (xs ≡ class_tail c (10 ∷ ys)) × (ClassFits c × (lawful c ≡ true))) (class_line bs lawful at next xs)
  unfolding class_line
  class_sound at next xs =
      let P : Class → ℕ → List ℕ → Type 0 = λ c a ys. (xs ≡ class_tail c (10 ∷ ys)) × (ClassFits c × (lawful c ≡ true)) in
      after_gives P _ (inside_gives InExpr (numbers_sound next xs)) (λ c a ys p.
      cond_both (lawful c) _ (no (Unlawful (spot bs at))) (Gives P)
      (λ l. after_gives P _ (inside_gives InExpr (expecting_gives bs Feed a ys)) (λ t b zs q. given (p.0 ∙ ap (λ k. class_tail c k) q, (p.1, l))))
      (λ _. none))

  -- the class lines that were read after cs
  pub record Classed (left : ℕ) (cs : List Class) (xs : List ℕ) (ds : List Class) (ys : List ℕ) : Type 0 where
    pub new : List Class
    pub all : ds ≡ cs ++ new
    pub bytes : xs ≡ spell_classes new ys
    pub most : length new ≤ left
    pub each : Each (λ c. ClassFits c × (lawful c ≡ true)) new

  no_more : (left : ℕ) (cs : List Class) (xs : List ℕ) → Classed left cs xs cs xs
  no_more left cs xs = record { new = []; all = sym (append-nil cs); bytes = refl; most = omega arith; each = tt }

  one_more : (left : ℕ) (cs : List Class) (xs ys : List ℕ) (c : Class) (zs : List ℕ) (ds : List Class) (ws : List ℕ) → xs ≡ 40 ∷ (codes "class" ++ ys) → (ys ≡ class_tail c (10 ∷ zs)) × (ClassFits c × (lawful c ≡ true)) → Classed left (cs ++ (c ∷ [])) zs ds ws → Classed (suc left) cs xs ds ws
  one_more left cs xs ys c zs ds ws o p q =
      let m = q.most in
      record {
        new = c ∷ q.new;
        all = q.all ∙ append_assoc cs (c ∷ []) q.new;
        bytes = o ∙ ap (λ k. 40 ∷ (codes "class" ++ k)) p.0 ∙ ap (λ k. spell_class c k) q.bytes;
        most = omega arith;
        each = (p.1, q.each);
      }

  pub classes_sound : (left : ℕ) (cs : List Class) (at : ℕ) (xs : List ℕ) → Gives (λ ds a ys. Classed left cs xs ds ys) (class_lines bs lawful left cs at xs)
  unfolding class_lines
  classes_sound zero cs at xs = after_gives (λ ds a ys. Classed 0 cs xs ds ys) _ (inside_gives InExpr (start_sound at xs)) (λ w a ys o. by_line w)
    where
      by_line : (w : LineWord) → Gives (λ ds a ys. Classed 0 cs xs ds ys) (by_word w (no (TooMany (spot bs at))) (ok cs at xs))
      by_line ClassLine = none
      by_line RuleLine = given (no_more 0 cs xs)
  classes_sound (suc left) cs at xs =
      after_gives (λ ds a ys. Classed (suc left) cs xs ds ys) _ (inside_gives InExpr (start_sound at xs)) (λ w a ys o.
      by_line w a ys o (class_line bs lawful at a ys) (class_sound at a ys) (λ ds b zs. classes_sound left ds b zs))
    where
      by_line : (w : LineWord) (a : ℕ) (ys : List ℕ) → xs ≡ 40 ∷ (line_word w ++ ys) → (o : Out BookFault Class) → Gives (λ c b zs. (ys ≡ class_tail c (10 ∷ zs)) × (ClassFits c × (lawful c ≡ true))) o → ((ds : List Class) (b : ℕ) (zs : List ℕ) → Gives (λ es d ws. Classed left ds zs es ws) (class_lines bs lawful left ds b zs)) → Gives (λ ds b zs. Classed (suc left) cs xs ds zs) (by_word w (after o (λ c b zs. class_lines bs lawful left (cs ++ (c ∷ [])) b zs)) (ok cs at xs))
      by_line ClassLine a ys e o h rec =
          after_gives (λ ds b zs. Classed (suc left) cs xs ds zs) _ h (λ c b zs p.
          gives_weaker (λ ds d ws. Classed (suc left) cs xs ds ws) (rec (cs ++ (c ∷ [])) b zs) (λ ds d ws q. one_more left cs xs ys c zs ds ws e p q))
      by_line RuleLine a ys e o h rec = given (no_more (suc left) cs xs)

-- a rule line's bytes
pub record SpelledLine (left n : ℕ) (xs : List ℕ) (e : Expr) (ys : List ℕ) : Type 0 where
  pub bytes : xs ≡ spell_rule e ys
  pub positive : 0 < left
  pub deep : nesting e ≤ 64
  pub few : n + size e ≤ 512
  pub fit : NumbersFit e

module _ (bs : List ℕ) where
  pub line_sound : (left n at : ℕ) (xs : List ℕ) → Gives (λ e a ys. SpelledLine left n xs e ys) (rule_line bs left n at xs)
  unfolding rule_line
  line_sound left n at xs =
      let P : Expr → ℕ → List ℕ → Type 0 = λ e a ys. SpelledLine left n xs e ys in
      after_gives P _ (inside_gives InExpr (expecting_gives bs Open at xs)) (λ t a ys o.
      after_gives P _ (inside_gives InExpr (rule_gives bs a ys)) (λ t b zs w.
      cond_both (eqb left 0) (no (TooMany (spot bs at))) _ (Gives P) (λ _. none) (λ c.
      after_gives P _ (operand_sound bs 64 (expression bs 64) (expression_sound bs 64) n b zs) (λ e d ws p.
      after_gives P _ (inside_gives InExpr (expecting_gives bs Close d ws)) (λ t i vs q.
      after_gives P _ (inside_gives InExpr (expecting_gives bs Feed i vs)) (λ t j us r.
      let z = eqb-false left 0 c in
      given (record { bytes = o ∙ ap (λ k. 40 ∷ k) (w ∙ ap (λ k. codes "rule" ++ k) (p.bytes ∙ ap (λ k. 32 ∷ spell e k) (q ∙ ap (λ k. 41 ∷ k) r))); positive = omega arith; deep = p.deep; few = p.few; fit = p.fit })))))))

  -- the rule lines that were read after es, up to the end
  record RulesRead (left : ℕ) (es : List Expr) (n : ℕ) (xs : List ℕ) (fs : List Expr) (ys : List ℕ) : Type 0 where
    new : List Expr
    all : fs ≡ es ++ new
    bytes : xs ≡ spell_rules new
    end : ys ≡ []
    some : 0 < length new
    most : length new ≤ left
    few : n + sizes new ≤ 512
    each : Each (λ e. (nesting e ≤ 64) × NumbersFit e) new

  onward_sound : (left : ℕ) (es : List Expr) (n : ℕ) (xs : List ℕ) (e : Expr) → (rd : ℕ → List ℕ → Out BookFault (List Expr)) → ((at : ℕ) (ys : List ℕ) → Gives (λ fs a zs. RulesRead left (es ++ (e ∷ [])) (n + size e) ys fs zs) (rd at ys)) → (at : ℕ) (ys : List ℕ) → SpelledLine (suc left) n xs e ys → Gives (λ fs a zs. RulesRead (suc left) es n xs fs zs) (onward rd (es ++ (e ∷ [])) at ys)
  onward_sound left es n xs e rd h at [] r =
      let p = r.few in
      given (record { new = e ∷ []; all = refl; bytes = r.bytes; end = refl; some = omega arith; most = omega arith; few = omega arith; each = ((r.deep, r.fit), tt) })
  onward_sound left es n xs e rd h at (y ∷ ys) r =
      gives_weaker (λ fs a zs. RulesRead (suc left) es n xs fs zs) (h at (y ∷ ys)) (λ fs a zs q.
      let p = q.few in
      let l = q.most in
      record { new = e ∷ q.new; all = q.all ∙ append_assoc es (e ∷ []) q.new; bytes = r.bytes ∙ ap (λ k. spell_rule e k) q.bytes; end = q.end; some = omega arith; most = omega arith; few = omega arith; each = ((r.deep, r.fit), q.each) })

  rules_sound : (left : ℕ) (es : List Expr) (n at : ℕ) (xs : List ℕ) → Gives (λ fs a ys. RulesRead left es n xs fs ys) (rule_lines bs left es n at xs)
  unfolding rule_lines
  rules_sound zero es n at xs = after_gives (λ fs a ys. RulesRead 0 es n xs fs ys) _ (line_sound 0 n at xs) (λ e a ys r. let p = r.positive in absurd (omega arith))
  rules_sound (suc left) es n at xs =
      after_gives (λ fs a ys. RulesRead (suc left) es n xs fs ys) _ (line_sound (suc left) n at xs) (λ e a ys r.
      onward_sound left es n xs e (rule_lines bs left (es ++ (e ∷ [])) (n + size e)) (λ b zs. rules_sound left (es ++ (e ∷ [])) (n + size e) b zs) a ys r)

-- what is read is spelled, within the limits
pub reading_sound : (lawful : Class → Bool) (bs : List ℕ) → Gives (λ g a ys. (bs ≡ spelling g) × Within lawful g × (ys ≡ [])) (reading lawful bs)
unfolding reading
reading_sound lawful bs =
    let P : Grammar → ℕ → List ℕ → Type 0 = λ g a ys. (bs ≡ spelling g) × Within lawful g × (ys ≡ []) in
    after_gives P _ (classes_sound bs lawful 64 [] 0 bs) (λ cs a ys p.
    after_gives P _ (rules_sound bs 32 [] 0 a ys) (λ es b zs q.
    let c : cs ≡ p.new = p.all in
    let e : es ≡ q.new = q.all in
    given (
      p.bytes ∙ ap (λ k. spell_classes p.new k) q.bytes ∙ ap (λ k. spell_classes k (spell_rules q.new)) (sym c) ∙ ap (λ k. spell_classes cs (spell_rules k)) (sym e),
      record {
        few_classes = subst (λ k. length k ≤ 64) (sym c) p.most;
        some_rule = subst (λ k. 0 < length k) (sym e) q.some;
        few_rules = subst (λ k. length k ≤ 32) (sym e) q.most;
        few_expressions = subst (λ k. sizes k ≤ 512) (sym e) (omega (arith, q.few));
        each_class = subst (λ k. Each (λ c. ClassFits c × (lawful c ≡ true)) k) (sym c) p.each;
        each_rule = subst (λ k. Each (λ e. (nesting e ≤ 64) × NumbersFit e) k) (sym e) q.each;
      },
      q.end,
    )))

-- the other way
module _ (bs : List ℕ) where
  class_complete : (lawful : Class → Bool) (c : Class) (at next : ℕ) (r : List ℕ) → ClassFits c → lawful c ≡ true → Reads (class_line bs lawful at next (class_tail c (10 ∷ r))) c r
  class_complete lawful c at next r fits h =
      let p = number_there bs (next + 1) c.first 32 (decimal c.second ++ (41 ∷ (10 ∷ r))) refl fits.0 in
      let q = number_there bs (p.0 + 1) c.second 41 (10 ∷ r) refl fits.1 in
      (_, class_ok bs next _ lawful at (numbers_ok bs next _ (space_there bs next _) p.1 (space_there bs p.0 _) q.1 (close_there bs q.0 _)) h (feed_there bs _ r))

  class_start : (at : ℕ) (r : List ℕ) → Reads (line_start_lem bs at (40 ∷ (codes "class" ++ (32 ∷ r)))) ClassLine (32 ∷ r)
  class_start at r = let w = class_line_there bs (at + 1) r in (w.0, start_on bs at _ (open_there bs at _) ∙ w.1)

  rule_start : (at : ℕ) (r : List ℕ) → Reads (line_start_lem bs at (40 ∷ (codes "rule" ++ (32 ∷ r)))) RuleLine (32 ∷ r)
  rule_start at r = let w = rule_line_there bs (at + 1) r in (w.0, start_on bs at _ (open_there bs at _) ∙ w.1)

  classes_complete : (lawful : Class → Bool) (new : List Class) (left : ℕ) (cs : List Class) (at : ℕ) (r : List ℕ) → length new ≤ left → Each (λ c. ClassFits c × (lawful c ≡ true)) new → Reads (class_lines bs lawful left cs at (spell_classes new (40 ∷ (codes "rule" ++ (32 ∷ r))))) (cs ++ new) (40 ∷ (codes "rule" ++ (32 ∷ r)))
  classes_complete lawful [] left cs at r most each =
      let w = rule_start at r in
      (at, classes_end bs lawful cs at _ left w.1 refl ∙ ap (λ k. ok k at (40 ∷ (codes "rule" ++ (32 ∷ r)))) (sym (append-nil cs)))
  classes_complete lawful (c ∷ new) zero cs at r most each = absurd (omega arith)
  classes_complete lawful (c ∷ new) (suc left) cs at r most each =
      let tail : List ℕ = spell_classes new (40 ∷ (codes "rule" ++ (32 ∷ r))) in
      let w = class_start at (decimal c.first ++ (32 ∷ (decimal c.second ++ (41 ∷ (10 ∷ tail))))) in
      let l = class_complete lawful c at w.0 tail each.0.0 each.0.1 in
      let q = classes_complete lawful new left (cs ++ (c ∷ [])) l.0 r (omega arith) each.1 in
      (q.0, classes_on bs lawful cs at _ w.1 refl (suc left) left refl l.1 ∙ q.1 ∙ ap (λ k. ok k q.0 (40 ∷ (codes "rule" ++ (32 ∷ r)))) (append_assoc cs (c ∷ []) new))

  line_complete : (left n at : ℕ) (e : Expr) (r : List ℕ) → nesting e ≤ 64 → n + size e ≤ 512 → NumbersFit e → Reads (rule_line bs (suc left) n at (spell_rule e r)) e r
  line_complete left n at e r d s m =
      let w = rule_there bs (at + 1) (spell e (41 ∷ (10 ∷ r))) in
      let p = operand_there bs (expression bs 64) n w.0 (spell e (41 ∷ (10 ∷ r))) e (41 ∷ (10 ∷ r)) (λ b. expression_complete bs e 64 n b (41 ∷ (10 ∷ r)) d s m) in
      (_, line_ok bs at _ (suc left) n (omega arith) (open_there bs at _) w.1 p.1 (close_there bs p.0 (10 ∷ r)) (feed_there bs _ r))

  rules_complete : (new : List Expr) (left : ℕ) (es : List Expr) (n at : ℕ) → 0 < length new → length new ≤ left → n + sizes new ≤ 512 → Each (λ e. (nesting e ≤ 64) × NumbersFit e) new → Reads (rule_lines bs left es n at (spell_rules new)) (es ++ new) []
  rules_complete [] left es n at some most few each = absurd (omega arith)
  rules_complete (e ∷ new) zero es n at some most few each = absurd (omega arith)
  rules_complete (e ∷ []) (suc left) es n at some most few each =
      let l = line_complete left n at e [] each.0.0 (omega arith) each.0.1 in
      (_, rules_on bs (suc left) left es n at _ refl l.1)
  rules_complete (e ∷ (f ∷ new)) (suc left) es n at some most few each =
      let l = line_complete left n at e (spell_rules (f ∷ new)) each.0.0 (omega arith) each.0.1 in
      let q = rules_complete (f ∷ new) left (es ++ (e ∷ [])) (n + size e) l.0 (omega arith) (omega arith) (omega arith) each.1 in
      (q.0, rules_on bs (suc left) left es n at _ refl l.1 ∙ q.1 ∙ ap (λ k. ok k q.0 []) (append_assoc es (e ∷ []) (f ∷ new)))

-- the bytes before which all class lines are read: those of one rule or more
classes_then : (bs : List ℕ) (lawful : Class → Bool) (cs : List Class) (es : List Expr) → length cs ≤ 64 → 0 < length es → Each (λ c. ClassFits c × (lawful c ≡ true)) cs → Reads (class_lines bs lawful 64 [] 0 (spell_classes cs (spell_rules es))) cs (spell_rules es)
classes_then bs lawful cs [] few some each = absurd (omega arith)
classes_then bs lawful cs (e ∷ es) few some each = classes_complete bs lawful cs 64 [] 0 (spell e (41 ∷ (10 ∷ spell_rules es))) few each

pub reading_complete : (lawful : Class → Bool) (g : Grammar) → Within lawful g → Reads (reading lawful (spelling g)) g []
unfolding reading
reading_complete lawful g w =
    let bs : List ℕ = spelling g in
    let p = classes_then bs lawful g.classes g.rules w.few_classes w.some_rule w.each_class in
    let q = rules_complete bs g.rules 32 [] 0 p.0 w.some_rule w.few_rules (omega (arith, w.few_expressions)) w.each_rule in
    (q.0, after_ok _ p.1 ∙ after_ok _ q.1)
