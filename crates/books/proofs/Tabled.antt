-- The tables that the reader has filled hold the grammar that was read.
use Rattle.std.proofs.Common.{◌≡◌, ℕ, ◌+◌, ◌≤◌, Bool, List, [], ◌∷◌, ◌++◌, length, drop, decimal, sym, refl, ap, ◌∙◌, arith, length-append, length-drop}
use Rattle.kinds.specs.declared.class.Class.{Class}
use Rattle.tokens.specs.Out.{ok, no}
use Rattle.grammar.specs.declared.limited.Limited.{Limited}
use Rattle.grammar.specs.declared.table.Table.{Table}
use Rattle.grammar.specs.Expr.{Expr, Grammar, nesting}
use Rattle.grammar.specs.Spelling.{spell_classes}
use Rattle.grammar.specs.Allowed.{Each, NumbersFit}
use Rattle.grammar.specs.Tables.{listed}
use Rattle.grammar.specs.Layout.{flats, Lays}
use Rattle.books.specs.declared.fault.BookFault.{BookFault}
use Rattle.books.specs.Reading.{class_lines, rule_lines, reading}
use Rattle.books.specs.declared.reader.Reader.{Reader}
use Rattle.books.specs.Steps.{rest, Stepped, Ruled}
use Rattle.books.proofs.Outs.{after_ok, after_no}
use Rattle.books.proofs.Grows.{given_at}
use Rattle.books.proofs.Spelled.{classes_sound, reading_sound}

classes_length : (cs : List Class) (r : List ℕ) → length (spell_classes cs r) ≡ length (spell_classes cs []) + length r
classes_length [] r = omega arith
classes_length (c ∷ cs) r =
    omega (
      arith,
      classes_length cs r,
      length-append (decimal c.first) (32 ∷ (decimal c.second ++ (41 ∷ (10 ∷ spell_classes cs r)))),
      length-append (decimal c.second) (41 ∷ (10 ∷ spell_classes cs r)),
      length-append (decimal c.first) (32 ∷ (decimal c.second ++ (41 ∷ (10 ∷ spell_classes cs [])))),
      length-append (decimal c.second) (41 ∷ (10 ∷ spell_classes cs [])),
    )

shallow : (es : List Expr) → Each (λ e. (nesting e ≤ 64) × NumbersFit e) es → Each (λ e. nesting e ≤ 64) es
shallow [] h = tt
shallow (e ∷ es) h = (h.0.0, shallow es h.1)

-- The tables hold the grammar that the bytes were read as.
pub record Held (lawful : Class → Bool) (bs : List ℕ) (C : Limited Class 64) (T : Table) (R : Limited ℕ 32) : Type 0 where
  pub held : Grammar
  pub read : reading lawful bs ≡ ok held (length bs) []
  pub lays : Lays C T R (length bs) held

-- what a reader at the front of a book has read
module _ (lawful : Class → Bool) (bs : List ℕ) (front : Reader) (all : front.bytes.now ≡ bs) (first : front.at ≡ 0) where
  at_front : class_lines front.bytes.now lawful 64 [] front.at (rest front) ≡ class_lines bs lawful 64 [] 0 bs
  at_front = ap (λ a. class_lines front.bytes.now lawful 64 [] a (drop a front.bytes.now)) first ∙ ap (λ k. class_lines k lawful 64 [] 0 k) all

  pub classes_refused : {e : BookFault} → class_lines front.bytes.now lawful 64 [] front.at (rest front) ≡ no e → reading lawful bs ≡ no e
  unfolding reading
  classes_refused e = after_no _ (sym at_front ∙ e)

  module _ (C : Limited Class 64) {r : Reader} (read : Stepped (class_lines front.bytes.now lawful 64 [] front.at (rest front)) front (listed C) r) where
    same : r.bytes.now ≡ bs
    same = read.same ∙ all

    classes_read : class_lines bs lawful 64 [] 0 bs ≡ ok (listed C) r.at (rest r)
    classes_read = sym at_front ∙ read.says

    pub rules_refused : {e : BookFault} → rule_lines r.bytes.now 32 [] 0 r.at (rest r) ≡ no e → reading lawful bs ≡ no e
    unfolding reading
    rules_refused e = after_ok _ classes_read ∙ after_no _ (ap (λ k. rule_lines k 32 [] 0 r.at (rest r)) (sym same) ∙ e)

    -- the rule lines begin where the class lines end
    begins : r.at ≡ length (spell_classes (listed C) [])
    begins =
        let p = given_at (classes_sound bs lawful 64 [] 0 bs) classes_read in
        let c : listed C ≡ p.new = p.all in
        let e : length bs ≡ length (spell_classes (listed C) []) + length (rest r) = ap length p.bytes ∙ ap (λ k. length (spell_classes k (rest r))) (sym c) ∙ classes_length (listed C) (rest r) in
        omega (arith, e, length-drop r.at r.bytes.now, r.within, ap length same)

    module _ (T : Table) (R : Limited ℕ 32) (l : Ruled r T R) where
      grammar : Grammar
      grammar = record { classes = listed C; rules = l.trees }

      grammar_read : reading lawful bs ≡ ok grammar (length bs) []
      unfolding reading grammar
      grammar_read =
          after_ok _ classes_read
          ∙ after_ok _ (ap (λ k. rule_lines k 32 [] 0 r.at (rest r)) (sym same) ∙ l.says)
          ∙ ap (λ k. ok (record { classes = listed C; rules = l.trees }) (length k) []) same

      pub tabled : Held lawful bs C T R
      unfolding grammar
      tabled =
          let s = given_at (reading_sound lawful bs) grammar_read in
          record {
            held = grammar;
            read = grammar_read;
            lays = record {
              classes_are = refl;
              nodes_are = l.wrote ∙ ap (λ k. flats 0 k l.trees) begins;
              roots_are = l.begins;
              length_is = ap length s.0;
              shallow = shallow l.trees s.1.each_rule;
            };
          }
