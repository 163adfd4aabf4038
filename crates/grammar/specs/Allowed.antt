-- Which grammars a book may have.
use Rattle.std.specs.Prelude.{◌≡◌, ℕ, ◌+◌, ◌<◌, ◌≤◌, Bool, true, List, [], ◌∷◌, ◌++◌, length, Some, None as None', codes, Option}
use Rattle.kinds.specs.declared.class.Class.{Class}
use Rattle.grammar.specs.Expr.{Expr, empty, any, term, call, seq, alt, star, not, Grammar, size, nesting}
use Rattle.grammar.specs.Spelling.{spell_classes, spelling, width}
use Rattle.grammar.specs.Nullable.{Nullable}

-- An expression of a book, with the byte place of its opening bracket.
pub record Placed : Type 0 where
  pub place : ℕ
  pub expr : Expr

abbrev pub placed : ℕ → Expr → Placed
placed at e = record { place = at; expr = e }

-- The place of an operand of the expression at `at`: past the opening bracket, the word and a space.
abbrev pub past : ℕ → List ℕ → ℕ
past at word = at + (length word + 2)

-- An expression at a place, and all that it is made of, in the order in which they are written.
abbrev pub parts : ℕ → Expr → List Placed
parts at empty = placed at empty ∷ []
parts at any = placed at any ∷ []
parts at (term n) = placed at (term n) ∷ []
parts at (call n) = placed at (call n) ∷ []
parts at (seq a b) = placed at (seq a b) ∷ (parts (past at (codes "seq")) a ++ parts (past at (codes "seq") + width a + 1) b)
parts at (alt a b) = placed at (alt a b) ∷ (parts (past at (codes "alt")) a ++ parts (past at (codes "alt") + width a + 1) b)
parts at (star a) = placed at (star a) ∷ parts (past at (codes "star")) a
parts at (not a) = placed at (not a) ∷ parts (past at (codes "not")) a

-- How many bytes a rule line takes: its expression, and the 8 bytes around it.
abbrev pub line_width : Expr → ℕ
line_width e = width e + 8

-- The expressions of the rules whose first line begins at `at`; a rule's expression stands past `(rule `.
abbrev pub rule_parts : ℕ → List Expr → List Placed
rule_parts at [] = []
rule_parts at (e ∷ es) = parts (past at (codes "rule")) e ++ rule_parts (at + line_width e) es

-- Where the rule lines begin.
abbrev pub rules_at : Grammar → ℕ
rules_at g = length (spell_classes g.classes [])

-- All expressions of a grammar's book, in the order in which they are written.
abbrev pub expressions : Grammar → List Placed
expressions g = rule_parts (rules_at g) g.rules

-- A `term` without such a class, or a `call` without such a rule.
abbrev pub Missing : Grammar → Expr → Type 0
Missing g empty = ⊥
Missing g any = ⊥
Missing g (term n) = length g.classes ≤ n
Missing g (call n) = length g.rules ≤ n
Missing g (seq a b) = ⊥
Missing g (alt a b) = ⊥
Missing g (star a) = ⊥
Missing g (not a) = ⊥

-- A `star` of a nullable expression: it could go round for ever without reading.
abbrev pub Loop : Grammar → Expr → Type 0
Loop g empty = ⊥
Loop g any = ⊥
Loop g (term n) = ⊥
Loop g (call n) = ⊥
Loop g (seq a b) = ⊥
Loop g (alt a b) = ⊥
Loop g (star a) = Nullable g.rules a
Loop g (not a) = ⊥

-- It holds of each element.
abbrev pub Each : {A : Type 0} → (A → Type 0) → List A → Type 0
Each P [] = Unit {0}
Each P (x ∷ xs) = P x × Each P xs

-- It holds of no expression of the list.
abbrev pub None : (Expr → Type 0) → List Placed → Type 0
None P ps = Each (λ p. P p.expr → ⊥) ps

-- The first expression of the list of which it holds stands at this place.
pub record Earliest (P : Expr → Type 0) (ps : List Placed) (place : ℕ) : Type 0 where
  pub before : List Placed
  pub here : Expr
  pub after : List Placed
  pub split : ps ≡ before ++ (placed place here ∷ after)
  pub holds : P here
  pub not_before : None P before

-- What a search for the first one found: its place, or that there is none.
abbrev pub Found : (Expr → Type 0) → List Placed → Option ℕ → Type 0
Found P ps (Some place) = Earliest P ps place
Found P ps None' = None P ps

-- A number that a book can write.
abbrev pub Fits : ℕ → Type 0
Fits n = n ≤ 4294967295

abbrev pub ClassFits : Class → Type 0
ClassFits c = Fits c.first × Fits c.second

-- The numbers in an expression can be written.
abbrev pub NumbersFit : Expr → Type 0
NumbersFit empty = Unit {0}
NumbersFit any = Unit {0}
NumbersFit (term n) = Fits n
NumbersFit (call n) = Fits n
NumbersFit (seq a b) = NumbersFit a × NumbersFit b
NumbersFit (alt a b) = NumbersFit a × NumbersFit b
NumbersFit (star a) = NumbersFit a
NumbersFit (not a) = NumbersFit a

-- How many expressions the rules are made of.
abbrev pub sizes : List Expr → ℕ
sizes [] = 0
sizes (e ∷ es) = size e + sizes es

-- The grammar is within the limits, and its classes are lawful ones of the kind.
pub record Within (lawful : Class → Bool) (g : Grammar) : Type 0 where
  pub few_classes : length g.classes ≤ 64
  pub some_rule : 0 < length g.rules
  pub few_rules : length g.rules ≤ 32
  pub few_expressions : sizes g.rules ≤ 512
  pub each_class : Each (λ c. ClassFits c × (lawful c ≡ true)) g.classes
  pub each_rule : Each (λ e. (nesting e ≤ 64) × NumbersFit e) g.rules

-- A book may have the grammar: also its bytes are not too many, all that it names is there, and no `star` can go round for ever.
pub record Allowed (lawful : Class → Bool) (g : Grammar) : Type 0 where
  pub within : Within lawful g
  pub short : length (spelling g) ≤ 32768
  pub all_there : None (Missing g) (expressions g)
  pub no_loop : None (Loop g) (expressions g)
