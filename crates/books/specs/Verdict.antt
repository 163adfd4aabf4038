-- Which books are accepted, and with which fault the others are refused.
use Rattle.std.specs.Prelude.{◌≡◌, ℕ, ◌<◌, ◌≤◌, Bool, ◌⊎◌, List, [], length}
use Rattle.kinds.specs.declared.class.Class.{Class}
use Rattle.tokens.specs.Out.{ok, no}
use Rattle.tokens.specs.Spots.{spot}
use Rattle.grammar.specs.Expr.{Grammar}
use Rattle.grammar.specs.Spelling.{spelling}
use Rattle.grammar.specs.Allowed.{Missing, Loop, None, Earliest, expressions, Each, ClassFits, NumbersFit, Allowed}
use Rattle.books.specs.declared.fault.BookFault.{BookFault}
use Rattle.books.specs.declared.fault.BookFault.TheVariants.{TooLong, Missing as MissingFault, Loop as LoopFault}
use Rattle.books.specs.Reading.{reading}

-- The bytes are read as the grammar, all that it names is there, and no `star` can go round for ever.
pub record Accepts (lawful : Class → Bool) (bs : List ℕ) (g : Grammar) : Type 0 where
  pub short : length bs ≤ 32768
  pub end : ℕ
  pub reads : reading lawful bs ≡ ok g end []
  pub all_there : None (Missing g) (expressions g)
  pub no_loop : None (Loop g) (expressions g)

-- The fault of the bytes: too many of them; else the first that the reading meets; else the earliest number that is not there; else the earliest `star` of a nullable expression.
pub data Refuses (lawful : Class → Bool) (bs : List ℕ) : BookFault → Type 0 where
  too_long : 32768 < length bs → Refuses lawful bs (TooLong (spot bs 0))
  unread : {e : BookFault} → length bs ≤ 32768 → reading lawful bs ≡ no e → Refuses lawful bs e
  missing : {g : Grammar} {end place : ℕ} → length bs ≤ 32768 → reading lawful bs ≡ ok g end [] → Earliest (Missing g) (expressions g) place → Refuses lawful bs (MissingFault (spot bs place))
  loops : {g : Grammar} {end place : ℕ} → length bs ≤ 32768 → reading lawful bs ≡ ok g end [] → None (Missing g) (expressions g) → Earliest (Loop g) (expressions g) place → Refuses lawful bs (LoopFault (spot bs place))

-- Bytes are accepted as a grammar exactly when the grammar is allowed and spells them.
abbrev pub AcceptedAsSpelled : Type 0
AcceptedAsSpelled =
    (lawful : Class → Bool) (bs : List ℕ) (g : Grammar) →
    (Accepts lawful bs g → (bs ≡ spelling g) × Allowed lawful g) × ((bs ≡ spelling g) × Allowed lawful g → Accepts lawful bs g)

-- A book can write all numbers of the grammar.
abbrev pub Writable : Grammar → Type 0
Writable g = Each ClassFits g.classes × Each NumbersFit g.rules

-- No two grammars whose numbers can be written spell the same bytes, however large they are.
abbrev pub SpelledOnce : Type 0
SpelledOnce = (g h : Grammar) → Writable g → Writable h → spelling g ≡ spelling h → g ≡ h

-- Any bytes are accepted or refused, not both, and with one fault only.
pub record OneVerdict (lawful : Class → Bool) (bs : List ℕ) : Type 0 where
  pub some : ((g : Grammar) × Accepts lawful bs g) ⊎ ((e : BookFault) × Refuses lawful bs e)
  pub not_both : (g : Grammar) (e : BookFault) → Accepts lawful bs g → Refuses lawful bs e → ⊥
  pub one_fault : (e d : BookFault) → Refuses lawful bs e → Refuses lawful bs d → e ≡ d
  pub one_grammar : (g h : Grammar) → Accepts lawful bs g → Accepts lawful bs h → g ≡ h
