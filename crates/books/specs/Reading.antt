-- The layered reading of a book: its tokens, its expressions, its lines.
use Rattle.std.specs.Prelude.{ℕ, zero, suc, ◌+◌, Bool, cond, List, [], ◌∷◌, ◌++◌, ◌==◌, nat_le}
use Rattle.kinds.specs.declared.class.Class.{Class as ClassOf}
use Rattle.tokens.specs.Out.{Out, ok, no, after, inside}
use Rattle.tokens.specs.Spots.{spot}
use Rattle.tokens.specs.Lexing.{lexing}
use Rattle.tokens.specs.declared.token.Word.{Word}
use Rattle.tokens.specs.declared.token.Word.TheVariants.{Class, Rule, Empty, Any, Term, Call, Seq, Alt, Star, Not}
use Rattle.tokens.specs.declared.token.Token.{Token}
use Rattle.tokens.specs.declared.token.Token.TheVariants.{Open, Close, Space, Feed, Letters, Number}
use Rattle.tokens.specs.declared.token.TokenFault.{TokenFault}
use Rattle.tokens.specs.contracts.token.TokenPartialEq.TheImpl as token_eq
use Rattle.grammar.specs.Expr.{Expr, Grammar, size}
use Rattle.books.specs.declared.fault.ExprFault.{ExprFault}
use Rattle.books.specs.declared.fault.ExprFault.TheVariants.{InToken, Unwanted, TooDeep}
use Rattle.books.specs.declared.fault.BookFault.{BookFault}
use Rattle.books.specs.declared.fault.BookFault.TheVariants.{InExpr, TooMany, Unlawful}
use Rattle.books.specs.declared.head.Leaf.TheVariants.{Empty as EmptyLeaf, Any as AnyLeaf}
use Rattle.books.specs.declared.head.Numbered.TheVariants.{Term as TermHead, Call as CallHead}
use Rattle.books.specs.declared.head.One.TheVariants.{Star as StarHead, Not as NotHead}
use Rattle.books.specs.declared.head.Two.TheVariants.{Seq as SeqHead, Alt as AltHead}
use Rattle.books.specs.declared.head.Head.{Head}
use Rattle.books.specs.declared.head.Head.TheVariants.{Leaf, Numbered, One, Two}
use Rattle.books.specs.declared.head.LineWord.{LineWord}
use Rattle.books.specs.declared.head.LineWord.TheVariants.{Class as ClassLine, Rule as RuleLine}
use Rattle.books.specs.Heads.{leaf, numbered, one, two}

-- A reader of expressions: how many expressions stand before it, the place, and the bytes from there on.
abbrev pub ExprReader : Type 0
ExprReader = ℕ → ℕ → List ℕ → Out BookFault Expr

-- In all that follows bs is the whole book, from which a fault has its line.

-- Whether two tokens are the same, as `==` tells.
abbrev pub same_token : Token → Token → Bool
same_token = (token_eq.ghosts).eq

-- The token w that the layout wants.
abbrev pub wanting : List ℕ → Token → ℕ → Out TokenFault Token → Out ExprFault Token
wanting bs w at (ok t next ys) = cond (same_token t w) (ok t next ys) (no (Unwanted (spot bs at)))
wanting bs w at (no e) = no (InToken e)

unfoldable pub expecting : List ℕ → Token → ℕ → List ℕ → Out ExprFault Token
expecting bs w at xs = wanting bs w at (lexing bs at xs)

-- A number.
abbrev pub valued : List ℕ → ℕ → Out TokenFault Token → Out ExprFault ℕ
valued bs at (ok (Number n) next ys) = ok n next ys
valued bs at (ok _ next ys) = no (Unwanted (spot bs at))
valued bs at (no e) = no (InToken e)

unfoldable pub numbering : List ℕ → ℕ → List ℕ → Out ExprFault ℕ
numbering bs at xs = valued bs at (lexing bs at xs)

-- The word of an expression.
abbrev pub head_of : List ℕ → ℕ → Word → ℕ → List ℕ → Out ExprFault Head
head_of bs at Empty next ys = ok (Leaf EmptyLeaf) next ys
head_of bs at Any next ys = ok (Leaf AnyLeaf) next ys
head_of bs at Term next ys = ok (Numbered TermHead) next ys
head_of bs at Call next ys = ok (Numbered CallHead) next ys
head_of bs at Seq next ys = ok (Two SeqHead) next ys
head_of bs at Alt next ys = ok (Two AltHead) next ys
head_of bs at Star next ys = ok (One StarHead) next ys
head_of bs at Not next ys = ok (One NotHead) next ys
head_of bs at _ next ys = no (Unwanted (spot bs at))

abbrev pub headed : List ℕ → ℕ → Out TokenFault Token → Out ExprFault Head
headed bs at (ok (Letters w) next ys) = head_of bs at w next ys
headed bs at (ok _ next ys) = no (Unwanted (spot bs at))
headed bs at (no e) = no (InToken e)

unfoldable pub heading : List ℕ → ℕ → List ℕ → Out ExprFault Head
heading bs at xs = headed bs at (lexing bs at xs)

-- A space and an expression.
unfoldable pub operand : List ℕ → ExprReader → ExprReader
operand bs rd n at xs = after (inside InExpr (expecting bs Space at xs)) (λ t a ys. rd n a ys)

-- What a word asks for after it.
unfoldable pub operands : List ℕ → ExprReader → Head → ExprReader
operands bs rd (Leaf k) n at xs = ok (leaf k) at xs
operands bs rd (Numbered k) n at xs =
    after (inside InExpr (expecting bs Space at xs)) (λ t a ys.
    after (inside InExpr (numbering bs a ys)) (λ v b zs. ok (numbered k v) b zs))
operands bs rd (One k) n at xs = after (operand bs rd n at xs) (λ e a ys. ok (one k e) a ys)
operands bs rd (Two k) n at xs =
    after (operand bs rd n at xs) (λ e a ys.
    after (operand bs rd (n + size e) a ys) (λ f b zs. ok (two k e f) b zs))

-- An expression in its brackets, by a reader of what comes after its word. At the word it is one too many if 512 stand before it.
unfoldable pub bracketed : List ℕ → (Head → ExprReader) → ExprReader
bracketed bs rd n at xs =
    after (inside InExpr (expecting bs Open at xs)) (λ t a ys.
    after (inside InExpr (heading bs a ys)) (λ h b zs.
    cond (nat_le 512 n) (no (TooMany (spot bs at)))
    (after (rd h n b zs) (λ e c ws.
    after (inside InExpr (expecting bs Close c ws)) (λ t d vs. ok e d vs)))))

-- An expression nested at most `left` deep.
unfoldable pub expression : List ℕ → ℕ → ExprReader
expression bs zero n at xs = bracketed bs (λ h m b zs. no (InExpr (TooDeep (spot bs at)))) n at xs
expression bs (suc left) n at xs = bracketed bs (λ h m b zs. operands bs (expression bs left) h (m + 1) b zs) n at xs

-- The word of a line.
abbrev pub line_word_of : List ℕ → ℕ → Word → ℕ → List ℕ → Out ExprFault LineWord
line_word_of bs at Class next ys = ok ClassLine next ys
line_word_of bs at Rule next ys = ok RuleLine next ys
line_word_of bs at _ next ys = no (Unwanted (spot bs at))

abbrev pub line_headed : List ℕ → ℕ → Out TokenFault Token → Out ExprFault LineWord
line_headed bs at (ok (Letters w) next ys) = line_word_of bs at w next ys
line_headed bs at (ok _ next ys) = no (Unwanted (spot bs at))
line_headed bs at (no e) = no (InToken e)

unfoldable pub line_heading : List ℕ → ℕ → List ℕ → Out ExprFault LineWord
line_heading bs at xs = line_headed bs at (lexing bs at xs)

-- The bracket and the word with which a line begins.
unfoldable pub line_start_lem : List ℕ → ℕ → List ℕ → Out ExprFault LineWord
line_start_lem bs at xs = after (expecting bs Open at xs) (λ t a ys. line_heading bs a ys)

-- The numbers of a class line and its bracket, past its word.
unfoldable pub class_numbers_lem : List ℕ → ℕ → List ℕ → Out ExprFault ClassOf
class_numbers_lem bs at xs =
    after (expecting bs Space at xs) (λ t a ys.
    after (numbering bs a ys) (λ v b zs.
    after (expecting bs Space b zs) (λ t c ws.
    after (numbering bs c ws) (λ u d vs.
    after (expecting bs Close d vs) (λ t e us. ok (record { first = v; second = u }) e us)))))

-- A class line that begins at `at`, past its word, which ends at `next`. At its bracket the class is found lawful, or not.
unfoldable pub class_line : List ℕ → (ClassOf → Bool) → ℕ → ℕ → List ℕ → Out BookFault ClassOf
class_line bs lawful at next xs =
    after (inside InExpr (class_numbers_lem bs next xs)) (λ c a ys.
    cond (lawful c) (after (inside InExpr (expecting bs Feed a ys)) (λ t b zs. ok c b zs)) (no (Unlawful (spot bs at))))

abbrev pub by_word : {A : Type 0} → LineWord → A → A → A
by_word ClassLine class rule = class
by_word RuleLine class rule = rule

-- The class lines up to the first rule line, after the classes cs, where there may be `left` more.
unfoldable pub class_lines : List ℕ → (ClassOf → Bool) → ℕ → List ClassOf → ℕ → List ℕ → Out BookFault (List ClassOf)
class_lines bs lawful zero cs at xs =
    after (inside InExpr (line_start_lem bs at xs)) (λ w a ys. by_word w (no (TooMany (spot bs at))) (ok cs at xs))
class_lines bs lawful (suc left) cs at xs =
    after (inside InExpr (line_start_lem bs at xs)) (λ w a ys. by_word w
    (after (class_line bs lawful at a ys) (λ c b zs. class_lines bs lawful left (cs ++ (c ∷ [])) b zs))
    (ok cs at xs))

-- A rule line, where there may be `left` more rules and n expressions stand before it. At its word it is found to be one too many.
unfoldable pub rule_line : List ℕ → ℕ → ExprReader
rule_line bs left n at xs =
    after (inside InExpr (expecting bs Open at xs)) (λ t a ys.
    after (inside InExpr (expecting bs (Letters Rule) a ys)) (λ t b zs.
    cond (left == 0) (no (TooMany (spot bs at)))
    (after (operand bs (expression bs 64) n b zs) (λ e c ws.
    after (inside InExpr (expecting bs Close c ws)) (λ t d vs.
    after (inside InExpr (expecting bs Feed d vs)) (λ t f us. ok e f us))))))

-- The end of the book, or more of it.
abbrev pub onward : (ℕ → List ℕ → Out BookFault (List Expr)) → List Expr → ℕ → List ℕ → Out BookFault (List Expr)
onward rd es at [] = ok es at []
onward rd es at (y ∷ ys) = rd at (y ∷ ys)

-- The rule lines up to the end of the book, after the rules es of n expressions.
unfoldable pub rule_lines : List ℕ → ℕ → List Expr → ℕ → ℕ → List ℕ → Out BookFault (List Expr)
rule_lines bs zero es n at xs = after (rule_line bs 0 n at xs) (λ e a ys. ok es a ys)
rule_lines bs (suc left) es n at xs =
    after (rule_line bs (suc left) n at xs) (λ e a ys.
    onward (rule_lines bs left (es ++ (e ∷ [])) (n + size e)) (es ++ (e ∷ [])) a ys)

-- The whole book: at most 64 class lines, then 1 to 32 rule lines.
unfoldable pub reading : (ClassOf → Bool) → List ℕ → Out BookFault Grammar
reading lawful bs =
    after (class_lines bs lawful 64 [] 0 bs) (λ cs a ys.
    after (rule_lines bs 32 [] 0 a ys) (λ es b zs. ok (record { classes = cs; rules = es }) b zs))
