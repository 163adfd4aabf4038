-- Expressions by how many operands they have: their bytes, sizes and nodes.
use Rattle.std.proofs.Common.{◌≡◌, ℕ, ◌+◌, ◌≤◌, max, List, [], ◌∷◌, ◌++◌, decimal, refl}
use Rattle.grammar.specs.Expr.{Expr, size, nesting}
use Rattle.grammar.specs.Spelling.{spell, width}
use Rattle.grammar.specs.Allowed.{NumbersFit, past}
use Rattle.grammar.specs.Layout.{operator_of, below, flat}
use Rattle.books.specs.declared.head.Leaf.{Leaf}
use Rattle.books.specs.declared.head.Leaf.TheVariants.{Empty, Any}
use Rattle.books.specs.declared.head.Numbered.{Numbered}
use Rattle.books.specs.declared.head.Numbered.TheVariants.{Term, Call}
use Rattle.books.specs.declared.head.One.{One}
use Rattle.books.specs.declared.head.One.TheVariants.{Star, Not}
use Rattle.books.specs.declared.head.Two.{Two}
use Rattle.books.specs.declared.head.Two.TheVariants.{Seq, Alt}
use Rattle.books.specs.Heads.{leaf, numbered, one, two, leaf_op, numbered_op, one_op, two_op, leaf_word, numbered_word, one_word, two_word}

pub spell_leaf : (k : Leaf) (r : List ℕ) → spell (leaf k) r ≡ 40 ∷ (leaf_word k ++ (41 ∷ r))
spell_leaf Empty r = refl
spell_leaf Any r = refl

pub size_leaf : (k : Leaf) → size (leaf k) ≡ 1
size_leaf Empty = refl
size_leaf Any = refl

pub nesting_leaf : (k : Leaf) → nesting (leaf k) ≡ 1
nesting_leaf Empty = refl
nesting_leaf Any = refl

pub fit_leaf : (k : Leaf) → NumbersFit (leaf k)
fit_leaf Empty = tt
fit_leaf Any = tt

pub op_leaf : (k : Leaf) → operator_of (leaf k) ≡ leaf_op k
op_leaf Empty = refl
op_leaf Any = refl

pub below_leaf : (i at : ℕ) (k : Leaf) → below i at (leaf k) ≡ []
below_leaf i at Empty = refl
below_leaf i at Any = refl

pub spell_numbered : (k : Numbered) (v : ℕ) (r : List ℕ) → spell (numbered k v) r ≡ 40 ∷ (numbered_word k ++ (32 ∷ (decimal v ++ (41 ∷ r))))
spell_numbered Term v r = refl
spell_numbered Call v r = refl

pub size_numbered : (k : Numbered) (v : ℕ) → size (numbered k v) ≡ 1
size_numbered Term v = refl
size_numbered Call v = refl

pub nesting_numbered : (k : Numbered) (v : ℕ) → nesting (numbered k v) ≡ 1
nesting_numbered Term v = refl
nesting_numbered Call v = refl

pub fit_numbered : (k : Numbered) (v : ℕ) → v ≤ 4294967295 → NumbersFit (numbered k v)
fit_numbered Term v h = h
fit_numbered Call v h = h

pub op_numbered : (k : Numbered) (v : ℕ) → operator_of (numbered k v) ≡ numbered_op k v
op_numbered Term v = refl
op_numbered Call v = refl

pub below_numbered : (i at : ℕ) (k : Numbered) (v : ℕ) → below i at (numbered k v) ≡ []
below_numbered i at Term v = refl
below_numbered i at Call v = refl

pub spell_one : (k : One) (e : Expr) (r : List ℕ) → spell (one k e) r ≡ 40 ∷ (one_word k ++ (32 ∷ spell e (41 ∷ r)))
spell_one Star e r = refl
spell_one Not e r = refl

pub size_one : (k : One) (e : Expr) → size (one k e) ≡ 1 + size e
size_one Star e = refl
size_one Not e = refl

pub nesting_one : (k : One) (e : Expr) → nesting (one k e) ≡ 1 + nesting e
nesting_one Star e = refl
nesting_one Not e = refl

pub fit_one : (k : One) (e : Expr) → NumbersFit e → NumbersFit (one k e)
fit_one Star e h = h
fit_one Not e h = h

pub op_one : (k : One) (e : Expr) → operator_of (one k e) ≡ one_op k
op_one Star e = refl
op_one Not e = refl

pub below_one : (i at : ℕ) (k : One) (e : Expr) → below i at (one k e) ≡ flat i (past at (one_word k)) e
below_one i at Star e = refl
below_one i at Not e = refl

pub spell_two : (k : Two) (e f : Expr) (r : List ℕ) → spell (two k e f) r ≡ 40 ∷ (two_word k ++ (32 ∷ spell e (32 ∷ spell f (41 ∷ r))))
spell_two Seq e f r = refl
spell_two Alt e f r = refl

pub size_two : (k : Two) (e f : Expr) → size (two k e f) ≡ 1 + (size e + size f)
size_two Seq e f = refl
size_two Alt e f = refl

pub nesting_two : (k : Two) (e f : Expr) → nesting (two k e f) ≡ 1 + max (nesting e) (nesting f)
nesting_two Seq e f = refl
nesting_two Alt e f = refl

pub fit_two : (k : Two) (e f : Expr) → NumbersFit e → NumbersFit f → NumbersFit (two k e f)
fit_two Seq e f g h = (g, h)
fit_two Alt e f g h = (g, h)

pub op_two : (k : Two) (e f : Expr) → operator_of (two k e f) ≡ two_op k
op_two Seq e f = refl
op_two Alt e f = refl

pub below_two : (i at : ℕ) (k : Two) (e f : Expr) → below i at (two k e f) ≡ flat i (past at (two_word k)) e ++ flat (i + size e) (past at (two_word k) + width e + 1) f
below_two i at Seq e f = refl
below_two i at Alt e f = refl
