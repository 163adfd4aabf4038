-- What a stack holds, and what its calls make of that.
use Rattle.std.specs.Prelude.{◌≡◌, ◌-◌, List, [], ◌∷◌, ◌++◌, length, take, Some, None, Option}
use Rattle.std.specs.List.{slice_get}
use Rattle.stack.specs.declared.stack.Stack.{Stack}

-- The records held, the top last: as many of the slice's first as the depth says.
abbrev pub held : {R : Type 0} → Stack R → List R
held stack = take stack.depth stack.records.now

-- The last of a list, if there is one.
abbrev pub last : {R : Type 0} → List R → Option R
last xs = slice_get xs (length xs - 1)

-- A list without its last.
abbrev pub front : {R : Type 0} → List R → List R
front xs = take (length xs - 1) xs

-- The top came off and the rest is held; or there was none, and none is held.
abbrev pub Taken : {R : Type 0} → List R → Option R → List R → Type 0
Taken before (Some top) after = before ≡ after ++ (top ∷ [])
Taken before None after = (before ≡ []) × (after ≡ [])

-- The slice is the same lender's, and as long.
pub record SameLoan {R : Type 0} (old new : Stack R) : Type 0 where
  pub lent : new.records.ghost_name ≡ old.records.ghost_name
  pub size : length new.records.now ≡ length old.records.now
