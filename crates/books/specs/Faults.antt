-- Each fault's number, layer and spot.
use Rattle.std.specs.Prelude.{ℕ}
use Rattle.tokens.specs.declared.spot.Spot.{Spot}
use Rattle.tokens.specs.declared.token.TokenFault.TheVariants.{Stray, BadNumber}
use Rattle.books.specs.declared.fault.ExprFault.TheVariants.{InToken, Unwanted, TooDeep}
use Rattle.books.specs.declared.fault.BookFault.{BookFault}
use Rattle.books.specs.declared.fault.BookFault.TheVariants.{InExpr, TooLong, TooMany, Unlawful, Missing, Loop}
use Rattle.books.specs.declared.fault.Layer.{Layer}
use Rattle.books.specs.declared.fault.Layer.TheVariants.{Tokens, Expressions, Book}

-- A fault as it is told: its number, the layer that found it, and its place and line.
pub record Told : Type 0 where
  pub number : ℕ
  pub layer : Layer
  pub spot : Spot

abbrev pub tell : ℕ → Layer → Spot → Told
tell n l s = record { number = n; layer = l; spot = s }

abbrev pub told : BookFault → Told
told (TooLong s) = tell 1 Book s
told (InExpr (InToken (Stray s))) = tell 2 Tokens s
told (InExpr (InToken (BadNumber s))) = tell 3 Tokens s
told (InExpr (Unwanted s)) = tell 4 Expressions s
told (TooMany s) = tell 5 Book s
told (InExpr (TooDeep s)) = tell 6 Expressions s
told (Unlawful s) = tell 7 Book s
told (Missing s) = tell 8 Book s
told (Loop s) = tell 9 Book s
