-- What callers are told of a ladder and of its table, in the plain words of rows in order.
use Rattle.std.specs.Prelude.{◌≡◌, ℕ, ◌<◌, ◌≤◌, Bool, List, length, take, Some, None, Option}
use Rattle.std.specs.List.{slice_get}
use Rattle.rank.specs.Rows.{placed, kept}

-- the first n of the rows are xs
pub record Holds {X : Type 0} (rows : List X) (n : ℕ) (xs : List X) : Type 0 where
  pub within : n ≤ length rows
  pub is : take n rows ≡ xs

-- the first rows of a table become xs, and how many there are then is n; or xs does not fit, and the table is as it was
abbrev pub Settled : {X : Type 0} → List X → List X → List X → Option ℕ → Type 0
Settled old new xs None = (length old < length xs) × (new ≡ old)
Settled old new xs (Some n) = Holds new n xs

-- the row with the key k stands at `at`, behind all that come before k
pub record There {X K : Type 0} (key : X → K) (before : K → K → Bool) (k : K) (xs : List X) (at : ℕ) : Type 0 where
  pub within : at < length xs
  pub place : at ≡ placed key before k xs
  pub row : slice_get xs at ≡ kept key before k xs

-- no row has the key k, and one would be added at `at`, behind all that come before k
pub record Missing {X K : Type 0} (key : X → K) (before : K → K → Bool) (k : K) (xs : List X) (at : ℕ) : Type 0 where
  pub place : at ≡ placed key before k xs
  pub none : kept key before k xs ≡ None
