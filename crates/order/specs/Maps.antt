-- Values by number: pairs of a number and its value.
use Rattle.std.specs.Prelude.{ℕ, ◌<◌, Bool, cond, List, [], ◌∷◌, is_some, Some, None, Option, ◌==◌, nat_lt}

-- a list of such pairs
abbrev pub Map : Type 0 → Type 0
Map V = List (ℕ × V)

module _ {V : Type 0} where
  -- the value of a number
  abbrev pub lookup : ℕ → Map V → Option V
  lookup n [] = None
  lookup n (x ∷ xs) = cond (n == x.0) (Some x.1) (lookup n xs)

  -- whether a number has a value
  abbrev pub has : ℕ → Map V → Bool
  has n xs = is_some (lookup n xs)

  -- with the value of a number set
  abbrev pub insert : ℕ → V → Map V → Map V
  insert n v [] = (n, v) ∷ []
  insert n v (x ∷ xs) = cond (n == x.0) ((n, v) ∷ xs) (cond (nat_lt n x.0) ((n, v) ∷ x ∷ xs) (x ∷ insert n v xs))

  -- without the value of a number
  abbrev pub remove : ℕ → Map V → Map V
  remove n [] = []
  remove n (x ∷ xs) = cond (n == x.0) (remove n xs) (x ∷ remove n xs)

  -- every number is above a given one
  abbrev pub Above : ℕ → Map V → Type 0
  Above n [] = Unit {0}
  Above n (x ∷ xs) = (n < x.0) × Above n xs

  -- numbers rise strictly
  abbrev pub Rising : Map V → Type 0
  Rising [] = Unit {0}
  Rising (x ∷ xs) = Above x.0 xs × Rising xs
