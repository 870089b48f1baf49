-- Rows in the order of their keys, in plain words: recursions over the rows. `key` gives a row's key, and `before` says which of two keys comes first.
use Rattle.std.specs.Prelude.{◌≡◌, ℕ, suc, Bool, true, cond, List, [], ◌∷◌, Some, None, Option}
use Rattle.std.specs.Coded.{Coded-set, coded_bool, ×_prop, Unit-prop}

-- the row x comes before the first of xs, if there is one
abbrev pub First : {X K : Type 0} → (X → K) → (K → K → Bool) → X → List X → Type 0
First key before x [] = Unit {0}
First key before x (y ∷ ys) = before (key x) (key y) ≡ true

-- each row comes before the next
abbrev pub Sorted : {X K : Type 0} → (X → K) → (K → K → Bool) → List X → Type 0
Sorted key before [] = Unit {0}
Sorted key before (x ∷ xs) = First key before x xs × Sorted key before xs

-- how many rows at the front come before the key k
abbrev pub placed : {X K : Type 0} → (X → K) → (K → K → Bool) → K → List X → ℕ
placed key before k [] = 0
placed key before k (x ∷ xs) = cond (before (key x) k) (suc (placed key before k xs)) 0

-- r among the rows: after those before it, and in place of one with its key
abbrev pub inserted : {X K : Type 0} → (X → K) → (K → K → Bool) → X → List X → List X
inserted key before r [] = r ∷ []
inserted key before r (x ∷ xs) = cond (before (key x) (key r)) (x ∷ inserted key before r xs) (cond (before (key r) (key x)) (r ∷ (x ∷ xs)) (r ∷ xs))

-- the rows but that with the key k
abbrev pub without : {X K : Type 0} → (X → K) → (K → K → Bool) → K → List X → List X
without key before k [] = []
without key before k (x ∷ xs) = cond (before (key x) k) (x ∷ without key before k xs) (cond (before k (key x)) (x ∷ xs) xs)

-- the row with the key k, if there is one
abbrev pub kept : {X K : Type 0} → (X → K) → (K → K → Bool) → K → List X → Option X
kept key before k [] = None
kept key before k (x ∷ xs) = cond (before (key x) k) (kept key before k xs) (cond (before k (key x)) None (Some x))

-- that rows are in order has one proof at most
module _ {X K : Type 0} (key : X → K) (before : K → K → Bool) where
  First-prop : (x : X) (xs : List X) → IsProp (First key before x xs)
  First-prop x [] = Unit-prop
  First-prop x (y ∷ ys) = Coded-set coded_bool (before (key x) (key y)) true

  pub Sorted-prop : (xs : List X) → IsProp (Sorted key before xs)
  Sorted-prop [] = Unit-prop
  Sorted-prop (x ∷ xs) = ×_prop (First-prop x xs) (Sorted-prop xs)
