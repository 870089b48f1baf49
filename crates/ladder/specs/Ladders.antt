-- Ladders: rows that are looked up at the first ones, then at the last, then by halves. `key` gives a row's key, and `before` says which of two keys comes first.
-- All of it is defined for any rows, in order or not.
use Rattle.std.specs.Prelude.{◌≡◌, ℕ, zero, suc, ◌+◌, ◌-◌, ◌/◌, ◌≤◌, Bool, true, false, cond, not, List, [], ◌∷◌, ◌++◌, map, length, take, drop, Some, None, Option, nat_lt, slice_index_or}

-- the place between low and high where the flags turn from true to false, looked for by halves, in at most n looks
abbrev pub halved : ℕ → List Bool → ℕ → ℕ → ℕ
halved zero flags low high = low
halved (suc n) flags low high =
    cond (nat_lt low high)
    (cond (slice_index_or flags (low + (high - low) / 2) false)
    (halved n flags (low + (high - low) / 2 + 1) high)
    (halved n flags low (low + (high - low) / 2)))
    low

-- for each row, whether it comes before the key k
abbrev pub flags : {X K : Type 0} → (X → K) → (K → K → Bool) → K → List X → List Bool
flags key before k xs = map (λ x. before (key x) k) xs

-- the place of the key k, looked for by halves
abbrev pub halved_place : {X K : Type 0} → (X → K) → (K → K → Bool) → K → List X → ℕ
halved_place key before k xs = halved (length xs) (flags key before k xs) 0 (length xs)

-- whether the last row, if there is one, comes before the key k
abbrev pub last_before : {X K : Type 0} → (X → K) → (K → K → Bool) → K → List X → Bool
last_before key before k xs = slice_index_or (flags key before k xs) (length xs - 1) false

-- how many flags are true
abbrev pub hits : List Bool → ℕ
hits [] = 0
hits (b ∷ bs) = cond b 1 0 + hits bs

-- the place of the key k among many rows: behind the last, where that comes before it, and else by halves
abbrev pub far_place : {X K : Type 0} → (X → K) → (K → K → Bool) → K → List X → ℕ
far_place key before k xs = cond (last_before key before k xs) (length xs) (halved_place key before k xs)

-- the place of the key k: where there is an eighth row that does not come before it, behind as many rows as come before it among the first eight
abbrev pub place : {X K : Type 0} → (X → K) → (K → K → Bool) → K → List X → ℕ
place key before k xs = cond (slice_index_or (flags key before k xs) 7 true) (far_place key before k xs) (hits (flags key before k (take 8 xs)))

-- the first row, if there is one, has the key k: k is not before it
abbrev pub held : {X K : Type 0} → (X → K) → (K → K → Bool) → K → List X → Bool
held key before k [] = false
held key before k (y ∷ ys) = not (before k (key y))

-- the first row, where it has the key k
abbrev pub fronted : {X K : Type 0} → (X → K) → (K → K → Bool) → K → List X → Option X
fronted key before k [] = None
fronted key before k (y ∷ ys) = cond (before k (key y)) None (Some y)

-- rows without the first, where that has the key k
abbrev pub past : {X K : Type 0} → (X → K) → (K → K → Bool) → K → List X → List X
past key before k [] = []
past key before k (y ∷ ys) = cond (before k (key y)) (y ∷ ys) ys

-- r in the place of the row with its key, or else added at the place of its key
abbrev pub entered : {X K : Type 0} → (X → K) → (K → K → Bool) → X → List X → List X
entered key before r xs = take (place key before (key r) xs) xs ++ r ∷ past key before (key r) (drop (place key before (key r) xs) xs)

-- without the row with the key k
abbrev pub removed : {X K : Type 0} → (X → K) → (K → K → Bool) → K → List X → List X
removed key before k xs = take (place key before k xs) xs ++ past key before k (drop (place key before k xs) xs)

-- the row with the key k, if there is one
abbrev pub looked : {X K : Type 0} → (X → K) → (K → K → Bool) → K → List X → Option X
looked key before k xs = fronted key before k (drop (place key before k xs) xs)

-- `at` is the place of the key k in xs, and whether the row there has the key is `there`; so what removing the key leaves is known
pub record Found {X K : Type 0} (key : X → K) (before : K → K → Bool) (k : K) (xs : List X) (there : Bool) (at : ℕ) : Type 0 where
  pub within : at + cond there 1 0 ≤ length xs
  pub is : at ≡ place key before k xs
  pub held : held key before k (drop at xs) ≡ there
  pub removes : removed key before k xs ≡ cond there (take at xs ++ drop 1 (drop at xs)) xs
