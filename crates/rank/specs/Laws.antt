-- What holds of rows in the order of their keys.
use Rattle.std.specs.Prelude.{◌≡◌, ℕ, Bool, List, Some, None, ◌≢◌, slice_set}
use Rattle.std.specs.List.{slice_get}
use Rattle.rank.specs.Rows.{Sorted, placed, inserted, without, kept}

-- Inserting a row and taking one out keep the order, and change what is kept of the key in hand alone.
-- A row is the one kept of its key, and stands behind as many as come before it; a row written over the one with its key is a row inserted.
pub record RowLaws {X K : Type 0} (key : X → K) (before : K → K → Bool) : Type 0 where
  pub inserted_sorted : (r : X) (xs : List X) → Sorted key before xs → Sorted key before (inserted key before r xs)
  pub without_sorted : (k : K) (xs : List X) → Sorted key before xs → Sorted key before (without key before k xs)
  pub inserted_there : (r : X) (xs : List X) → kept key before (key r) (inserted key before r xs) ≡ Some r
  pub inserted_others : (r : X) (k : K) (xs : List X) → (k ≢ key r) → kept key before k (inserted key before r xs) ≡ kept key before k xs
  pub without_gone : (k : K) (xs : List X) → Sorted key before xs → kept key before k (without key before k xs) ≡ None
  pub without_others : (k j : K) (xs : List X) → (j ≢ k) → Sorted key before xs → kept key before j (without key before k xs) ≡ kept key before j xs
  pub kept_at : (x : X) (i : ℕ) (xs : List X) → Sorted key before xs → slice_get xs i ≡ Some x → (i ≡ placed key before (key x) xs) × (kept key before (key x) xs ≡ Some x)
  pub inserted_over : (r : X) (xs : List X) → (kept key before (key r) xs ≢ None) → slice_set xs (placed key before (key r) xs) r ≡ inserted key before r xs
