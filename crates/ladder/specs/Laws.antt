-- The search of a ladder and the plain forms of rows in order.
use Rattle.std.specs.Prelude.{◌≡◌, Bool, List, Some, None, ◌≢◌}
use Rattle.rank.specs.Rows.{Sorted, placed, inserted, without, kept}
use Rattle.ladder.specs.Ladders.{place, entered, removed, looked}

-- What holds of a ladder in order: the search, entering and removing are the plain forms; they keep the order; and they change what is found of the key in hand alone.
pub record Laws {X K : Type 0} (key : X → K) (before : K → K → Bool) : Type 0 where
  pub place_is : (k : K) (xs : List X) → Sorted key before xs → place key before k xs ≡ placed key before k xs
  pub entered_is : (r : X) (xs : List X) → Sorted key before xs → entered key before r xs ≡ inserted key before r xs
  pub removed_is : (k : K) (xs : List X) → Sorted key before xs → removed key before k xs ≡ without key before k xs
  pub looked_is : (k : K) (xs : List X) → Sorted key before xs → looked key before k xs ≡ kept key before k xs
  pub entered_sorted : (r : X) (xs : List X) → Sorted key before xs → Sorted key before (entered key before r xs)
  pub removed_sorted : (k : K) (xs : List X) → Sorted key before xs → Sorted key before (removed key before k xs)
  pub entered_there : (r : X) (xs : List X) → Sorted key before xs → looked key before (key r) (entered key before r xs) ≡ Some r
  pub entered_others : (r : X) (k : K) (xs : List X) → (k ≢ key r) → Sorted key before xs → looked key before k (entered key before r xs) ≡ looked key before k xs
  pub removed_gone : (k : K) (xs : List X) → Sorted key before xs → looked key before k (removed key before k xs) ≡ None
  pub removed_others : (k j : K) (xs : List X) → (j ≢ k) → Sorted key before xs → looked key before j (removed key before k xs) ≡ looked key before j xs
