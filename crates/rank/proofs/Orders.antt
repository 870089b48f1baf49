-- Rows in order stay so where one is inserted or taken out.
use Rattle.std.proofs.Common.{◌≡◌, Bool, true, List, [], ◌∷◌}
use Rattle.std.proofs.lemmas.Bool.{cond_both}
use Rattle.rank.specs.Keys.{ExactlyOne}
use Rattle.rank.specs.Rows.{First, Sorted, inserted, without}
use Rattle.rank.proofs.Keys.{total}

module _ {X K : Type 0} (key : X → K) (before : K → K → Bool) where
  first_same : (r x : X) (xs : List X) → key r ≡ key x → First key before x xs → First key before r xs
  first_same r x [] e f = tt
  first_same r x (y ∷ ys) e f = rw e f

  inserted_first : (y r : X) (xs : List X) → before (key y) (key r) ≡ true → First key before y xs → First key before y (inserted key before r xs)
  inserted_first y r [] h f = h
  inserted_first y r (x ∷ xs) h f =
      cond_both (before (key x) (key r)) _ _ (First key before y) (λ e. f)
      (λ e. cond_both (before (key r) (key x)) _ _ (First key before y) (λ e. h) (λ e. h))

  module _ (one : (a b : K) → ExactlyOne (before a b ≡ true) (a ≡ b) (before b a ≡ true)) where
    pub inserted_sorted : (r : X) (xs : List X) → Sorted key before xs → Sorted key before (inserted key before r xs)
    inserted_sorted r [] s = (tt, tt)
    inserted_sorted r (x ∷ xs) s =
        cond_both (before (key x) (key r)) _ _ (Sorted key before)
        (λ e. (inserted_first x r xs e s.0, inserted_sorted r xs s.1))
        (λ e. cond_both (before (key r) (key x)) _ _ (Sorted key before)
        (λ f. (f, s))
        (λ f. (first_same r x xs (total before one _ _ f e) s.0, s.1)))

  module _ (trans : (a b c : K) → before a b ≡ true → before b c ≡ true → before a c ≡ true) where
    first_later : (y x : X) (xs : List X) → before (key y) (key x) ≡ true → First key before x xs → First key before y xs
    first_later y x [] f g = tt
    first_later y x (z ∷ zs) f g = trans _ _ _ f g

    without_first : (y : X) (k : K) (xs : List X) → Sorted key before xs → First key before y xs → First key before y (without key before k xs)
    without_first y k [] s f = tt
    without_first y k (x ∷ xs) s f =
        cond_both (before (key x) k) _ _ (First key before y)
        (λ e. f)
        (λ e. cond_both (before k (key x)) _ _ (First key before y) (λ g. f) (λ g. first_later y x xs f s.0))

    pub without_sorted : (k : K) (xs : List X) → Sorted key before xs → Sorted key before (without key before k xs)
    without_sorted k [] s = tt
    without_sorted k (x ∷ xs) s =
        cond_both (before (key x) k) _ _ (Sorted key before)
        (λ e. (without_first x k xs s.1 s.0, without_sorted k xs s.1))
        (λ e. cond_both (before k (key x)) _ _ (Sorted key before) (λ f. s) (λ f. s.1))
