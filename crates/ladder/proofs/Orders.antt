-- In rows in order the search ends at the plain place.
use Rattle.std.proofs.Common.{◌≡◌, ℕ, zero, suc, ◌-◌, ◌<◌, ◌≤◌, min, Bool, true, false, cond, List, [], ◌∷◌, ◌++◌, length, get_or, take, drop, refl, ap, ◌∙◌, ⊎_elim, arith}
use Rattle.std.proofs.lemmas.Bool.{cond_both, both_ways, cases_Bool, cases_lt}
use Rattle.std.proofs.lemmas.List.{get_or_default, length-map}
use Rattle.ladder.specs.Ladders.{flags, halved_place, last_before, hits, far_place, place, past, entered, removed}
use Rattle.rank.specs.Rows.{Sorted, placed, inserted, without}
use Rattle.ladder.proofs.Halves.{halved_is}

module _ {X K : Type 0} (key : X → K) (before : K → K → Bool) where
  placed_le : (k : K) (xs : List X) → placed key before k xs ≤ length xs
  placed_le k [] = omega arith
  placed_le k (x ∷ xs) =
      let h = placed_le k xs in
      elim (before (key x) k) as (λ b. cond b (suc (placed key before k xs)) 0 ≤ suc (length xs)) [ true ↦ omega arith | false ↦ omega arith ]

  -- the place among the rows before k, by the plain words
  front : (k : K) (xs : List X) (i : ℕ) → i < placed key before k xs → get_or (flags key before k xs) i false ≡ true
  front k [] i h = absurd (omega arith)
  front k (x ∷ xs) zero h =
      elim (before (key x) k) as (λ b. 0 < cond b (suc (placed key before k xs)) 0 → b ≡ true) [ true ↦ λ h. refl | false ↦ λ h. absurd (omega arith) ] h
  front k (x ∷ xs) (suc i) h =
      elim (before (key x) k) as (λ b. suc i < cond b (suc (placed key before k xs)) 0 → get_or (flags key before k xs) i false ≡ true) [ true ↦ λ h. front k xs i (omega arith) | false ↦ λ h. absurd (omega arith) ] h

  plain_in : (r : X) (xs : List X) → take (placed key before (key r) xs) xs ++ r ∷ past key before (key r) (drop (placed key before (key r) xs) xs) ≡ inserted key before r xs
  plain_in r [] = refl
  plain_in r (x ∷ xs) =
      elim (before (key x) (key r)) as (λ b. take (cond b (suc (placed key before (key r) xs)) 0) (x ∷ xs) ++ r ∷ past key before (key r) (drop (cond b (suc (placed key before (key r) xs)) 0) (x ∷ xs)) ≡ cond b (x ∷ inserted key before r xs) (cond (before (key r) (key x)) (r ∷ (x ∷ xs)) (r ∷ xs))) [
        | true ↦ ap (λ t. x ∷ t) (plain_in r xs)
        | false ↦ elim (before (key r) (key x)) as (λ b. r ∷ cond b (x ∷ xs) xs ≡ cond b (r ∷ (x ∷ xs)) (r ∷ xs)) [ true ↦ refl | false ↦ refl ]
      ]

  plain_out : (k : K) (xs : List X) → take (placed key before k xs) xs ++ past key before k (drop (placed key before k xs) xs) ≡ without key before k xs
  plain_out k [] = refl
  plain_out k (x ∷ xs) =
      elim (before (key x) k) as (λ b. take (cond b (suc (placed key before k xs)) 0) (x ∷ xs) ++ past key before k (drop (cond b (suc (placed key before k xs)) 0) (x ∷ xs)) ≡ cond b (x ∷ without key before k xs) (cond (before k (key x)) (x ∷ xs) xs))
      [ true ↦ ap (λ t. x ∷ t) (plain_out k xs) | false ↦ refl ]

  module _ (trans : (a b c : K) → before a b ≡ true → before b c ≡ true → before a c ≡ true) where
    none_later : (k : K) (x : X) (ys : List X) (j : ℕ) → Sorted key before (x ∷ ys) → before (key x) k ≡ false → get_or (flags key before k (x ∷ ys)) j false ≡ false
    none_later k x ys zero s e = e
    none_later k x [] (suc j) s e = refl
    none_later k x (y ∷ ys) (suc j) s e =
        none_later k y ys j s.1 (⊎_elim {C = before (key y) k ≡ false} (λ t. absurd (both_ways _ e (trans _ _ _ s.0 t))) (λ f. f) (cases_Bool (before (key y) k)))

    rest : (k : K) (xs : List X) (i : ℕ) → Sorted key before xs → placed key before k xs ≤ i → get_or (flags key before k xs) i false ≡ false
    rest k [] i s h = refl
    rest k (x ∷ xs) zero s h =
        elim (before (key x) k) as (λ b. cond b (suc (placed key before k xs)) 0 ≤ 0 → b ≡ false) [ true ↦ λ h. absurd (omega arith) | false ↦ λ h. refl ] h
    rest k (x ∷ xs) (suc i) s h =
        ⊎_elim {C = get_or (flags key before k xs) i false ≡ false}
        (λ t. let l = rw t at h in rest k xs i s.1 (omega arith))
        (none_later k x xs (suc i) s)
        (cases_Bool (before (key x) k))

    by_halves : (k : K) (xs : List X) → Sorted key before xs → halved_place key before k xs ≡ placed key before k xs
    by_halves k xs s = halved_is (flags key before k xs) (placed key before k xs) (front k xs) (λ i h. rest k xs i s h) (length xs) 0 (length xs) (omega arith) (placed_le k xs) (omega arith)

    -- all rows come before a key that the last one comes before
    by_last : (k : K) (xs : List X) → Sorted key before xs → last_before key before k xs ≡ true → length xs ≡ placed key before k xs
    by_last k xs s t =
        let few = placed_le k xs in
        ⊎_elim {C = length xs ≡ placed key before k xs}
        (λ h. omega arith)
        (λ h. absurd (both_ways _ (rest k xs (length xs - 1) s h) t))
        (cases_lt (length xs - 1) (placed key before k xs))

    by_far : (k : K) (xs : List X) → Sorted key before xs → far_place key before k xs ≡ placed key before k xs
    by_far k xs s =
        cond_both (last_before key before k xs) (length xs) (halved_place key before k xs) (λ x. x ≡ placed key before k xs) (by_last k xs s) (λ f. by_halves k xs s)

    -- the rows that come before k are the first ones, so of n rows there are so many
    hits_none : (n : ℕ) (k : K) (xs : List X) → ((i : ℕ) → get_or (flags key before k xs) i false ≡ false) → hits (flags key before k (take n xs)) ≡ 0
    hits_none zero k xs h = refl
    hits_none (suc n) k [] h = refl
    hits_none (suc n) k (x ∷ xs) h = let r = hits_none n k xs (λ i. h (suc i)) in rw (h 0) (omega (arith, r))

    hits_placed : (n : ℕ) (k : K) (xs : List X) → Sorted key before xs → hits (flags key before k (take n xs)) ≡ min n (placed key before k xs)
    hits_placed zero k xs s = omega arith
    hits_placed (suc n) k [] s = omega arith
    hits_placed (suc n) k (x ∷ xs) s =
        ⊎_elim {C = hits (flags key before k (take (suc n) (x ∷ xs))) ≡ min (suc n) (placed key before k (x ∷ xs))}
        (λ t. let h = hits_placed n k xs s.1 in rw t (omega (arith, h)))
        (λ f. let h = hits_none n k xs (λ i. none_later k x xs (suc i) s f) in rw f (omega (arith, h)))
        (cases_Bool (before (key x) k))

    -- where the eighth row does not come before k, fewer than eight do
    few : (k : K) (xs : List X) → get_or (flags key before k xs) 7 true ≡ false → placed key before k xs < 8
    few k xs e =
        ⊎_elim {C = placed key before k xs < 8} (λ h. h)
        (λ h. absurd (both_ways _ e (get_or_default (flags key before k xs) 7 true false (omega (arith, h, placed_le k xs, length-map xs (λ x. before (key x) k))) ∙ front k xs 7 h)))
        (cases_lt (placed key before k xs) 8)

    pub place_is : (k : K) (xs : List X) → Sorted key before xs → place key before k xs ≡ placed key before k xs
    place_is k xs s =
        cond_both (get_or (flags key before k xs) 7 true) (far_place key before k xs) (hits (flags key before k (take 8 xs))) (λ x. x ≡ placed key before k xs)
        (λ t. by_far k xs s)
        (λ f. omega (arith, hits_placed 8 k xs s, few k xs f))

    pub entered_is : (r : X) (xs : List X) → Sorted key before xs → entered key before r xs ≡ inserted key before r xs
    entered_is r xs s = ap (λ p. take p xs ++ r ∷ past key before (key r) (drop p xs)) (place_is (key r) xs s) ∙ plain_in r xs

    pub removed_is : (k : K) (xs : List X) → Sorted key before xs → removed key before k xs ≡ without key before k xs
    removed_is k xs s = ap (λ p. take p xs ++ past key before k (drop p xs)) (place_is k xs s) ∙ plain_out k xs
