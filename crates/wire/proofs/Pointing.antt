-- The list of the points of a part of a packet: it begins with the first point and goes on with the points behind it.
use Rattle.std.proofs.Common.{◌≡◌, ℕ, suc, ◌+◌, ◌*◌, ◌/◌, ◌<◌, ◌≤◌, nat_lt, List, [], ◌∷◌, map, length, drop, Some, slice_get, refl, sym, ap, ◌∙◌, arith, length-drop, add-one, zero-add, get_or, zero-mul, one-mul, add-mul, inl, inr}
use Rattle.std.proofs.lemmas.Bool.{cases_lt, lt-ltb, le-ltb, cond-true, cond-false}
use Rattle.std.proofs.lemmas.Option.{slice_get-get_or, slice_get_past}
use Rattle.std.proofs.Math.Nat.{add-div_right, div-eq_of_lt}
use Rattle.std.specs.List.{range_with_len}
use Rattle.std.proofs.lemmas.List.FromFn.{length-map-range_with_len, get_or-map-range_with_len, fill_by_all}
use Rattle.wire.specs.Points.{points, point_in, Shifts}

further : (k size : ℕ) → (1 + k) * size ≡ size + k * size
further k size = add-mul 1 k size ∙ ap (λ (n : ℕ). n + k * size) (one-mul size)

module _ {P : Type 0} (size : ℕ) (at : List ℕ → ℕ → P) where
  pub points_count : (ps : List ℕ) → length (points size at ps) ≡ length ps / size
  unfolding points
  points_count ps = length-map-range_with_len (λ i. at ps (i * size)) 0 (length ps / size)

  pub points_none : (ps : List ℕ) → length ps < size → points size at ps ≡ []
  unfolding points
  points_none ps h = rw (div-eq_of_lt h) refl

  pub points_more : 0 < size → Shifts at → (ps : List ℕ) → size ≤ length ps → points size at ps ≡ at ps 0 ∷ points size at (drop size ps)
  unfolding points
  points_more l s ps h =
      let f : ℕ → P = λ i. at ps (i * size) in
      let g : ℕ → P = λ i. at (drop size ps) (i * size) in
      let n : ℕ = length (drop size ps) / size in
      let e : length ps ≡ length (drop size ps) + size = omega (arith, length-drop size ps) in
      let c : length ps / size ≡ suc n = ap (λ (k : ℕ). k / size) e ∙ (add-div_right (length (drop size ps)) l ∙ add-one n) in
      let t : map f (range_with_len 1 n) ≡ map g (range_with_len 0 n) =
      fill_by_all g (map f (range_with_len 1 n)) n (at ps 0) (length-map-range_with_len f 1 n)
      (λ k b. get_or-map-range_with_len f 1 n k (1 + k) (at ps 0) b refl ∙ (ap (at ps) (further k size) ∙ sym (s ps size (k * size)))) in
      ap (λ (k : ℕ). map f (range_with_len 0 k)) c
      ∙ (ap (λ (o : ℕ). at ps o ∷ map f (range_with_len 1 n)) (zero-mul size) ∙ ap (λ (xs : List P). at ps 0 ∷ xs) t)

  point_is : (ps : List ℕ) (i : ℕ) → i < length ps / size → get_or (points size at ps) i (at ps 0) ≡ at ps (i * size)
  unfolding points
  point_is ps i h = get_or-map-range_with_len (λ k. at ps (k * size)) 0 (length ps / size) i i (at ps 0) h (zero-add i)

  pub points_at : (ps : List ℕ) (i : ℕ) → slice_get (points size at ps) i ≡ point_in size at ps i
  points_at ps i =
      let n : ℕ = length ps / size in
      let e : length (points size at ps) ≡ n = points_count ps in
      elim (cases_lt i n) [
        | inl h ↦ slice_get-get_or (points size at ps) i (at ps 0) (omega arith) ∙ (ap (λ x. Some x) (point_is ps i h) ∙ sym (cond-true (nat_lt i n) _ _ (lt-ltb i n h)))
        | inr h ↦ slice_get_past (points size at ps) i (omega arith) ∙ sym (cond-false (nat_lt i n) _ _ (le-ltb i n h))
      ]
