-- What a search finds in rows in order, and what is found of each key after a row is entered or removed.
use Rattle.std.proofs.Common.{◌≡◌, ℕ, zero, suc, Bool, true, false, cond, not, List, [], ◌∷◌, drop, Some, None, Ok, Err, Result, MatchResult, sym, refl, ap, ◌∙◌, subst, arith}
use Rattle.std.proofs.lemmas.Bool.{both_ways}
use Rattle.std.specs.List.{slice_get}
use Rattle.rank.specs.Keys.{ExactlyOne}
use Rattle.rank.specs.Rows.{Sorted, placed, inserted, without, kept}
use Rattle.rank.specs.Laws.{RowLaws}
use Rattle.rank.proofs.Lookups as rows
use Rattle.ladder.specs.Ladders.{held, fronted, looked, entered, removed, Found}
use Rattle.ladder.specs.Tables.{There, Missing}
use Rattle.ladder.specs.Laws.{Laws}
use Rattle.ladder.proofs.Orders.{place_is, entered_is, removed_is}

module _ {X K : Type 0} (key : X → K) (before : K → K → Bool) where
  -- the plain look-up is the one at the place of the key
  plain : (k : K) (xs : List X) → fronted key before k (drop (placed key before k xs) xs) ≡ kept key before k xs
  plain k [] = refl
  plain k (x ∷ xs) =
      elim (before (key x) k) as (λ b. fronted key before k (drop (cond b (suc (placed key before k xs)) 0) (x ∷ xs)) ≡ cond b (kept key before k xs) (cond (before k (key x)) None (Some x)))
      [ true ↦ plain k xs | false ↦ refl ]

  -- the row at a place where the key is held
  row_at : (k : K) (xs : List X) (at : ℕ) → held key before k (drop at xs) ≡ true → slice_get xs at ≡ fronted key before k (drop at xs)
  row_at k [] zero h = absurd (both_ways _ refl h)
  row_at k [] (suc at) h = absurd (both_ways _ refl h)
  row_at k (x ∷ xs) zero h = elim (before k (key x)) as (λ b. not b ≡ true → Some x ≡ cond b None (Some x)) [ true ↦ λ h. absurd (both_ways _ refl h) | false ↦ λ h. refl ] h
  row_at k (x ∷ xs) (suc at) h = row_at k xs at h

  no_row : (k : K) (ys : List X) → held key before k ys ≡ false → fronted key before k ys ≡ None
  no_row k [] h = refl
  no_row k (y ∷ ys) h = elim (before k (key y)) as (λ b. not b ≡ false → cond b None (Some y) ≡ None) [ true ↦ λ h. refl | false ↦ λ h. absurd (both_ways _ h refl) ] h

  module _ (trans : (a b c : K) → before a b ≡ true → before b c ≡ true → before a c ≡ true) where
    looked_is : (k : K) (xs : List X) → Sorted key before xs → looked key before k xs ≡ kept key before k xs
    looked_is k xs s = ap (λ p. fronted key before k (drop p xs)) (place_is key before trans k xs s) ∙ plain k xs

    -- what is found at a place, in plain words
    found_is : (k : K) (xs : List X) (there : Bool) (at : ℕ) → Sorted key before xs → Found key before k xs there at → (at ≡ placed key before k xs) × (fronted key before k (drop at xs) ≡ kept key before k xs)
    found_is k xs there at s f =
        let place : at ≡ placed key before k xs = f.is ∙ place_is key before trans k xs s in
        (place, ap (λ p. fronted key before k (drop p xs)) place ∙ plain k xs)

    there_is : (k : K) (xs : List X) (at : ℕ) → Sorted key before xs → Found key before k xs true at → There key before k xs at
    there_is k xs at s f = let p = found_is k xs true at s f in record { within = omega (arith, f.within); place = p.0; row = row_at k xs at f.held ∙ p.1 }

    missing_is : (k : K) (xs : List X) (at : ℕ) → Sorted key before xs → Found key before k xs false at → Missing key before k xs at
    missing_is k xs at s f = let p = found_is k xs false at s f in record { place = p.0; none = sym p.1 ∙ no_row k (drop at xs) f.held }

    pub look_is : (k : K) (xs : List X) (r : Result ℕ ℕ) → MatchResult r (λ at. Found key before k xs true at) (λ at. Found key before k xs false at) → Sorted key before xs → MatchResult r (There key before k xs) (Missing key before k xs)
    look_is k xs (Ok at) f s = there_is k xs at s f
    look_is k xs (Err at) f s = missing_is k xs at s f

    module _ (one : (a b : K) → ExactlyOne (before a b ≡ true) (a ≡ b) (before b a ≡ true)) where
      pub laws : Laws key before
      laws =
          let law : RowLaws key before = rows.laws key before one trans in
          let in_is : (r : X) (xs : List X) → Sorted key before xs → entered key before r xs ≡ inserted key before r xs = entered_is key before trans in
          let out_is : (k : K) (xs : List X) → Sorted key before xs → removed key before k xs ≡ without key before k xs = removed_is key before trans in
          let in_sorted : (r : X) (xs : List X) → Sorted key before xs → Sorted key before (entered key before r xs) = λ r xs s. subst (Sorted key before) (sym (in_is r xs s)) (law.inserted_sorted r xs s) in
          let out_sorted : (k : K) (xs : List X) → Sorted key before xs → Sorted key before (removed key before k xs) = λ k xs s. subst (Sorted key before) (sym (out_is k xs s)) (law.without_sorted k xs s) in
          record {
            place_is = place_is key before trans;
            entered_is = in_is;
            removed_is = out_is;
            looked_is = looked_is;
            entered_sorted = in_sorted;
            removed_sorted = out_sorted;
            entered_there = λ r xs s. looked_is (key r) (entered key before r xs) (in_sorted r xs s) ∙ ap (kept key before (key r)) (in_is r xs s) ∙ law.inserted_there r xs;
            entered_others = λ r k xs n s. looked_is k (entered key before r xs) (in_sorted r xs s) ∙ ap (kept key before k) (in_is r xs s) ∙ law.inserted_others r k xs n ∙ sym (looked_is k xs s);
            removed_gone = λ k xs s. looked_is k (removed key before k xs) (out_sorted k xs s) ∙ ap (kept key before k) (out_is k xs s) ∙ law.without_gone k xs s;
            removed_others = λ k j xs n s. looked_is j (removed key before k xs) (out_sorted k xs s) ∙ ap (kept key before j) (out_is k xs s) ∙ law.without_others k j xs n s ∙ sym (looked_is j xs s);
          }
