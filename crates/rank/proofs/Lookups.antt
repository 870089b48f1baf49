-- What is kept of each key after a row is inserted or taken out.
use Rattle.std.proofs.Common.{◌≡◌, ℕ, zero, suc, Bool, true, false, cond, List, [], ◌∷◌, set, Some, None, sym, refl, ap, ◌∙◌, ⊎_elim}
use Rattle.std.specs.List.{slice_get}
use Rattle.std.proofs.lemmas.Bool.{cond_both, cases_Bool}
use Rattle.rank.specs.Keys.{ExactlyOne}
use Rattle.rank.specs.Rows.{First, Sorted, placed, inserted, without, kept}
use Rattle.rank.specs.Laws.{RowLaws}
use Rattle.rank.proofs.Keys.{irreflexive, not_back, total}
use Rattle.rank.proofs.Orders.{inserted_sorted, without_sorted}

none_some : {X : Type 0} (x : X) → None ≡ Some x → ⊥
none_some x e = cc

-- a row over the one with its key
over : {X K : Type 0} (key : X → K) (before : K → K → Bool) (r : X) (xs : List X) → (kept key before (key r) xs ≡ None → ⊥) → set xs (placed key before (key r) xs) r ≡ inserted key before r xs
over key before r [] n = absurd (n refl)
over key before r (x ∷ xs) n =
    elim (before (key x) (key r)) as (λ b. (cond b (kept key before (key r) xs) (cond (before (key r) (key x)) None (Some x)) ≡ None → ⊥) → set (x ∷ xs) (cond b (suc (placed key before (key r) xs)) 0) r ≡ cond b (x ∷ inserted key before r xs) (cond (before (key r) (key x)) (r ∷ (x ∷ xs)) (r ∷ xs))) [
      | true ↦ λ n. ap (λ ys. x ∷ ys) (over key before r xs n)
      | false ↦ elim (before (key r) (key x)) as (λ b. (cond b None (Some x) ≡ None → ⊥) → r ∷ xs ≡ cond b (r ∷ (x ∷ xs)) (r ∷ xs)) [ true ↦ λ n. absurd (n refl) | false ↦ λ n. refl ]
    ] n

module _ {X K : Type 0} (key : X → K) (before : K → K → Bool) (one : (a b : K) → ExactlyOne (before a b ≡ true) (a ≡ b) (before b a ≡ true))
    (trans : (a b c : K) → before a b ≡ true → before b c ≡ true → before a c ≡ true) where
  -- a key that is not k and not behind it is before it
  ahead : (a k : K) → (k ≡ a → ⊥) → before a k ≡ false → before k a ≡ true
  ahead a k n f = ⊎_elim {C = before k a ≡ true} (λ t. t) (λ g. absurd (n (total before one k a g f))) (cases_Bool (before k a))

  -- a key before the first row has none
  none_first : (k : K) (y : X) (ys : List X) → before k (key y) ≡ true → kept key before k (y ∷ ys) ≡ None
  none_first k y ys h = rw (not_back before one k (key y) h, h) refl

  -- nor has one that is not behind a row before the first
  none_behind : (k : K) (x : X) (xs : List X) → First key before x xs → ((y : X) → before (key x) (key y) ≡ true → before k (key y) ≡ true) → kept key before k xs ≡ None
  none_behind k x [] f h = refl
  none_behind k x (y ∷ ys) f h = none_first k y ys (h y f)

  in_there : (r : X) (xs : List X) → kept key before (key r) (inserted key before r xs) ≡ Some r
  in_there r [] = rw (irreflexive before one (key r)) refl
  in_there r (x ∷ xs) =
      let same = irreflexive before one (key r) in
      cond_both (before (key x) (key r)) _ _ (λ ys. kept key before (key r) ys ≡ Some r)
      (λ e. rw e (in_there r xs))
      (λ e. cond_both (before (key r) (key x)) _ _ (λ ys. kept key before (key r) ys ≡ Some r) (λ f. rw same refl) (λ f. rw same refl))

  -- a row that has not the key k is passed, or ends the search
  passed : (r : X) (k : K) (xs : List X) → (k ≡ key r → ⊥) → kept key before k (r ∷ xs) ≡ cond (before (key r) k) (kept key before k xs) None
  passed r k xs n =
      elim (before (key r) k) as (λ b. before (key r) k ≡ b → cond b (kept key before k xs) (cond (before k (key r)) None (Some r)) ≡ cond b (kept key before k xs) None)
      [ true ↦ λ e. refl | false ↦ λ e. rw (ahead (key r) k n e) refl ] refl

  in_others : (r : X) (k : K) (xs : List X) → (k ≡ key r → ⊥) → kept key before k (inserted key before r xs) ≡ kept key before k xs
  in_others r k [] n = passed r k [] n ∙ cond_both (before (key r) k) _ _ (λ o. o ≡ None) (λ e. refl) (λ e. refl)
  in_others r k (x ∷ xs) n =
      cond_both (before (key x) (key r)) _ _ (λ ys. kept key before k ys ≡ kept key before k (x ∷ xs))
      (λ e. ap (λ o. cond (before (key x) k) o (cond (before k (key x)) None (Some x))) (in_others r k xs n))
      (λ e. cond_both (before (key r) (key x)) _ _ (λ ys. kept key before k ys ≡ kept key before k (x ∷ xs))
      (λ f. passed r k (x ∷ xs) n ∙ cond_both (before (key r) k) _ _ (λ o. o ≡ kept key before k (x ∷ xs)) (λ g. refl) (λ g. sym (none_first k x xs (trans _ _ _ (ahead (key r) k n g) f))))
      (λ f. let same : key r ≡ key x = total before one _ _ f e in
      passed r k xs n ∙ ap (λ a. cond (before a k) (kept key before k xs) None) same ∙ sym (passed x k xs (λ g. n (g ∙ sym same)))))

  out_gone : (k : K) (xs : List X) → Sorted key before xs → kept key before k (without key before k xs) ≡ None
  out_gone k [] s = refl
  out_gone k (x ∷ xs) s =
      cond_both (before (key x) k) _ _ (λ ys. kept key before k ys ≡ None)
      (λ e. rw e (out_gone k xs s.1))
      (λ e. cond_both (before k (key x)) _ _ (λ ys. kept key before k ys ≡ None)
      (λ f. none_first k x xs f)
      (λ f. none_behind k x xs s.0 (λ y g. ap (λ a. before a (key y)) (total before one _ _ f e) ∙ g)))

  out_others : (k j : K) (xs : List X) → (j ≡ k → ⊥) → Sorted key before xs → kept key before j (without key before k xs) ≡ kept key before j xs
  out_others k j [] n s = refl
  out_others k j (x ∷ xs) n s =
      cond_both (before (key x) k) _ _ (λ ys. kept key before j ys ≡ kept key before j (x ∷ xs))
      (λ e. ap (λ o. cond (before (key x) j) o (cond (before j (key x)) None (Some x))) (out_others k j xs n s.1))
      (λ e. cond_both (before k (key x)) _ _ (λ ys. kept key before j ys ≡ kept key before j (x ∷ xs))
      (λ f. refl)
      (λ f. let other : j ≡ key x → ⊥ = λ g. n (g ∙ sym (total before one _ _ f e)) in
      sym (passed x j xs other ∙ cond_both (before (key x) j) _ _ (λ o. o ≡ kept key before j xs) (λ g. refl)
      (λ g. sym (none_behind j x xs s.0 (λ y h. trans _ _ _ (ahead (key x) j other g) h))))))

  -- in order, a row comes before all later ones
  later : (y x : X) (ys : List X) (i : ℕ) → Sorted key before (y ∷ ys) → slice_get ys i ≡ Some x → before (key y) (key x) ≡ true
  later y x [] i s e = absurd (none_some x e)
  later y x (z ∷ zs) zero s e = let same : z ≡ x = cc in ap (λ r. before (key y) (key r)) (sym same) ∙ s.0
  later y x (z ∷ zs) (suc i) s e = trans _ _ _ s.0 (later z x zs i s.1 e)

  -- so behind as many as come before it stands the row of a key
  at_place : (x : X) (i : ℕ) (xs : List X) → Sorted key before xs → slice_get xs i ≡ Some x → (i ≡ placed key before (key x) xs) × (kept key before (key x) xs ≡ Some x)
  at_place x i [] s e = absurd (none_some x e)
  at_place x zero (y ∷ ys) s e = let same : x ≡ y = cc in rw (same, irreflexive before one (key y)) (refl, refl)
  at_place x (suc i) (y ∷ ys) s e = let h = at_place x i ys s.1 e in rw (later y x ys i s e) (ap suc h.0, h.1)

  pub laws : RowLaws key before
  laws = record {
    inserted_sorted = inserted_sorted key before one;
    without_sorted = without_sorted key before trans;
    inserted_there = in_there;
    inserted_others = in_others;
    without_gone = out_gone;
    without_others = out_others;
    kept_at = at_place;
    inserted_over = over key before;
  }
