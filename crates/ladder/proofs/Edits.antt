-- A row put at its place, or taken from it, among the first rows of a table.
use Rattle.std.proofs.Common.{◌≡◌, ℕ, ◌+◌, ◌-◌, ◌<◌, ◌≤◌, Bool, true, false, List, [], ◌∷◌, ◌++◌, length, take, drop, set, sym, ap, ◌∙◌, subst, add-one, arith}
use lib.Seq.{paste, length-paste, take-paste, take-set-lt, take-append-add}
use Rattle.std.proofs.lemmas.List.{length-take-le, length-set, length-drop, take-take, take_more_set, drop-drop, set_split, set-append_left, append_assoc}
use Rattle.std.proofs.lemmas.Slice.{between_is}
use Rattle.ladder.specs.Ladders.{past, entered, Found}
use Rattle.ladder.specs.Tables.{Holds}
use Rattle.ladder.proofs.Places.{past_held, past_none}

module _ {X : Type 0} (xs : List X) (count at : ℕ) (le : count ≤ length xs) where
  -- a row written over another
  edit_same : (r : X) → at < count → take count (set xs at r) ≡ take at (take count xs) ++ r ∷ drop 1 (drop at (take count xs))
  edit_same r lt =
      take-set-lt count xs at r lt ∙ set_split (take count xs) at r (rw (length-take-le count xs le) lt)
      ∙ ap (λ t. take at (take count xs) ++ r ∷ t) (sym (drop-drop 1 at (take count xs) ∙ ap (λ n. drop n (take count xs)) (add-one at)))

  -- the first m of n rows that are moved
  pasted : (to m n : ℕ) (ss : List X) → to ≤ length xs → n ≤ length ss → m ≤ n → take (to + m) (paste xs to ss n) ≡ take to xs ++ take m ss
  pasted to m n ss a s l =
      sym (take-take (to + m) (to + n) (paste xs to ss n) (omega arith))
      ∙ ap (take (to + m)) (take-paste xs to ss n a s)
      ∙ ap (λ k. take (k + m) (take to xs ++ take n ss)) (sym (length-take-le to xs a))
      ∙ take-append-add (take to xs) (take n ss) m
      ∙ ap (λ t. take to xs ++ t) (take-take m n ss l)

  -- n rows from `at` on, all the used ones among them, moved one place up, and a row written there
  edit_new : (r : X) (n : ℕ) → at ≤ count → count - at ≤ n → at + 1 + n ≤ length xs → take (count + 1) (set (paste xs (at + 1) (drop at xs) n) at r) ≡ take at (take count xs) ++ r ∷ drop at (take count xs)
  edit_new r n l m h =
      let ts = take (count - at) (drop at xs) in
      let to : count + 1 ≡ at + 1 + (count - at) = omega arith in
      let long : n ≤ length (drop at xs) = rw (length-drop at xs) (omega arith) in
      take-set-lt (count + 1) (paste xs (at + 1) (drop at xs) n) at r (omega arith)
      ∙ ap (λ t. set t at r) (ap (λ m. take m (paste xs (at + 1) (drop at xs) n)) to ∙ pasted (at + 1) (count - at) n (drop at xs) (omega arith) long m)
      ∙ set-append_left (take (at + 1) xs) ts at r (rw (length-take-le (at + 1) xs (omega arith)) (omega arith))
      ∙ ap (λ t. t ++ ts) (sym (take-set-lt (at + 1) xs at r (omega arith)) ∙ take_more_set xs at r (omega arith))
      ∙ append_assoc (take at xs) (r ∷ []) ts
      ∙ ap (λ t. take at xs ++ r ∷ t) (between_is xs at count)
      ∙ ap (λ t. t ++ r ∷ drop at (take count xs)) (sym (take-take at count xs l))

  -- n rows behind `at`, all the used ones among them, moved one place down
  edit_out : (n : ℕ) → at < count → count - (at + 1) ≤ n → at + 1 + n ≤ length xs → take (count - 1) (paste xs at (drop (at + 1) xs) n) ≡ take at (take count xs) ++ drop 1 (drop at (take count xs))
  edit_out n lt m h =
      let to : count - 1 ≡ at + (count - (at + 1)) = omega arith in
      let long : n ≤ length (drop (at + 1) xs) = rw (length-drop (at + 1) xs) (omega arith) in
      ap (λ m. take m (paste xs at (drop (at + 1) xs) n)) to
      ∙ pasted at (count - (at + 1)) n (drop (at + 1) xs) (omega arith) long m
      ∙ ap (λ t. take at xs ++ t) (between_is xs (at + 1) count ∙ sym (drop-drop 1 at (take count xs)))
      ∙ ap (λ t. t ++ drop 1 (drop at (take count xs))) (sym (take-take at count xs (omega arith)))

-- `count` rows of xs are the first `used` of them, as far as there are so many
module _ {X : Type 0} (xs : List X) (used count : ℕ) (le : count ≤ length xs) (same : take count xs ≡ take used xs) where
  long : length (take used xs) ≡ count
  long = ap length (sym same) ∙ length-take-le count xs le

  holds : (rows : List X) (n : ℕ) (f : List X → List X) → n ≤ length rows → take n rows ≡ f (take count xs) → Holds rows n (f (take used xs))
  holds rows n f w e = record { within = w; is = e ∙ ap f same }

  pub takes_out : (at n : ℕ) → at < length (take used xs) → count - (at + 1) ≤ n → n ≤ length xs - (at + 1)
      → Holds (paste xs at (drop (at + 1) xs) (at + 1 + n - (at + 1))) (count - 1) (take at (take used xs) ++ drop 1 (drop at (take used xs)))
  takes_out at n l m h =
      let lt : at < count = omega (arith, long) in
      let same : n ≡ at + 1 + n - (at + 1) = omega arith in
      let e : length (paste xs at (drop (at + 1) xs) n) ≡ length xs = length-paste xs at (drop (at + 1) xs) n (omega arith) (rw (length-drop (at + 1) xs) (omega arith)) in
      subst (λ k. Holds (paste xs at (drop (at + 1) xs) k) (count - 1) (take at (take used xs) ++ drop 1 (drop at (take used xs)))) same
      (holds _ (count - 1) (λ zs. take at zs ++ drop 1 (drop at zs)) (omega (arith, e)) (edit_out xs count at le n lt m (omega arith)))

  module _ {K : Type 0} (key : X → K) (before : K → K → Bool) (r : X) (at : ℕ) where
    -- the rows around a row that is put in the place of another, or between two
    around : (there : Bool) (ys : List X) → Found key before (key r) (take used xs) there at → ys ≡ past key before (key r) (drop at (take used xs)) → take at (take used xs) ++ r ∷ ys ≡ entered key before r (take used xs)
    around there ys f e =
        let zs = take used xs in
        ap (λ t. take at zs ++ r ∷ t) e ∙ ap (λ p. take p zs ++ r ∷ past key before (key r) (drop p zs)) f.is

    pub replaces : Found key before (key r) (take used xs) true at → Holds (set xs at r) count (entered key before r (take used xs))
    replaces f =
        let lt : at < count = omega (arith, f.within, long) in
        let h = holds (set xs at r) count (λ zs. take at zs ++ r ∷ drop 1 (drop at zs)) (rw (length-set xs at r) le) (edit_same xs count at le r lt) in
        record { within = h.within; is = h.is ∙ around true _ f (sym (past_held key before (key r) _ f.held)) }

    pub inserts : (n : ℕ) → count < length xs → count - at ≤ n → n ≤ length xs - 1 - at → Found key before (key r) (take used xs) false at
        → Holds (set (paste xs (at + 1) (drop at xs) (at + n - at)) at r) (count + 1) (entered key before r (take used xs))
    inserts n c m w f =
        let l : at ≤ count = omega (arith, f.within, long) in
        let same : n ≡ at + n - at = omega arith in
        let p = paste xs (at + 1) (drop at xs) n in
        let e : length (paste xs (at + 1) (drop at xs) n) ≡ length xs = length-paste xs (at + 1) (drop at xs) n (omega arith) (rw (length-drop at xs) (omega arith)) in
        let h = holds (set p at r) (count + 1) (λ zs. take at zs ++ r ∷ drop at zs) (omega (arith, e, length-set p at r)) (edit_new xs count at le r n l m (omega arith)) in
        subst (λ k. Holds (set (paste xs (at + 1) (drop at xs) k) at r) (count + 1) (entered key before r (take used xs))) same
        (record { within = h.within; is = h.is ∙ around false _ f (sym (past_none key before (key r) _ f.held)) })
