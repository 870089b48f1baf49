-- A level laid down behind all levels of its side.
use Rattle.std.proofs.Common.{◌≡◌, ℕ, ◌+◌, ◌-◌, ◌<◌, ◌≤◌, Bool, true, false, not, ◌&&◌, eqb, List, [], ◌∷◌, ◌++◌, length, take, set, Some, None, Option, sym, refl, ap, ◌∙◌, subst, arith, rules}
use Rattle.std.specs.List.{slice_get}
use Rattle.std.specs.Iterator.{YieldsFirst}
use Rattle.std.proofs.lemmas.Bool.{cond-true, cond-false, both_ways, le-leb}
use Rattle.std.proofs.lemmas.List.{take_more_set, length-append, length-take-le}
use Rattle.wire.specs.declared.point.Side.{Side}
use Rattle.wire.specs.declared.point.Side.TheVariants.{Buy, Sell}
use Rattle.rank.specs.Rows.{Sorted, inserted}
use Rattle.rank.proofs.Numbers.{rising_transitive}
use Rattle.book_model.specs.declared.level.Level.{Level}
use Rattle.book_model.specs.declared.level.Point.{Point}
use Rattle.book_model.specs.Levels.{price_of, before, changed}
use Rattle.book_model.specs.Entering.{Known, levels, with_levels, put, filled}
use Rattle.books.specs.Laying.{after, behind, pending}
use Rattle.book_model.proofs.Sides.{side_laws, levels_with, with_with, whole_with}

side_transitive : (s : Side) (a b c : ℕ) → before s a b ≡ true → before s b c ≡ true → before s a c ≡ true
side_transitive Buy a b c p q = rising_transitive c b a q p
side_transitive Sell a b c p q = rising_transitive a b c p q

-- a level after the last of levels in order is after each of them, and is entered behind them
after_last : (s : Side) (l x : Level) (xs : List Level) → Sorted price_of (before s) (x ∷ xs) → after s l (slice_get (x ∷ xs) (length xs)) ≡ true
    → (before s x.price l.price ≡ true) × (inserted price_of (before s) l (x ∷ xs) ≡ (x ∷ xs) ++ l ∷ [])
after_last s l x [] o a = (a, rw a refl)
after_last s l x (y ∷ ys) o a =
    let h = after_last s l y ys o.1 a in
    let t = side_transitive s x.price y.price l.price o.0 h.0 in
    (t, rw t (ap (λ zs. x ∷ zs) h.1))

inserted_behind : (s : Side) (l : Level) (xs : List Level) → Sorted price_of (before s) xs → after s l (slice_get xs (length xs - 1)) ≡ true → inserted price_of (before s) l xs ≡ xs ++ l ∷ []
inserted_behind s l [] o a = refl
inserted_behind s l (x ∷ xs) o a = (after_last s l x xs o (subst (λ n. after s l (slice_get (x ∷ xs) n) ≡ true) (omega arith) a)).1

-- what the test of a level says
tested : (v : Bool) (a : Bool) → (not v && a) ≡ true → (v ≡ false) × (a ≡ true)
tested true a e = absurd (both_ways false refl e)
tested false a e = (refl, e)

module _ (s : Side) (l : Level) (xs : List Level) (o : Sorted price_of (before s) xs) (b : behind s l xs ≡ true) where
  told_behind : changed price_of (before s) l xs ≡ xs ++ l ∷ []
  told_behind = let t = tested (eqb l.volume 0) _ b in cond-false _ _ _ t.0 ∙ inserted_behind s l xs o t.1

  still_sorted : Sorted price_of (before s) (xs ++ l ∷ [])
  still_sorted = let t = tested (eqb l.volume 0) _ b in subst (Sorted price_of (before s)) (inserted_behind s l xs o t.1) ((side_laws s).inserted_sorted l xs o)

-- a point of a side, behind all its levels, where there is room for one more
module _ (s : Side) (d used : ℕ) (rows : List Level) (l : Level) (at : used < length rows) (e : length rows ≡ d) (o : Sorted price_of (before s) (take used rows)) (b : behind s l (take used rows) ≡ true) where
  one_more : take (used + 1) (set rows used l) ≡ take used rows ++ l ∷ []
  one_more = take_more_set rows used l at

  pub laid_sorted : Sorted price_of (before s) (take (used + 1) (set rows used l))
  laid_sorted = subst (Sorted price_of (before s)) (sym one_more) (still_sorted s l (take used rows) o b)

  put_behind : (k : Known) → put s l (with_levels s (take used rows) k) ≡ with_levels s (take (used + 1) (set rows used l)) k
  put_behind k =
      ap (λ zs. with_levels s (changed price_of (before s) l zs) (with_levels s (take used rows) k)) (levels_with s (take used rows) k)
      ∙ with_with s (take used rows) _ k
      ∙ ap (λ zs. with_levels s zs k) (told_behind s l (take used rows) o b ∙ sym one_more)

  pub laid : (ps : List Point) (k : Known) → k.whole ≡ true
      → filled d (record { side = s; level = l } ∷ ps) (with_levels s (take used rows) k) ≡ filled d ps (with_levels s (take (used + 1) (set rows used l)) k)
  laid ps k w =
      let kept = with_levels s (take used rows) k in
      let more = with_levels s (take (used + 1) (set rows used l)) k in
      let few : length (levels s (put s l kept)) ≤ d =
      omega (arith, e, at, ap (λ k. length (levels s k)) (put_behind k), ap length (levels_with s (take (used + 1) (set rows used l)) k), ap length one_more, length-append (take used rows) (l ∷ []), length-take-le used rows (omega arith)) in
      cond-true kept.whole _ _ (whole_with s (take used rows) k ∙ w)
      ∙ ap (filled d ps) (cond-true _ _ _ (le-leb _ d few) ∙ put_behind k)

-- what is left once the next point is taken
pub taken_next : {P : Type 0} (left next : List P) (p : Option P) → YieldsFirst (λ s. s) left p next → pending p next ≡ left
taken_next left next None y = search rules
taken_next left next (Some p) y = sym y
