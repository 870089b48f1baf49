-- The first wrong byte of points that are looked at one by one.
use Rattle.std.proofs.Common.{◌≡◌, ℕ, ◌+◌, ◌-◌, ◌*◌, ◌/◌, ◌%◌, ◌<◌, ◌≤◌, Bool, true, false, List, [], ◌∷◌, Bor, MatchOption, length, get_or, Some, None, Option, refl, sym, ap, subst, ◌∙◌, inl, inr, arith, length-append, add-mul, one-mul}
use Rattle.std.specs.declared.iter.Enumerate.{Enumerate}
use Rattle.std.specs.declared.slice.ChunksExact.{ChunksExact}
use denote.Param.Members.{Mut}
use Rattle.std.specs.Fn.{Called}
use Rattle.std.specs.Iterator.{Yields}
use Rattle.std.specs.Iterator.Adapters.{enumerate_source, enumerate_count, enumerate_steps}
use Rattle.std.specs.Iterator.Runs.{Run, AllItems, AllItemsBelow, AllItemsGive, IsFirstToGive, CallKeepsClosure, ProjectsRun, IsChunksExactRun}
use Rattle.std.specs.Slice.Iter.{chunks_exact_rest, chunks_exact_size, chunks_exact_steps}
use Rattle.std.specs.List.{IsSubsliceAt}
use Rattle.std.specs.Option.{option_map, IfSome, IsSomeAnd}
use Rattle.std.proofs.lemmas.Bool.{cases_lt}
use Rattle.std.proofs.lemmas.Nat.{mod-mul-add}
use Rattle.std.proofs.Math.Nat.{div-add-mod', mod-lt, div-lt_iff_lt-mul}
use Rattle.wire.specs.Bytes.{first}
use Rattle.wire.specs.Reading.{wrong_in}
use Rattle.wire.proofs.Firsts.{Firsts, first_is_first, first_none, first_some}

-- the points of an iterator, each with its index
abbrev pub Indexed : Type 0
Indexed = Enumerate (ChunksExact ℕ)

abbrev pub Item : Type 0
Item = ℕ × Bor (List ℕ)

abbrev pub steps : Indexed → Option Item → Indexed → Type 0
steps = enumerate_steps (chunks_exact_steps {A = ℕ})

module _ (size total : ℕ) where
  -- the points so far and what is left are no more than all bytes
  pub record Reached (s : Indexed) : Type 0 where
    pub size_is : chunks_exact_size (enumerate_source s) ≡ size
    pub within : enumerate_count s * size + length (chunks_exact_rest (enumerate_source s)) ≤ total

  one_more : (i : ℕ) → (i + 1) * size ≡ i * size + size
  one_more i = add-mul i 1 size ∙ ap (λ (n : ℕ). i * size + n) (one-mul size)

  front : (s t : Indexed) (x : Item) → steps s (Some x) t → length (chunks_exact_rest (enumerate_source s)) ≡ length x.1.now + length (chunks_exact_rest (enumerate_source t))
  front s t x y = ap length y.0.1.0 ∙ length-append x.1.now (chunks_exact_rest (enumerate_source t))

  reached_next : (s t : Indexed) (x : Item) → Reached s → steps s (Some x) t → Reached t
  reached_next s t x v y =
      let n : enumerate_count t * size ≡ enumerate_count s * size + size = ap (λ (k : ℕ). k * size) y.2 ∙ one_more (enumerate_count s) in
      record { size_is = y.0.0 ∙ v.size_is; within = omega (arith, n, front s t x y, y.0.1.1, v.size_is, v.within) }

  reached : (xs : List Item) (s t : Indexed) → Reached s → Yields steps s xs t → Reached t
  reached [] s t v y = subst Reached y v
  reached (x ∷ xs) s t v y = reached xs y.0 t (reached_next s y.0 x v y.1) y.2

  -- a point that comes is whole, and lies within the bytes
  pub fits : (xs : List Item) (s t u : Indexed) (x : Item) → Reached s → Yields steps s xs t → steps t (Some x) u → (length x.1.now ≡ size) × (x.0 * size + size ≤ total)
  fits xs s t u x v y w =
      let r = reached xs s t v y in
      let e : x.0 * size ≡ enumerate_count t * size = ap (λ (k : ℕ). k * size) w.1 in
      (w.0.1.1 ∙ r.size_is, omega (arith, e, front t u x w, w.0.1.1, r.size_is, r.within))

module _ (size : ℕ) (wrong : ℕ → ℕ → Bool) (ps : List ℕ) where
  -- the bytes of the point of an index
  abbrev Cut : ℕ → List ℕ → Type 0
  Cut i x = (length x ≡ size) × (i * size + size ≤ length ps) × ((k : ℕ) → k < size → get_or x k 0 ≡ get_or ps (i * size + k) 0)

  abbrev Clean : List ℕ → Type 0
  Clean x = None ≡ first (λ k. wrong k (get_or x k 0)) size

  in_point : (i k : ℕ) (x : List ℕ) → Cut i x → k < size → wrong_in size wrong ps (i * size + k) ≡ wrong k (get_or x k 0)
  in_point i k x c l = let m : (i * size + k) % size ≡ k = mod-mul-add i size k l in rw (m, c.2 k l) refl

  -- no byte of the first points is wrong
  abbrev RightBelow : ℕ → Type 0
  RightBelow n = (i : ℕ) → i < n → (x : List ℕ) × Cut i x × Clean x

  right_at : (i k : ℕ) (x : List ℕ) → Cut i x → Clean x → k < size → wrong_in size wrong ps (i * size + k) ≡ false
  right_at i k x c e l =
      let P : Option ℕ → Type 0 = Firsts (λ j. wrong j (get_or x j 0)) size in
      in_point i k x c l ∙ subst P (sym e) (first_is_first (λ j. wrong j (get_or x j 0)) size) k l

  right_below : 0 < size → (n : ℕ) → RightBelow n → (k : ℕ) → k < n * size → wrong_in size wrong ps k ≡ false
  right_below p n h k l =
      let i : ℕ = k / size in
      let e : i * size + k % size ≡ k = div-add-mod' k size in
      let m : k % size < size = mod-lt k p in
      let b : i < n = (div-lt_iff_lt-mul p).1 l in
      let r = h i b in
      subst (λ (j : ℕ). wrong_in size wrong ps j ≡ false) e (right_at i (k % size) r.0 r.1 r.2 m)

  all_right : 0 < size → length ps % size ≡ 0 → RightBelow (length ps / size) → None ≡ first (wrong_in size wrong ps) (length ps)
  all_right p z h =
      let e : length ps / size * size + length ps % size ≡ length ps = div-add-mod' (length ps) size in
      sym (first_none (wrong_in size wrong ps) (length ps) (λ k b. right_below p (length ps / size) h k (omega (arith, e, z))))

  wrong_here : 0 < size → (i o : ℕ) (x : List ℕ) → Cut i x → RightBelow i → Some o ≡ first (λ k. wrong k (get_or x k 0)) size → Some (i * size + o) ≡ first (wrong_in size wrong ps) (length ps)
  wrong_here p i o x c h e =
      let P : Option ℕ → Type 0 = Firsts (λ k. wrong k (get_or x k 0)) size in
      let r = subst P (sym e) (first_is_first (λ k. wrong k (get_or x k 0)) size) in
      let before : (k : ℕ) → k < i * size + o → wrong_in size wrong ps k ≡ false =
      λ k l. elim (cases_lt k (i * size)) [
        | inl b ↦ right_below p i h k b
        | inr b ↦ let a : i * size + (k - i * size) ≡ k = omega arith in
            subst (λ (j : ℕ). wrong_in size wrong ps j ≡ false) a (in_point i (k - i * size) x c (omega (arith, r.0)) ∙ r.2 (k - i * size) (omega arith))
      ] in
      sym (first_some (wrong_in size wrong ps) (length ps) (i * size + o) (omega (arith, r.0, c.1)) (in_point i o x c r.0 ∙ r.1) before)

  -- what is found in a point
  abbrev found : Item → Option ℕ
  found x = option_map (λ k. x.0 * size + k) (first (λ k. wrong k (get_or x.1.now k 0)) size)

  none_found : (i : ℕ) (o : Option ℕ) → None ≡ option_map (λ k. i * size + k) o → None ≡ o
  none_found i None e = refl
  none_found i (Some k) e = cc

  some_found : (i y : ℕ) (o : Option ℕ) → Some y ≡ option_map (λ k. i * size + k) o → (k : ℕ) × (Some k ≡ o) × (Some y ≡ Some (i * size + k))
  some_found i y None e = cc
  some_found i y (Some k) e = (k, refl, e)

  module _ (p : Run steps) (q : Run (chunks_exact_steps {A = ℕ})) (indexed : (k : ℕ) → IfSome (p.at k) (λ x. x.0 ≡ k)) (of : ProjectsRun p q (λ x. x.1)) (cut : IsChunksExactRun q size ps) where
    item_from : (items : List Item) → ((k : ℕ) (d : Item) → k < length items → option_map (λ y. y) (p.at k) ≡ Some (get_or items k d)) → (k : ℕ) (o : Option Item) → p.at k ≡ o → k < length items → (x : Item) × (p.at k ≡ Some x)
    item_from items h k (Some x) e l = (x, e)
    item_from [] h k None e l = absurd (omega (arith, l))
    item_from (d ∷ ds) h k None e l = let n = h k d l in cc

    item_at : (k : ℕ) → k < p.len → (x : Item) × (p.at k ≡ Some x)
    item_at k l = item_from p.items (λ j d b. p.reads j d (omega (arith, p.long, b))) k (p.at k) refl (omega (arith, p.long, l))

    cut_at : (k : ℕ) (x : Item) → p.at k ≡ Some x → (x.0 ≡ k) × Cut k x.1.now
    cut_at k x e =
        let i = subst (λ (o : Option Item). IfSome o (λ z. z.0 ≡ k)) e (indexed k) in
        let w = subst (λ (o : Option (Bor (List ℕ))). IfSome o (λ z. (length z.now ≡ size) × (k * size + size ≤ length ps) × IsSubsliceAt size ps (k * size) z.now))
        (of.2 k ∙ ap (option_map (λ (z : Item). z.1)) e) (cut.2 k) in
        (i, (w.0, w.1, λ j l. w.2.2 j 0 l))

    module _ (R : Item → Option ℕ → Type 0) (tells : (x : Item) (r : Option ℕ) → R x r → r ≡ found x) where
      clean_at : (k : ℕ) → k < p.len → ((x : Item) → p.at k ≡ Some x → R x None) → (x : List ℕ) × Cut k x × Clean x
      clean_at k l h =
          let x = item_at k l in
          let c = cut_at k x.0 x.1 in
          (x.0.1.now, c.1, none_found x.0.0 _ (tells x.0 None (h x.0 x.1)))

      none_is : 0 < size → length ps % size ≡ 0 → p.whole ≡ true → q.whole ≡ p.whole → AllItems p (λ x. R x None) → None ≡ first (wrong_in size wrong ps) (length ps)
      none_is z m w v h =
          let n : length ps / size ≡ p.len = sym (sym of.0 ∙ cut.1 (v ∙ w)) in
          all_right z m (λ k l. clean_at k (omega (arith, n, l)) (λ x e. subst (λ (o : Option Item). IfSome o (λ z. R z None)) e (h k)))

      some_is : 0 < size → (y i : ℕ) → i < p.len → IsSomeAnd (p.at i) (λ x. R x (Some y)) → AllItemsBelow p i (λ x. R x None) → Some y ≡ first (wrong_in size wrong ps) (length ps)
      some_is z y i l s h =
          let x = item_at i l in
          let c = cut_at i x.0 x.1 in
          let f : (k : ℕ) × (Some k ≡ first (λ j. wrong j (get_or x.0.1.now j 0)) size) × (Some y ≡ Some (x.0.0 * size + k)) =
          some_found x.0.0 y _ (tells x.0 (Some y) (subst (λ (o : Option Item). IsSomeAnd o (λ z. R z (Some y))) x.1 s)) in
          let b : RightBelow i = λ k b. clean_at k (omega (arith, l, b)) (λ w e. subst (λ (o : Option Item). IsSomeAnd o (λ z. R z None)) e (h k b)) in
          f.2 ∙ (ap (λ (j : ℕ). Some (j * size + f.0)) c.0 ∙ wrong_here z i f.0 x.0.1.now c.1 b f.1)

    -- what `find_map` says of a run of all points, or of the points up to the first that is wrong
    pub answered : {F : Type 0} (g : Mut F (Item × Unit {0}) (Option ℕ)) (f : F) (r : Option ℕ) →
        MatchOption r ((p.whole ≡ true) × AllItemsGive p g f None) (λ y. (i : ℕ) × (i < p.len) × (p.len ≡ i + 1) × IsFirstToGive p g f (Some y) None i)
        → CallKeepsClosure g f → ((x : Item) (o : Option ℕ) → Called g f (x, tt) o f → o ≡ found x) → 0 < size → length ps % size ≡ 0 → q.whole ≡ p.whole
        → r ≡ first (wrong_in size wrong ps) (length ps)
    answered g f None h k tells z m v = none_is (λ x o. Called g f (x, tt) o f) tells z m h.0 v (h.1 k)
    answered g f (Some y) h k tells z m v = let w = h.3 k in some_is (λ x o. Called g f (x, tt) o f) tells z y h.0 h.1 w.0 w.1
