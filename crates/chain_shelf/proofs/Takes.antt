-- A packet that is taken out.
use Rattle.std.proofs.Common.{◌≡◌, ℕ, ◌+◌, ◌-◌, ◌/◌, ◌<◌, ◌≤◌, ◌⊎◌, List, [], ◌∷◌, ◌++◌, length, sym, ap, ◌∙◌, subst, inl, arith}
use Rattle.chain_shelf.specs.Records.{Mem, mem, records, link, next, number, size, tail, span, walk, cnt, heads, Apart, under, last}
use Rattle.shelf.specs.Store.{units, Up, Sized, remove}
use Rattle.chain_shelf.specs.Chain.{pack, layout, packets, tally, loose, packs, held, spent, free, Seg, Sound, Before, TakenOut}
use Rattle.chain_shelf.proofs.Counts.{cnt_append, tally_append, layout_append, packets_append, ahead_last, walk_split, walk_keep, walk_turn, last_in, last_link, loose_append, loose_keep}
use Rattle.chain_shelf.proofs.Frames.{link_same, pack_length}
use Rattle.chain_shelf.proofs.Segs.{seg_out, seg_from, seg_end, last_append}
use Rattle.shelf.proofs.Kept.{up_remove, sized_remove, units_remove}
use Rattle.chain_shelf.proofs.Places.{place, remove_place, lookup_place, rest, under_rest, under_over, under_same, under_behind}
use Rattle.chain_shelf.proofs.Sides.{halves, loose_halves, heads_apart, before_same, behind_same}
use Rattle.chain_shelf.proofs.Sounds.{sound_of}

module _ (b d : List ℕ) (k h : ℕ) (B : List ℕ) (s : Sound b) (len : length d ≡ length b) (is : rest (mem b) k (heads b) ≡ h ∷ B) (num : number (mem b) h ≡ k)
    (to : TakenOut (mem b) (mem d) (last 0 (under (mem b) k (heads b))) h (last h (walk (link (mem b)) (span 10 (size (mem b) h)) h))) where
  abbrev m : Mem
  m = mem b

  abbrev n : ℕ
  n = span 10 (size m h)

  abbrev X : List ℕ
  X = walk (link m) n h

  abbrev w : Mem
  w = mem d

  abbrev A : List ℕ
  A = under m k (heads b)

  abbrev l : ℕ
  l = last h X

  abbrev F : ℕ
  F = records b - 1 - spent b

  abbrev Y : List ℕ
  Y = free b

  abbrev sum : ℕ → ℕ
  sum q = tally q (layout m A) + tally q (layout m B) + (cnt q X + cnt q Y)

  sum_is : (q : ℕ) → tally q (packs b) + cnt q (free b) ≡ sum q
  sum_is q = let e = halves b k q in let f = ap (λ t. tally q (layout m t)) is in omega arith

  once : (q : ℕ) → sum q ≤ 1
  once q = omega (arith, sum_is q, s.once q)

  inside : (q : ℕ) → 0 < sum q → (0 < q) × (q < records b)
  inside q x = s.inside q (omega (arith, sum_is q))

  l_in : 0 < cnt l X
  l_in = last_in h (walk (link m) ((size m h - 54 + 61) / 62) (link m h))

  not_l : (t : ℕ) → cnt t X ≡ 0 → t ≡ l → ⊥
  not_l t x e = let y = l_in in let z = ap (λ u. cnt u X) e in omega arith

  others : (t q : ℕ) → q < 64 → 0 < t → cnt t X ≡ 0 → (t ≡ last 0 A → (q < 2) ⊎ (4 ≤ q)) → w t q ≡ m t q
  others t q j i x y = to.others t q j (λ e. absurd (omega arith)) (λ e. absurd (not_l t x e)) y

  a_same : layout w A ≡ layout m A
  a_same = before_same m w (records b) A B X Y once inside others

  b_same : layout w B ≡ layout m B
  b_same = behind_same m w (records b) A B X Y once inside others

  laid : layout w (A ++ B) ≡ layout m A ++ layout m B
  laid = layout_append w A B ∙ (λ i. a_same i ++ b_same i)

  goes_out : packets (layout m A ++ layout m B) ≡ remove k (held b)
  goes_out = packets_append (layout m A) (layout m B) ∙ sym (remove_place m k (heads b) h B is num)

  next_same : (t : ℕ) → (t ≡ last 0 A → ⊥) → next w t ≡ next m t
  next_same t y = cc (to.others t 2 (omega arith) (λ _. (omega arith, omega arith)) (λ _. omega arith) (λ e. absurd (y e)), to.others t 3 (omega arith) (λ _. (omega arith, omega arith)) (λ _. omega arith) (λ e. absurd (y e)))

  link_kept : (t : ℕ) → 0 < sum t → (t ≡ l → ⊥) → link w t ≡ link m t
  link_kept t x y =
      let i = (inside t x).0 in
      link_same m w t (to.others t 0 (omega arith) (λ e. absurd (omega arith)) (λ e. absurd (y e)) (λ _. inl (omega arith))) (to.others t 1 (omega arith) (λ e. absurd (omega arith)) (λ e. absurd (y e)) (λ _. inl (omega arith)))

  split : heads b ≡ A ++ h ∷ B
  split = sym (place m k (heads b)) ∙ ap (λ t. A ++ t) is

  was : Seg (next m) 0 (A ++ h ∷ B)
  was = subst (Seg (next m) 0) split s.chain

  ends : tail w ≡ last 0 (A ++ B)
  ends =
      to.ends ∙ seg_end (next m) h (last 0 A) h B (tail m) (seg_from (next m) 0 A (h ∷ B) was).2 (s.ends ∙ ap (last 0) split ∙ last_append 0 A (h ∷ B))
      ∙ sym (last_append 0 A B)

  chain : Seg (next w) 0 (A ++ B)
  chain =
      seg_out (next m) (next w) 0 A B h was (subst (λ t. Apart (0 ∷ t)) split (heads_apart b s)) to.prev (λ t _ y. next_same t y)

  turned : walk (link w) n h ≡ X
  turned = walk_turn (link m) (link w) ((size m h - 54 + 61) / 62) h (λ q. let o = once q in omega arith) (λ t x y. link_kept t (omega arith) y)

  free_kept : (t : ℕ) → 0 < cnt t Y → link w t ≡ link m t
  free_kept t x = link_kept t (omega arith) (not_l t (let o = once t in omega arith))

  marked : loose w (layout m A ++ layout m B) + link w (last 0 (X ++ Y)) ≡ 0
  marked =
      let a = loose_keep m w A (λ t x. link_kept t (omega arith) (not_l t (let o = once t in omega arith))) in
      let c = loose_keep m w B (λ t x. link_kept t (omega arith) (not_l t (let o = once t in omega arith))) in
      let f = ap (link w) (last_append 0 X Y) ∙ last_link (link m) (link w) l 0 Y to.back free_kept in
      omega (arith, s.marked, loose_halves b k ∙ ap (λ t. loose m (layout m A) + loose m (layout m t)) is, loose_append w (layout m A) (layout m B))

  freed : walk (link w) (n + F) (link w 0) ≡ X ++ Y
  freed =
      ap (walk (link w) (n + F)) to.free ∙ walk_split (link w) n F h
      ∙ (λ i. turned i ++ walk (link w) F ((ahead_last (link w) ((size m h - 54 + 61) / 62) h ∙ ap (λ t. link w (last h t)) turned ∙ to.back) i))
      ∙ ap (λ t. X ++ t) (walk_keep (link m) (link w) F (link m 0) free_kept)

  take_sound : Sound d × (held d ≡ remove k (held b)) × (heads d ≡ A ++ B)
  take_sound =
      let R : records d ≡ records b = ap (λ t. t / 64) len in
      let L = layout m A ++ layout m B in
      let g = s.room in
      let z : span 10 (length (pack m h).1) ≡ n = ap (span 10) (pack_length m h) in
      let v = units_remove (span 10) k (held b) (pack m h).1 (lookup_place m k (heads b) h B is num) in
      let u : n + units (span 10) (packets L) ≡ spent b = ap (λ t. n + units (span 10) t) goes_out ∙ ap (λ t. t + units (span 10) (remove k (held b))) (sym z) ∙ v in
      let f : walk (link w) (records d - 1 - units (span 10) (packets L)) (link w 0) ≡ X ++ Y =
      let e : records d - 1 - units (span 10) (packets L) ≡ n + F = omega arith in
      ap (λ t. walk (link w) t (link w 0)) e ∙ freed in
      let c : (q : ℕ) → tally q L + cnt q (X ++ Y) ≡ sum q = λ q. let e = tally_append q (layout m A) (layout m B) in let a = cnt_append q X Y in omega arith in
      let y = sound_of d (A ++ B) L (X ++ Y) chain laid (omega arith) f
      (λ q. omega (arith, c q, once q)) (λ q x. let i = inside q (omega (arith, c q)) in (i.0, omega (arith, i.1))) marked ends
      (let i = s.counted in let j = to.counted in omega arith)
      (subst (Up 0) (sym goes_out) (up_remove 0 k (held b) s.rising))
      (subst Sized (sym goes_out) (sized_remove k (held b) s.sized)) in
      (y.0, y.1 ∙ goes_out, y.2)

  -- what comes before a number that is not above k stays
  take_near : (j p : ℕ) → j ≤ k → Before b j p → Before d j p
  take_near j p l before =
      let n : under w j B ≡ [] = under_same m w j B b_same ∙ under_behind m j k 0 (heads b) h B s.rising is num l in
      let e = ap (under w j) take_sound.2 ∙ under_over w j A B n ∙ under_same m w j A a_same ∙ sym (under_over m j A (rest m k (heads b)) (under_rest m j k (heads b) l)) ∙ ap (under m j) (place m k (heads b)) in
      record { is = before.is ∙ sym (ap (last 0) e); within = omega (arith, before.within, ap (λ t. t / 64) len) }

  pub take_done : Sound d × (held d ≡ remove k (held b)) × ((j p : ℕ) → j ≤ k → Before b j p → Before d j p)
  take_done = (take_sound.0, take_sound.1, take_near)
