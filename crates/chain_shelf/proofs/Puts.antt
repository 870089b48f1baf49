-- A packet that is laid in.
use Rattle.std.proofs.Common.{◌≡◌, ℕ, ◌+◌, ◌-◌, ◌/◌, ◌^◌, ◌<◌, ◌≤◌, ◌⊎◌, false, List, [], ◌∷◌, ◌++◌, length, sym, ap, ◌∙◌, subst, ⊎_elim, arith}
use Rattle.std.proofs.lemmas.Bool.{cases_eq}
use Rattle.chain_shelf.specs.Records.{Mem, mem, records, link, next, size, tail, span, walk, gather, cnt, heads, Apart, Inside, under, last}
use Rattle.shelf.specs.Store.{units, Up, Sized, has, insert}
use Rattle.chain_shelf.specs.Chain.{pack, layout, packets, tally, loose, packs, held, spent, free, Seg, Sound, Before, LaidIn}
use Rattle.chain_shelf.proofs.Fills.{hit_not, cnt_first}
use Rattle.chain_shelf.proofs.Counts.{cnt_append, tally_append, layout_append, packets_append, ahead, ahead_last, walk_split, walk_keep, walk_turn, last_in, last_link, loose_append, loose_keep}
use Rattle.chain_shelf.proofs.Frames.{heads_tally}
use Rattle.chain_shelf.proofs.Segs.{seg_in, seg_from, seg_end, last_append}
use Rattle.shelf.proofs.Kept.{up_insert, sized_insert, units_insert}
use Rattle.chain_shelf.proofs.Places.{place, insert_place, rest, under_rest, under_over, under_same}
use Rattle.chain_shelf.proofs.Sides.{halves, loose_halves, last_of, none_at, heads_apart, before_same, behind_same}
use Rattle.chain_shelf.proofs.Sounds.{sound_of}
use Rattle.chain_shelf.proofs.Trails.{under_none}

module _ (b d : List ℕ) (k : ℕ) (xs : List ℕ) (s : Sound b) (len : length d ≡ length b) (lo : 16 ≤ length xs) (hi : length xs ≤ 1500) (absent : has (held b) k ≡ false) (wide : k < 2 ^ 32)
    (fits : spent b + span 10 (length xs) ≤ records b - 1)
    (li : LaidIn (mem b) (mem d) (last 0 (under (mem b) k (heads b))) k xs) where
  abbrev m : Mem
  m = mem b

  abbrev w : Mem
  w = mem d

  abbrev A : List ℕ
  A = under m k (heads b)

  abbrev B : List ℕ
  B = rest m k (heads b)

  abbrev r : ℕ
  r = link m 0

  abbrev n : ℕ
  n = span 10 (length xs)

  abbrev X : List ℕ
  X = walk (link m) n r

  abbrev F : ℕ
  F = records b - 1 - spent b - n

  abbrev Y : List ℕ
  Y = walk (link m) F (ahead (link m) n r)

  abbrev sum : ℕ → ℕ
  sum q = tally q (layout m A) + tally q (layout m B) + (cnt q X + cnt q Y)

  free_is : free b ≡ X ++ Y
  free_is = let e : records b - 1 - spent b ≡ n + F = omega arith in ap (λ t. walk (link m) t r) e ∙ walk_split (link m) n F r

  sum_is : (q : ℕ) → tally q (packs b) + cnt q (free b) ≡ sum q
  sum_is q = let e = halves b k q in let f = ap (cnt q) free_is ∙ cnt_append q X Y in omega arith

  once : (q : ℕ) → sum q ≤ 1
  once q = omega (arith, sum_is q, s.once q)

  inside : (q : ℕ) → 0 < sum q → (0 < q) × (q < records b)
  inside q l = s.inside q (omega (arith, sum_is q))

  others : (t q : ℕ) → q < 64 → 0 < t → cnt t X ≡ 0 → (t ≡ last 0 A → (q < 2) ⊎ (4 ≤ q)) → w t q ≡ m t q
  others t q l i x y = li.others t q l x (λ e. absurd (omega arith)) y

  a_same : layout w A ≡ layout m A
  a_same = before_same m w (records b) A B X Y once inside others

  b_same : layout w B ≡ layout m B
  b_same = behind_same m w (records b) A B X Y once inside others

  stop_in : 0 < cnt (last 0 X) X
  stop_in = last_in r (walk (link m) ((length xs - 54 + 61) / 62) (link m r))

  links_kept : (t : ℕ) → 0 < sum t → (t ≡ last 0 X → ⊥) → link w t ≡ link m t
  links_kept t l y = li.links t (λ e. let i = (inside t l).0 in omega arith) y

  not_stop : (t : ℕ) → cnt t X ≡ 0 → t ≡ last 0 X → ⊥
  not_stop t x e = let y = stop_in in let z = ap (λ u. cnt u X) e in omega arith

  new : pack w r ≡ (k, xs, X)
  new =
      let z = li.sized in
      let g : gather w (span 10 (size w r)) r 10 (size w r) ≡ xs = ap (λ t. gather w (span 10 t) r 10 t) z ∙ li.bytes in
      let v : walk (link w) (span 10 (size w r)) r ≡ X = ap (λ t. walk (link w) (span 10 t) r) z ∙ walk_turn (link m) (link w) ((length xs - 54 + 61) / 62) r (λ q. let o = once q in omega arith) (λ t l y. links_kept t (omega arith) y) in
      λ i. (li.numbered i, g i, v i)

  laid : layout w (A ++ r ∷ B) ≡ layout m A ++ (k, xs, X) ∷ layout m B
  laid = layout_append w A (r ∷ B) ∙ (λ i. a_same i ++ new i ∷ b_same i)

  goes_in : packets (layout m A ++ (k, xs, X) ∷ layout m B) ≡ insert k xs (held b)
  goes_in = packets_append (layout m A) ((k, xs, X) ∷ layout m B) ∙ sym (insert_place m k xs (heads b) absent)

  r_in : 0 < cnt r X
  r_in = cnt_first r (walk (link m) ((length xs - 54 + 61) / 62) (link m r))

  next_same : (t : ℕ) → cnt t X ≡ 0 → (t ≡ last 0 A → ⊥) → next w t ≡ next m t
  next_same t x y = cc (li.others t 2 (omega arith) x (λ _. (omega arith, omega arith)) (λ e. absurd (y e)), li.others t 3 (omega arith) x (λ _. (omega arith, omega arith)) (λ e. absurd (y e)))

  not_new : (t : ℕ) → 0 < cnt t (0 ∷ (A ++ B)) → cnt t X ≡ 0
  not_new t l =
      let c = cnt_append t A B in
      let u = heads_tally m A t in
      let v = heads_tally m B t in
      let o = once t in
      ⊎_elim (λ (e : t ≡ 0). none_at (cnt t X) t (records b) (λ y. inside t (omega arith)) e) (λ (e : t ≡ 0 → ⊥). let z = hit_not t 0 e in omega arith) (cases_eq t 0)

  chain : Seg (next w) 0 (A ++ r ∷ B)
  chain = seg_in (next m) (next w) 0 A B r (subst (Seg (next m) 0) (sym (place m k (heads b))) s.chain) (subst (λ t. Apart (0 ∷ t)) (sym (place m k (heads b))) (heads_apart b s))
      (λ e. let i = (inside r (let l = r_in in omega arith)).0 in omega arith) li.prev li.after (λ t l y. next_same t (not_new t l) y)

  ends : tail w ≡ last 0 (A ++ r ∷ B)
  ends =
      let h = place m k (heads b) in
      li.ends
      ∙ seg_end (next m) (last 0 A) r (last 0 A) B (tail m) (seg_from (next m) 0 A B (subst (Seg (next m) 0) (sym h) s.chain)) (s.ends ∙ sym (ap (last 0) h) ∙ last_append 0 A B)
      ∙ sym (last_append 0 A (r ∷ B))

  marked : loose w (layout m A ++ (k, xs, X) ∷ layout m B) + link w (last 0 Y) ≡ 0
  marked =
      let a = loose_keep m w A (λ t l. links_kept t (omega arith) (not_stop t (let o = once t in omega arith))) in
      let c = loose_keep m w B (λ t l. links_kept t (omega arith) (not_stop t (let o = once t in omega arith))) in
      let f = last_link (link m) (link w) 0 (last 0 X) Y li.free (λ t l. links_kept t (omega arith) (not_stop t (let o = once t in omega arith))) ∙ ap (link m) (sym (ap (last 0) free_is ∙ last_append 0 X Y)) in
      omega (arith, s.marked, loose_halves b k, loose_append w (layout m A) ((k, xs, X) ∷ layout m B), li.mark)

  put_sound : Sound d × (held d ≡ insert k xs (held b)) × (heads d ≡ A ++ r ∷ B)
  put_sound =
      let R : records d ≡ records b = ap (λ t. t / 64) len in
      let L = layout m A ++ (k, xs, X) ∷ layout m B in
      let u : units (span 10) (packets L) ≡ n + spent b = ap (units (span 10)) goes_in ∙ units_insert (span 10) k xs (held b) in
      let f : walk (link w) (records d - 1 - units (span 10) (packets L)) (link w 0) ≡ Y =
      let e : records d - 1 - units (span 10) (packets L) ≡ F = omega arith in
      ap (λ t. walk (link w) t (link w 0)) e ∙ ap (walk (link w) F) (li.free ∙ sym (ahead_last (link m) ((length xs - 54 + 61) / 62) r))
      ∙ walk_keep (link m) (link w) F (ahead (link m) n r) (λ t l. links_kept t (omega arith) (not_stop t (let o = once t in omega arith))) in
      let c : (q : ℕ) → tally q L + cnt q Y ≡ sum q = λ q. let e = tally_append q (layout m A) ((k, xs, X) ∷ layout m B) in omega arith in
      let z = sound_of d (A ++ r ∷ B) L Y chain laid (let h = s.room in omega arith) f
      (λ q. omega (arith, c q, once q)) (λ q l. let i = inside q (omega (arith, c q)) in (i.0, omega (arith, i.1))) marked ends
      (let h = s.counted in let i = li.counted in omega arith)
      (subst (Up 0) (sym goes_in) (up_insert 0 k xs (held b) (omega arith) wide s.rising absent))
      (subst Sized (sym goes_in) (sized_insert k xs (held b) lo hi s.sized)) in
      (z.0, z.1 ∙ goes_in, z.2)

  -- what comes before a number that is not above k stays
  put_near : (j p : ℕ) → j ≤ k → Before b j p → Before d j p
  put_near j p l before =
      let n : under w j (r ∷ B) ≡ [] = under_none w j r B (omega (arith, li.numbered)) in
      let e = ap (under w j) put_sound.2 ∙ under_over w j A (r ∷ B) n ∙ under_same m w j A a_same ∙ sym (under_over m j A B (under_rest m j k (heads b) l)) ∙ ap (under m j) (place m k (heads b)) in
      record { is = before.is ∙ sym (ap (last 0) e); within = omega (arith, before.within, ap (λ t. t / 64) len) }

  pub put_done : Sound d × (held d ≡ insert k xs (held b)) × ((j p : ℕ) → j ≤ k → Before b j p → Before d j p)
  put_done = (put_sound.0, put_sound.1, put_near)

-- the first free records
module _ (b : List ℕ) (n : ℕ) (s : Sound b) (fits : spent b + n ≤ records b - 1) where
  free_first : (q : ℕ) → cnt q (walk (link (mem b)) n (link (mem b) 0)) ≤ cnt q (free b)
  free_first q =
      let e : records b - 1 - spent b ≡ n + (records b - 1 - spent b - n) = omega arith in
      let X = walk (link (mem b)) n (link (mem b) 0) in
      let Y = walk (link (mem b)) (records b - 1 - spent b - n) (ahead (link (mem b)) n (link (mem b) 0)) in
      let f : cnt q (free b) ≡ cnt q X + cnt q Y = ap (cnt q) (ap (λ t. walk (link (mem b)) t (link (mem b) 0)) e ∙ walk_split (link (mem b)) n (records b - 1 - spent b - n) (link (mem b) 0)) ∙ cnt_append q X Y in
      omega arith

  pub free_apart : Apart (walk (link (mem b)) n (link (mem b) 0))
  free_apart q = let f = free_first q in let o = s.once q in omega arith

  pub free_inside : Inside (records b) (walk (link (mem b)) n (link (mem b) 0))
  free_inside q l = let f = free_first q in s.inside q (omega arith)

  pub free_out : (k p : ℕ) → p ≡ last 0 (under (mem b) k (heads b)) → cnt p (walk (link (mem b)) n (link (mem b) 0)) ≡ 0
  free_out k p e =
      let f = free_first p in
      let o = s.once p in
      let h = halves b k p in
      let t = heads_tally (mem b) (under (mem b) k (heads b)) p in
      ⊎_elim (none_at (cnt p (walk (link (mem b)) n (link (mem b) 0))) p (records b) (λ y. s.inside p (omega arith)))
      (λ (z : p ≡ 0 → ⊥). let l = last_of p (under (mem b) k (heads b)) e z in omega arith) (cases_eq p 0)
