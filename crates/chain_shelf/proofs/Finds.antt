-- What a search of the chain of packets finds.
use Rattle.std.proofs.Common.{◌≡◌, ℕ, suc, ◌+◌, ◌-◌, ◌/◌, ◌<◌, ◌≤◌, true, eqb, List, [], ◌∷◌, length, Some, sym, refl, ap, ◌∙◌, subst, arith}
use Rattle.std.proofs.lemmas.Bool.{eqb-true, both_ways}
use Rattle.std.proofs.lemmas.Bool.Decides.{nat_tests}
use Rattle.chain_shelf.specs.Records.{Mem, mem, records, link, next, number, size, tail, span, walk, cnt, heads, Inside, under, last}
use Rattle.shelf.specs.Store.{Packets, Up, Sized, has, lookup}
use Rattle.chain_shelf.specs.Chain.{pack, layout, packets, tally, packs, held, Seg, Sound, Kept, Before}
use Rattle.chain_shelf.proofs.Fills.{cnt_first}
use Rattle.chain_shelf.proofs.Frames.{heads_tally, pack_length}
use Rattle.chain_shelf.proofs.Segs.{first, seg_from, seg_first, below_from, below_last, Below}
use Rattle.chain_shelf.proofs.Places.{place, at_first, has_place, lookup_place, rest}
use Rattle.chain_shelf.proofs.Sides.{halves}
use Rattle.chain_shelf.specs.Sounds.{opened}
use Rattle.chain_shelf.proofs.Trails.{under_more}

pub heads_below : (b : List ℕ) → Sound b → Below (records b) (heads b)
heads_below b s = below_from (records b) (heads b) (λ q l. let t = heads_tally (mem b) (heads b) q in (s.inside q (omega arith)).1)

pub tail_below : (b : List ℕ) → Sound b → tail (mem b) < records b
tail_below b s = let l = s.room in let h = below_last (records b) 0 (heads b) (omega arith) (heads_below b s) in omega (arith, s.ends)

-- where the last packet's number is below k, so are the others
under_all : (m : Mem) (k a h : ℕ) (hs : List ℕ) → Up a (packets (layout m (h ∷ hs))) → number m (last h hs) < k → (number m h < k) × (under m k (h ∷ hs) ≡ h ∷ hs)
under_all m k a h [] u l = (l, under_more m k h [] l)
under_all m k a h (x ∷ hs) u l =
    let i = under_all m k (suc (number m h)) x hs u.2 l in
    let n : number m h < k = omega (arith, i.0, u.2.0) in
    (n, under_more m k h (x ∷ hs) n ∙ ap (λ t. h ∷ t) i.1)

pub all_under : (b : List ℕ) (k : ℕ) → Sound b → number (mem b) (tail (mem b)) < k → tail (mem b) ≡ last 0 (under (mem b) k (heads b))
all_under b k s l = s.ends ∙ ap (last 0) (sym (go (heads b) s.rising (subst (λ t. number (mem b) t < k) s.ends l)))
  where
    go : (hs : List ℕ) → Up 0 (packets (layout (mem b) hs)) → number (mem b) (last 0 hs) < k → under (mem b) k hs ≡ hs
    go [] u l = refl
    go (h ∷ hs) u l = (under_all (mem b) k 0 h hs u l).1

-- a search for k found the packet at `at`
pub record Found (b : List ℕ) (k at : ℕ) : Type 0 where
  pub others : List ℕ
  pub is : rest (mem b) k (heads b) ≡ at ∷ others
  pub inside : Inside (records b) (walk (link (mem b)) (span 10 (size (mem b) at)) at)
  pub within : at < records b

found : (b : List ℕ) (k at : ℕ) (B : List ℕ) → Sound b → rest (mem b) k (heads b) ≡ at ∷ B → Found b k at
found b k at B s is =
    let A = under (mem b) k (heads b) in
    let W = walk (link (mem b)) (span 10 (size (mem b) at)) at in
    let c : (q : ℕ) → tally q (packs b) ≡ tally q (layout (mem b) A) + (cnt q W + tally q (layout (mem b) B)) = λ q. halves b k q ∙ ap (λ t. tally q (layout (mem b) A) + tally q (layout (mem b) t)) is in
    let i : Inside (records b) W = λ q l. s.inside q (omega (arith, c q)) in
    record { others = B; is = is; inside = i; within = (i at (cnt_first at (walk (link (mem b)) ((size (mem b) at - 54 + 61) / 62) (link (mem b) at)))).1 }

-- the packet at `at` has the number k
pub record There (b : List ℕ) (k at : ℕ) : Type 0 where
  pub found : Found b k at
  pub num : number (mem b) at ≡ k
  pub held : lookup (held b) k ≡ Some (pack (mem b) at).1
  pub most : size (mem b) at ≤ 1500

sized_lookup : (h : Packets) (k : ℕ) (p : List ℕ) → Sized h → lookup h k ≡ Some p → length p ≤ 1500
sized_lookup [] k p s e = absurd (let z : ◌≡◌ {A = ℕ} 0 1 = cc in omega arith)
sized_lookup (x ∷ h) k p s e = let i = sized_lookup h k p s.2 in let l = s.1 in grind (arith, nat_tests)

-- the chain behind the record that a search for k found
pub seg_rest : (b : List ℕ) (k p : ℕ) → Sound b → Before b k p → Seg (next (mem b)) p (rest (mem b) k (heads b))
seg_rest b k p s before =
    let A = under (mem b) k (heads b) in
    let B = rest (mem b) k (heads b) in
    subst (λ t. Seg (next (mem b)) t B) (sym before.is) (seg_from (next (mem b)) 0 A B (subst (Seg (next (mem b)) 0) (sym (place (mem b) k (heads b))) s.chain))

-- what stands behind the record that a search for k found, where b is read from v, which is kept
module _ (b v : List ℕ) (x : b ≡ v) (k p at : ℕ) (whole : Kept v) (behind : Before v k p) (e : at ≡ next (mem b) p) where
  pub kept : Kept b
  kept = subst Kept (sym x) whole

  before : Before b k p
  before = subst (λ c. Before c k p) (sym x) behind

  abbrev s : Sound b
  s = opened b kept

  abbrev B : List ℕ
  B = rest (mem b) k (heads b)

  left : Seg (next (mem b)) p B
  left = seg_rest b k p s before

  at_is : at ≡ first B
  at_is = e ∙ seg_first (next (mem b)) p B left

  pub none_left : at ≡ 0 → B ≡ []
  none_left z = go B refl
    where
      go : (C : List ℕ) → B ≡ C → B ≡ []
      go [] q = q
      go (h ∷ C) q = absurd ((subst (Seg (next (mem b)) p) q left).1 (sym (at_is ∙ ap first q) ∙ z))

  pub some_left : (at ≡ 0 → ⊥) → Found b k at
  some_left n = go B refl
    where
      go : (C : List ℕ) → B ≡ C → Found b k at
      go [] q = absurd (n (at_is ∙ ap first q))
      go (h ∷ C) q = found b k at C s (q ∙ ap (λ t. t ∷ C) (sym (at_is ∙ ap first q)))

  pub there : has (held v) k ≡ true → There b k at
  there held_there = go B refl
    where
      y : has (held b) k ≡ true
      y = ap (λ c. has (held c) k) x ∙ held_there

      go : (C : List ℕ) → B ≡ C → There b k at
      go [] q = absurd (both_ways (has (held b) k) (has_place (mem b) k 0 (heads b) s.rising ∙ ap (at_first (mem b) k) q) y)
      go (h ∷ C) q =
          let a : at ≡ h = at_is ∙ ap first q in
          let t : eqb k (number (mem b) h) ≡ true = sym (has_place (mem b) k 0 (heads b) s.rising ∙ ap (at_first (mem b) k) q) ∙ y in
          let i : B ≡ at ∷ C = q ∙ ap (λ t. t ∷ C) (sym a) in
          let n : number (mem b) at ≡ k = ap (number (mem b)) a ∙ sym (eqb-true k (number (mem b) h) t) in
          let o = lookup_place (mem b) k (heads b) at C i n in
          let l = sized_lookup (held b) k (pack (mem b) at).1 s.sized o in
          record { found = found b k at C s i; num = n; held = o; most = omega (arith, pack_length (mem b) at) }
