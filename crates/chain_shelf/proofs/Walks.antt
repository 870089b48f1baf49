-- A walk along the chain of packets.
use Rattle.std.proofs.Common.{◌≡◌, ℕ, ◌-◌, ◌<◌, ◌≤◌, List, [], ◌∷◌, length, sym, refl, ap, ◌∙◌, subst, arith, length-append}
use Rattle.chain_shelf.specs.Records.{Mem, mem, records, next, trail, heads, under, last}
use Rattle.chain_shelf.specs.Chain.{Seg, Sound, Whole, Before}
use Rattle.chain_shelf.proofs.Segs.{Below, below_from, seg_trail, heads_units, last_append}
use Rattle.chain_shelf.proofs.Frames.{heads_tally}
use Rattle.chain_shelf.proofs.Sides.{halves}
use Rattle.chain_shelf.proofs.Places.{place, rest, under_on}
use Rattle.chain_shelf.proofs.Finds.{seg_rest}
use Rattle.chain_shelf.proofs.Trails.{trail_more, under_none}

-- hs is what is left of the chain behind p
abbrev pub Behind : Mem → ℕ → ℕ → List ℕ → Type 0
Behind m R p hs = Below R hs × Seg (next m) p hs × (length hs < R)

-- the same of the chain from at on
abbrev pub Left : Mem → ℕ → ℕ → ℕ → Type 0
Left m R p at = Behind m R p (trail (next m) R at)

-- a walk that begins where a search for j ended
module _ (b : List ℕ) (j p : ℕ) (s : Sound b) (before : Before b j p) where
  abbrev A : List ℕ
  A = under (mem b) j (heads b)

  abbrev B : List ℕ
  B = rest (mem b) j (heads b)

  behind : Behind (mem b) (records b) p B
  behind =
      let t = ap length (place (mem b) j (heads b)) in
      let a = length-append A B in
      let l = heads_units (mem b) (heads b) in
      let r = s.room in
      (below_from (records b) B (λ q l. let t = heads_tally (mem b) B q in let h = halves b j q in (s.inside q (omega arith)).1), seg_rest b j p s before, omega arith)

  trail_is : trail (next (mem b)) (records b) (next (mem b) p) ≡ B
  trail_is = seg_trail (next (mem b)) p (records b) B behind.1 behind.2

  pub left_near : Left (mem b) (records b) p (next (mem b) p)
  left_near = subst (Behind (mem b) (records b) p) (sym trail_is) behind

  pub last_near : (k : ℕ) → j ≤ k → last p (under (mem b) k (trail (next (mem b)) (records b) (next (mem b) p))) ≡ last 0 (under (mem b) k (heads b))
  last_near k l =
      let u = under (mem b) k in
      ap (λ t. last p (u t)) trail_is ∙ ap (λ t. last t (u B)) before.is ∙ sym (last_append 0 A (u B)) ∙ sym (ap (last 0) (under_on (mem b) j k (heads b) l))

-- nothing is below 0
pub before_start : (b : List ℕ) → Whole b → Before b 0 0
before_start b w = record { is = go (heads b); within = omega (arith, w.1) }
  where
    go : (hs : List ℕ) → 0 ≡ last 0 (under (mem b) 0 hs)
    go [] = refl
    go (h ∷ hs) = sym (ap (last 0) (under_none (mem b) 0 h hs (omega arith)))

pub left_step : (m : Mem) (R p at : ℕ) → (at ≡ 0 → ⊥) → Left m R p at → (at < R) × Left m R at (next m at) × (trail (next m) R at ≡ at ∷ trail (next m) R (next m at))
left_step m R p at n h =
    let g = next m in
    let T = trail g (R - 1) (g at) in
    let t : trail g R at ≡ at ∷ T = trail_more g R at (omega (arith, h.2)) n in
    let k : Behind m R p (at ∷ T) = subst (Behind m R p) t h in
    let e : trail g R (g at) ≡ T = seg_trail g at R T k.1.2 (omega (arith, k.2)) in
    (k.0.0, subst (Behind m R at) (sym e) (k.0.1, k.1.2, omega (arith, k.2)), t ∙ ap (λ hs. at ∷ hs) (sym e))
