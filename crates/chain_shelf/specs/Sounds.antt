-- Soundness has one proof, and with it a region keeps the law of shelves.
use Rattle.std.specs.Prelude.{◌≡◌, ℕ, suc, ◌+◌, ◌<◌, ◌≤◌, List, [], ◌∷◌}
use Rattle.std.proofs.Common.{arith}
use Rattle.std.proofs.Math.Logic.{∥∥₁_elim}
use denote.Struct.Props.{props}
use Rattle.chain_shelf.specs.Records.{mem, records, link, next, tail, in_use, cnt, heads, last}
use Rattle.shelf.specs.Store.{Packets, Lawful, Up, Sized}
use Rattle.chain_shelf.specs.Chain.{tally, loose, packs, held, spent, free, Seg, Sound, Kept, store}

seg_prop : (g : ℕ → ℕ) (q : ℕ) (hs : List ℕ) → IsProp (Seg g q hs)
seg_prop g q [] = hlevel props
seg_prop g q (h ∷ hs) = let i = seg_prop g h hs in hlevel props

up_prop : (k : ℕ) (h : Packets) → IsProp (Up k h)
up_prop k [] = hlevel props
up_prop k (x ∷ h) = let i = up_prop (suc x.0) h in hlevel props

sized_prop : (h : Packets) → IsProp (Sized h)
sized_prop [] = hlevel props
sized_prop (x ∷ h) = let i = sized_prop h in hlevel props

pub sound_prop : (b : List ℕ) → IsProp (Sound b)
sound_prop b x y =
    let e : IsProp ((q : ℕ) → tally q (packs b) + cnt q (free b) ≤ 1) = hlevel props in
    let f : IsProp ((q : ℕ) → 0 < tally q (packs b) + cnt q (free b) → (0 < q) × (q < records b)) = hlevel props in
    let g : IsProp (spent b < records b) = hlevel props in
    let k : IsProp (loose (mem b) (packs b) + link (mem b) (last 0 (free b)) ≡ 0) = hlevel props in
    let h : IsProp (tail (mem b) ≡ last 0 (heads b)) = hlevel props in
    let j : IsProp (in_use (mem b) ≡ spent b) = hlevel props in
    λ i. record {
      chain = seg_prop (next (mem b)) 0 (heads b) x.chain y.chain i;
      once = e x.once y.once i;
      inside = f x.inside y.inside i;
      marked = k x.marked y.marked i;
      ends = h x.ends y.ends i;
      counted = j x.counted y.counted i;
      room = g x.room y.room i;
      rising = up_prop 0 (held b) x.rising y.rising i;
      sized = sized_prop (held b) x.sized y.sized i;
    }

pub opened : (b : List ℕ) → Kept b → Sound b
opened b k = ∥∥₁_elim k.1 (sound_prop b) (λ s. s)

-- what a region means is lawful
pub store_lawful : (b : List ℕ) → Kept b → Lawful (store b)
store_lawful b k =
    let d = opened b k in
    let l = k.0.1 in
    let u = k.0.2 in
    let r = d.room in
    record {
      least = λ n a b. omega arith;
      most = λ n a b. omega arith;
      grows = λ m n a b e. omega arith;
      fits = omega arith;
      spent = omega arith;
      up = d.rising;
      sized = d.sized;
    }
