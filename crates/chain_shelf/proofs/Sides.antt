-- The packets before a place and those behind it, while a packet comes or goes there.
use Rattle.std.proofs.Common.{◌≡◌, ℕ, zero, suc, ◌+◌, ◌<◌, ◌≤◌, ◌⊎◌, List, ◌∷◌, ◌++◌, sym, refl, ap, ◌∙◌, ⊎_elim, arith}
use Rattle.std.proofs.lemmas.Bool.{cases_eq}
use Rattle.chain_shelf.specs.Records.{Mem, mem, records, hit, cnt, heads, Apart, under, last}
use Rattle.chain_shelf.specs.Chain.{layout, tally, loose, packs, free, Sound}
use Rattle.chain_shelf.proofs.Fills.{hit_not}
use Rattle.chain_shelf.proofs.Counts.{tally_append, layout_append, last_in, loose_append}
use Rattle.chain_shelf.proofs.Frames.{layout_same, heads_tally}
use Rattle.chain_shelf.proofs.Places.{place, rest}

packs_split : (b : List ℕ) (k : ℕ) → packs b ≡ layout (mem b) (under (mem b) k (heads b)) ++ layout (mem b) (rest (mem b) k (heads b))
packs_split b k = sym (ap (layout (mem b)) (place (mem b) k (heads b))) ∙ layout_append (mem b) (under (mem b) k (heads b)) (rest (mem b) k (heads b))

pub halves : (b : List ℕ) (k q : ℕ) → tally q (packs b) ≡ tally q (layout (mem b) (under (mem b) k (heads b))) + tally q (layout (mem b) (rest (mem b) k (heads b)))
halves b k q = ap (tally q) (packs_split b k) ∙ tally_append q (layout (mem b) (under (mem b) k (heads b))) (layout (mem b) (rest (mem b) k (heads b)))

pub loose_halves : (b : List ℕ) (k : ℕ) → loose (mem b) (packs b) ≡ loose (mem b) (layout (mem b) (under (mem b) k (heads b))) + loose (mem b) (layout (mem b) (rest (mem b) k (heads b)))
loose_halves b k = ap (loose (mem b)) (packs_split b k) ∙ loose_append (mem b) (layout (mem b) (under (mem b) k (heads b))) (layout (mem b) (rest (mem b) k (heads b)))

-- the record before a place is 0 or one of the first records before it
pub last_of : (t : ℕ) (A : List ℕ) → t ≡ last 0 A → (t ≡ 0 → ⊥) → 0 < cnt t A
last_of t A e n =
    let l = last_in 0 A in
    let y = ap (λ x. cnt x (0 ∷ A)) e in
    let z = hit_not t 0 n in
    omega arith

-- record 0 is in no chain
pub none_at : (c q R : ℕ) → (0 < c → (0 < q) × (q < R)) → q ≡ 0 → c ≡ 0
none_at zero q R i e = refl
none_at (suc c) q R i e = absurd (let j = (i (omega arith)).0 in omega arith)

pub heads_apart : (b : List ℕ) → Sound b → Apart (0 ∷ heads b)
heads_apart b s q =
    let t = heads_tally (mem b) (heads b) q in
    let o = s.once q in
    ⊎_elim (λ (e : q ≡ 0). let z = none_at (tally q (packs b) + cnt q (free b)) q (records b) (s.inside q) e in let y = ap (λ x. hit x 0) e in omega arith) (λ (e : q ≡ 0 → ⊥). let z = hit_not q 0 e in omega arith) (cases_eq q 0)

-- The packets before the place (A) and behind it (B), the records of the one that comes or goes (X) and the other free ones (Y): where what
-- changes, from m to w, is in record 0, in X or in the link to the packet at the place, the packets of A and B are left as they were.
module _ (m w : Mem) (R : ℕ) (A B X Y : List ℕ) (once : (q : ℕ) → tally q (layout m A) + tally q (layout m B) + (cnt q X + cnt q Y) ≤ 1)
    (inside : (q : ℕ) → 0 < tally q (layout m A) + tally q (layout m B) + (cnt q X + cnt q Y) → (0 < q) × (q < R))
    (others : (t q : ℕ) → q < 64 → 0 < t → cnt t X ≡ 0 → (t ≡ last 0 A → (q < 2) ⊎ (4 ≤ q)) → w t q ≡ m t q) where
  pub before_same : layout w A ≡ layout m A
  before_same = layout_same m w A (λ t. let o = once t in omega arith)
      (λ t q l x y. let o = once t in others t q l (inside t (omega arith)).0 (omega arith) (λ e. y (last_of t A e (λ z. let i = (inside t (omega arith)).0 in omega arith))))

  pub behind_same : layout w B ≡ layout m B
  behind_same = layout_same m w B (λ t. let o = once t in omega arith)
      (λ t q l x y. let o = once t in let i = (inside t (omega arith)).0 in
      others t q l i (omega arith) (λ e. absurd (let u = last_of t A e (λ z. omega arith) in let v = heads_tally m A t in omega arith)))
