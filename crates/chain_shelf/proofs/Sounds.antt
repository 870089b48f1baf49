-- How to make a proof of soundness.
use Rattle.std.specs.Prelude.{◌≡◌, ℕ, ◌+◌, ◌-◌, ◌*◌, ◌/◌, ◌<◌, ◌≤◌, List, length}
use Rattle.std.proofs.Common.{sym, ◌∙◌, ap, subst, arith}
use Rattle.chain_shelf.specs.declared.region.TheConstants.{RECORD, FEWEST_RECORDS, MOST_RECORDS}
use Rattle.chain_shelf.specs.Records.{mem, records, link, next, tail, in_use, span, walk, cnt, heads, last}
use Rattle.shelf.specs.Store.{units, Up, Sized}
use Rattle.chain_shelf.specs.Chain.{Pack, layout, packets, tally, loose, packs, held, free, Seg, Sound, Whole, Kept}
use Rattle.chain_shelf.proofs.Segs.{seg_trail, heads_units}

-- a write keeps the size
pub closed : (b d : List ℕ) → Whole b → length d ≡ length b → Sound d → Kept d
closed b d w e s = (subst (λ n. (n ≡ RECORD * (n / RECORD)) × (FEWEST_RECORDS ≤ n / RECORD) × (n / RECORD ≤ MOST_RECORDS)) (sym e) w, ∣ s ∣₁)

-- sound, by the first records, the packets and the free records
pub sound_of : (b hs : List ℕ) (L : List Pack) (fs : List ℕ)
    → Seg (next (mem b)) 0 hs → layout (mem b) hs ≡ L → units (span 10) (packets L) < records b
    → walk (link (mem b)) (records b - 1 - units (span 10) (packets L)) (link (mem b) 0) ≡ fs
    → ((q : ℕ) → tally q L + cnt q fs ≤ 1) → ((q : ℕ) → 0 < tally q L + cnt q fs → (0 < q) × (q < records b))
    → loose (mem b) L + link (mem b) (last 0 fs) ≡ 0 → tail (mem b) ≡ last 0 hs → in_use (mem b) ≡ units (span 10) (packets L)
    → Up 0 (packets L) → Sized (packets L) → Sound b × (held b ≡ packets L) × (heads b ≡ hs)
sound_of b hs L fs ch la ro fr on ins ma en co up si =
    let n = heads_units (mem b) hs in
    let u : units (span 10) (packets (layout (mem b) hs)) ≡ units (span 10) (packets L) = ap (λ t. units (span 10) (packets t)) la in
    let e : heads b ≡ hs = seg_trail (next (mem b)) 0 (records b) hs ch (omega arith) in
    let p : packs b ≡ L = ap (layout (mem b)) e ∙ la in
    let f : free b ≡ fs = ap (λ t. walk (link (mem b)) (records b - 1 - units (span 10) (packets t)) (link (mem b) 0)) p ∙ fr in
    let c : (q : ℕ) → tally q (packs b) + cnt q (free b) ≡ tally q L + cnt q fs = λ q. cc (ap (tally q) p, ap (cnt q) f) in (
      record {
        chain = subst (Seg (next (mem b)) 0) (sym e) ch;
        once = λ q. omega (arith, c q, on q);
        inside = λ q l. ins q (omega (arith, c q));
        marked = cc (ap (loose (mem b)) p, ap (λ t. link (mem b) (last 0 t)) f, ma);
        ends = en ∙ ap (last 0) (sym e);
        counted = co ∙ ap (λ t. units (span 10) (packets t)) (sym p);
        room = subst (λ t. units (span 10) (packets t) < records b) (sym p) ro;
        rising = subst (λ t. Up 0 (packets t)) (sym p) up;
        sized = subst (λ t. Sized (packets t)) (sym p) si;
      },
      ap packets p,
      e,
    )
