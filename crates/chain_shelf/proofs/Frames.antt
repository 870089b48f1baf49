-- What writes to other records leave.
use Rattle.std.proofs.Common.{◌≡◌, ℕ, zero, suc, ◌+◌, ◌-◌, ◌*◌, ◌/◌, ◌<◌, ◌≤◌, min, ◌⊎◌, List, [], ◌∷◌, ◌++◌, length, refl, ap, ◌∙◌, inl, inr, ⊎_elim, arith, length-append}
use Rattle.std.proofs.lemmas.Bool.{cases_eq}
use Rattle.chain_shelf.specs.Records.{Mem, link, number, size, cut, span, walk, gather, hit, cnt, Apart}
use Rattle.chain_shelf.specs.Chain.{pack, layout, tally}
use Rattle.chain_shelf.proofs.Cuts.{cut_same, cut_length}
use Rattle.chain_shelf.proofs.Counts.{walk_keep}
use Rattle.chain_shelf.proofs.Fills.{hit_same, hit_not, cnt_first, apart_first, apart_rest}

pub link_same : (m w : Mem) (r : ℕ) → w r 0 ≡ m r 0 → w r 1 ≡ m r 1 → link w r ≡ link m r
link_same m w r a b = cc

-- the bytes of a chain, where its records are left as they were, but for links and for what lies before o in the first
pub gather_same : (m w : Mem) (f r o n : ℕ) → 2 ≤ o → Apart (walk (link m) f r) → walk (link w) f r ≡ walk (link m) f r
    → ((s q : ℕ) → q < 64 → 2 ≤ q → 0 < cnt s (walk (link m) f r) → (s ≡ r → o ≤ q) → w s q ≡ m s q) → gather w f r o n ≡ gather m f r o n
gather_same m w zero r o n lo a e h = refl
gather_same m w (suc zero) r o n lo a e h = ap (λ t. t ++ []) (cut_same m w r o (min n (64 - o)) (λ q i j. h r q (omega arith) (omega arith) (cnt_first r []) (λ _. i)))
gather_same m w (suc (suc f)) r o n lo a e h =
    let T = walk (link m) (suc f) (link m r) in
    let d : cut w r o (min n (64 - o)) ≡ cut m r o (min n (64 - o)) = cut_same m w r o (min n (64 - o)) (λ q i j. h r q (omega arith) (omega arith) (cnt_first r T) (λ _. i)) in
    let g : link w r ≡ link m r = cc in
    let t : walk (link w) (suc f) (link m r) ≡ T = cc in
    let i = gather_same m w (suc f) (link m r) 2 (n - (64 - o)) (omega arith) (apart_rest r T a) t
    (λ s q l u x _. h s q l u (omega arith) (λ z. absurd (let y = apart_first r T a in let v = ap (λ t. cnt t T) z in omega arith))) in
    ap (λ t. cut w r o (min n (64 - o)) ++ gather w (suc f) t 2 (n - (64 - o))) g ∙ (λ j. d j ++ i j)

-- a chain whose records are left as they were, but for what lies between 2 and o in the first
pub chain_same : (m w : Mem) (f r o n : ℕ) → 2 ≤ o → Apart (walk (link m) f r)
    → ((s q : ℕ) → q < 64 → 0 < cnt s (walk (link m) f r) → (s ≡ r → (q < 2) ⊎ (o ≤ q)) → w s q ≡ m s q)
    → (walk (link w) f r ≡ walk (link m) f r) × (gather w f r o n ≡ gather m f r o n)
chain_same m w f r o n lo a h =
    let e = walk_keep (link m) (link w) f r (λ s c. link_same m w s (h s 0 (omega arith) c (λ _. inl (omega arith))) (h s 1 (omega arith) c (λ _. inl (omega arith)))) in
    (e, gather_same m w f r o n lo a e (λ s q l u c i. h s q l c (λ z. inr (i z))))

pub pack_same : (m w : Mem) (h : ℕ) → Apart (pack m h).2
    → ((s q : ℕ) → q < 64 → 0 < cnt s (pack m h).2 → (s ≡ h → (q < 2) ⊎ (4 ≤ q)) → w s q ≡ m s q) → pack w h ≡ pack m h
pack_same m w h a k =
    let f = span 10 (size m h) in
    let x : (q : ℕ) → q < 64 → 4 ≤ q → w h q ≡ m h q = λ q l u. k h q l (cnt_first h (walk (link m) ((size m h - 54 + 61) / 62) (link m h))) (λ _. inr u) in
    let n : number w h ≡ number m h = cc (x 4 (omega arith) (omega arith), x 5 (omega arith) (omega arith), x 6 (omega arith) (omega arith), x 7 (omega arith) (omega arith)) in
    let z : size w h ≡ size m h = cc (x 8 (omega arith) (omega arith), x 9 (omega arith) (omega arith)) in
    let c = chain_same m w f h 10 (size m h) (omega arith) a (λ s q l t y. k s q l t (λ e. ⊎_elim (λ u. inl u) (λ u. inr (omega arith)) (y e))) in
    let g : gather w (span 10 (size w h)) h 10 (size w h) ≡ gather m f h 10 (size m h) = ap (λ t. gather w (span 10 t) h 10 t) z ∙ c.1 in
    let v : walk (link w) (span 10 (size w h)) h ≡ walk (link m) f h = ap (λ t. walk (link w) (span 10 t) h) z ∙ c.0 in
    λ i. (n i, g i, v i)

pub heads_tally : (m : Mem) (hs : List ℕ) (s : ℕ) → cnt s hs ≤ tally s (layout m hs)
heads_tally m [] s = omega arith
heads_tally m (h ∷ hs) s = let e = heads_tally m hs s in omega arith

-- every packet is left as it was, if all that changed in its records is the first one's link to the next packet
pub layout_same : (m w : Mem) (hs : List ℕ) → ((s : ℕ) → tally s (layout m hs) ≤ 1)
    → ((s q : ℕ) → q < 64 → 0 < tally s (layout m hs) → (0 < cnt s hs → (q < 2) ⊎ (4 ≤ q)) → w s q ≡ m s q) → layout w hs ≡ layout m hs
layout_same m w [] o k = refl
layout_same m w (h ∷ hs) o k =
    let p : pack w h ≡ pack m h = pack_same m w h (λ s. let l = o s in omega arith)
    (λ s q l x y. k s q l (omega arith) (λ z. ⊎_elim y (λ n. absurd (let e = hit_not s h n in let u = heads_tally m hs s in let v = o s in omega arith)) (cases_eq s h))) in
    let i = layout_same m w hs (λ s. let l = o s in omega arith)
    (λ s q l x y. k s q l (omega arith) (λ z. ⊎_elim (λ e. absurd (let u = ap (λ t. hit t h) e in let v = hit_same h in let t = o s in omega arith)) (λ n. y (let e = hit_not s h n in omega arith)) (cases_eq s h))) in
    λ j. p j ∷ i j

pub gather_length : (m : Mem) (f r o n : ℕ) → n ≤ (64 - o) + 62 * (f - 1) → 0 < f → length (gather m f r o n) ≡ n
gather_length m zero r o n l z = absurd (omega arith)
gather_length m (suc zero) r o n l z = length-append (cut m r o (min n (64 - o))) [] ∙ (let a = cut_length m r o (min n (64 - o)) in omega arith)
gather_length m (suc (suc f)) r o n l z =
    length-append (cut m r o (min n (64 - o))) (gather m (suc f) (link m r) 2 (n - (64 - o)))
    ∙ (let a = cut_length m r o (min n (64 - o)) in let i = gather_length m (suc f) (link m r) 2 (n - (64 - o)) (omega arith) (omega arith) in omega arith)

pub pack_length : (m : Mem) (h : ℕ) → length (pack m h).1 ≡ size m h
pack_length m h = gather_length m (span 10 (size m h)) h 10 (size m h) (omega arith) (omega arith)
