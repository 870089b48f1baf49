-- A region in which every record is free.
use Rattle.std.proofs.Common.{◌≡◌, ℕ, zero, suc, ◌+◌, ◌-◌, ◌<◌, ◌≤◌, List, [], refl, ap, ◌∙◌, ⊎_elim, arith}
use Rattle.std.proofs.lemmas.Bool.{cases_eq}
use Rattle.chain_shelf.specs.Records.{mem, records, link, next, tail, in_use, walk, hit, cnt, last}
use Rattle.chain_shelf.specs.Chain.{held, Sound}
use Rattle.chain_shelf.proofs.Fills.{hit_same, hit_not}
use Rattle.chain_shelf.proofs.Sounds.{sound_of}

-- records that follow one another
pub row : (g : ℕ → ℕ) (R n r : ℕ) → r + n ≤ R → ((s : ℕ) → s + 1 < R → g s ≡ s + 1) → (q : ℕ) → (cnt q (walk g n r) ≤ 1) × (0 < cnt q (walk g n r) → (r ≤ q) × (q < r + n))
row g R zero r l h q = (omega arith, λ x. absurd (omega arith))
row g R (suc zero) r l h q =
    ⊎_elim (λ (e : q ≡ r). let z = ap (λ t. hit t r) e in let y = hit_same r in (omega arith, λ x. (omega arith, omega arith)))
    (λ (e : q ≡ r → ⊥). let z = hit_not q r e in (omega arith, λ x. absurd (omega arith))) (cases_eq q r)
row g R (suc (suc n)) r l h q =
    let a = ap (λ t. cnt q (walk g (suc n) t)) (h r (omega arith)) in
    let i = row g R (suc n) (r + 1) (omega arith) h q in
    let c = cnt q (walk g (suc n) (r + 1)) in
    let j : 0 < c → (r + 1 ≤ q) × (q < r + 1 + suc n) = i.1 in
    let u : c ≤ 1 = i.0 in
    ⊎_elim (λ (e : q ≡ r). let z = ap (λ t. hit t r) e in let y = hit_same r in
    let o : c ≡ 0 = ⊎_elim (λ (f : c ≡ 0). f) (λ (f : c ≡ 0 → ⊥). absurd (let k = (j (omega arith)).0 in omega arith)) (cases_eq c 0) in
    (omega arith, λ x. (omega arith, omega arith)))
    (λ (e : q ≡ r → ⊥). let z = hit_not q r e in (omega arith, λ x. let k = j (omega arith) in (omega (arith, k.0), omega (arith, k.1)))) (cases_eq q r)

row_last : (g : ℕ → ℕ) (R n r q : ℕ) → r + n < R → ((s : ℕ) → s + 1 < R → g s ≡ s + 1) → last q (walk g (suc n) r) ≡ r + n
row_last g R zero r q l h = let e : r ≡ r + 0 = omega arith in e
row_last g R (suc n) r q l h =
    let e = ap (λ t. last r (walk g (suc n) t)) (h r (omega arith)) in
    let i = row_last g R n (r + 1) r (omega arith) h in
    omega arith

pub fresh_sound : (b : List ℕ) → 26 ≤ records b → next (mem b) 0 ≡ 0 → tail (mem b) ≡ 0 → in_use (mem b) ≡ 0 → ((s : ℕ) → s + 1 < records b → link (mem b) s ≡ s + 1) → link (mem b) (records b - 1) ≡ 0 → Sound b × (held b ≡ [])
fresh_sound b l z t c h e =
    let g = link (mem b) in
    let R = records b in
    let f : walk g (R - 1 - 0) (g 0) ≡ walk g (R - 1) 1 = let a : g 0 ≡ 1 = h 0 (omega arith) in let e : R - 1 - 0 ≡ R - 1 = omega arith in (λ i. walk g (e i) (a i)) in
    let x = row g R (R - 1) 1 (omega arith) h in
    let y = sound_of b [] [] (walk g (R - 1) 1) z refl (omega arith) f
    (λ q. let y = (x q).0 in omega arith) (λ q i. let y = (x q).1 (omega arith) in (omega (arith, y.0), omega (arith, y.1))) (let a = ap g (ap (λ n. last 0 (walk g n 1)) (let y : R - 1 ≡ suc (R - 2) = omega arith in y) ∙ row_last g R (R - 2) 1 0 (omega arith) h ∙ (let y : 1 + (R - 2) ≡ R - 1 = omega arith in y)) in omega arith) t c tt tt in
    (y.0, y.1)
