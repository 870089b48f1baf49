-- What a put and a take leave in a region that is kept: b is lent from v, d is what was written there, and r the region after it.
use Rattle.std.proofs.Common.{◌≡◌, ℕ, ◌+◌, ◌-◌, ◌^◌, ◌<◌, ◌≤◌, true, false, List, length, sym, ap, ◌∙◌, subst, subst₂, arith}
use Rattle.chain_shelf.specs.Records.{mem, records, link, size, span, walk, last}
use Rattle.shelf.specs.Store.{has, insert, remove}
use Rattle.common.specs.Lengths.{right}
use Rattle.chain_shelf.specs.Chain.{Kept, Before, LaidIn, TakenOut, held, spent}
use Rattle.chain_shelf.specs.Sounds.{opened}
use Rattle.chain_shelf.proofs.Sounds.{closed}
use Rattle.chain_shelf.proofs.Stores.{right_least, right_most}
use Rattle.chain_shelf.proofs.Finds.{There}
use Rattle.chain_shelf.proofs.Puts.{put_done}
use Rattle.chain_shelf.proofs.Takes.{take_done}

pub put_kept : (v b d r : List ℕ) (k p : ℕ) (xs : List ℕ) → b ≡ v → r ≡ d → length d ≡ length b → Kept v → Before v k p → right (length xs) ≡ true → has (held v) k ≡ false → k < 2 ^ 32
    → spent v + span 10 (length xs) ≤ records v - 1 → LaidIn (mem b) (mem d) p k xs → Kept r × (held r ≡ insert k xs (held v)) × ((j p : ℕ) → j ≤ k → Before v j p → Before r j p)
put_kept v b d r k p xs x e n kept before proper absent w room laid =
    let l = ap length e ∙ n ∙ ap length x in
    let li = subst (λ q. LaidIn (mem v) (mem r) q k xs) before.is (subst₂ (λ b d. LaidIn (mem b) (mem d) p k xs) x (sym e) laid) in
    let z = put_done v r k xs (opened v kept) l (right_least (length xs) proper) (right_most (length xs) proper) absent (omega arith) room li in
    (closed v r kept.0 l z.0, z.1, z.2)

pub take_kept : (v b d r : List ℕ) (k p h stop : ℕ) → b ≡ v → r ≡ d → length d ≡ length b → Kept v → Before v k p → There b k h
    → stop ≡ last h (walk (link (mem b)) (span 10 (size (mem b) h)) h) → TakenOut (mem b) (mem d) p h stop → Kept r × (held r ≡ remove k (held v)) × ((j p : ℕ) → j ≤ k → Before v j p → Before r j p)
take_kept v b d r k p h stop x e n kept before t f taken =
    let l = ap length e ∙ n ∙ ap length x in
    let g = f ∙ ap (λ c. last h (walk (link (mem c)) (span 10 (size (mem c) h)) h)) x in
    let o = subst₂ (λ q s. TakenOut (mem v) (mem r) q h s) before.is g (subst₂ (λ b d. TakenOut (mem b) (mem d) p h stop) x (sym e) taken) in
    let u = subst (λ c. There c k h) x t in
    let z = take_done v r k h u.found.others (opened v kept) l u.found.is u.num o in
    (closed v r kept.0 l z.0, z.1, z.2)
