use Rattle.std.proofs.Common.{◌≡◌, ℕ, ◌+◌, ◌-◌, ◌/◌, ◌<◌, length, ap, ◌∙◌, ⊎_elim, arith}
use Rattle.std.proofs.lemmas.Bool.{cases_eq}
use Rattle.chain_shelf.specs.Records.{mem, records, link}
use Rattle.chain_shelf.proofs.Frames.{link_same}
use Rattle.chain_shelf.proofs.Sounds.{closed}
use Rattle.chain_shelf.proofs.Fresh.{fresh_sound}
use Rattle.chain_shelf.proofs.Walks.{before_start}
use Rattle.chain_shelf.proofs.packets.free_all.Goals as goal

pub returns : goal.returns
returns c =
    let b = c.args.bytes.now in
    let v = c.loop-r.bytes in
    let u = c.write-2.new.bytes in
    let w = c.write-3.new.bytes in
    let d = c.lead.new.bytes in
    let e : length d ≡ length b = c.lead.auto.bytes ∙ c.write-3.auto.bytes ∙ c.write-2.auto.bytes ∙ c.loop-r.auto.bytes in
    let R : records d ≡ records b = ap (λ t. t / 64) e in
    let o = c.lead.ensures.others in
    let p = c.write-3.ensures.others in
    let q = c.write-2.ensures.others in
    let k : (s : ℕ) → (s ≡ 0 → ⊥) → link (mem d) s ≡ link (mem u) s = λ s a.
    link_same (mem w) (mem d) s (o s 0 (omega arith) (λ y. absurd (a y))) (o s 1 (omega arith) (λ y. absurd (a y)))
    ∙ link_same (mem u) (mem w) s (p s 0 (omega arith) (λ _ y _. omega arith)) (p s 1 (omega arith) (λ _ y _. omega arith)) in
    let n : (s : ℕ) → s + 1 < records d → link (mem u) s ≡ link (mem v) s = λ s l.
    link_same (mem v) (mem u) s (q s 0 (omega arith) (λ y _ _. omega arith)) (q s 1 (omega arith) (λ y _ _. omega arith)) in
    let z = fresh_sound d (omega arith)
    (cc (o 0 2 (omega arith) (λ _. (omega arith, omega arith)), o 0 3 (omega arith) (λ _. (omega arith, omega arith)), c.write-3.ensures.there)) c.lead.ensures.last c.lead.ensures.used
    (λ s l. ⊎_elim (λ (a : s ≡ 0). ap (link (mem d)) a ∙ c.lead.ensures.free ∙ (let y : 1 ≡ s + 1 = omega arith in y))
    (λ (a : s ≡ 0 → ⊥). k s a ∙ n s l ∙ c.loop-r.invariant s (omega arith) (omega arith))
    (cases_eq s 0))
    (k (records d - 1) (λ y. omega arith) ∙ ap (link (mem u)) (ap (λ t. t - 1) R) ∙ c.write-2.ensures.there) in
    let y = closed b d c.requires e z.0 in
    record { kept = y; held = z.1; start = before_start d y.0 }
