use Rattle.std.proofs.Common.{arith}
use Rattle.chain_shelf.proofs.packets.lead.Goals as goal

pub returns-clause-free : goal.returns-clause-free
returns-clause-free c =
    let v = c.write-2.ensures.others in
    let w = c.write-3.ensures.others in
    cc (v 0 0 (omega arith) (λ _ y _. omega arith), v 0 1 (omega arith) (λ _ y _. omega arith), w 0 0 (omega arith) (λ _ y _. omega arith), w 0 1 (omega arith) (λ _ y _. omega arith), c.write.ensures.there)

pub returns-clause-last : goal.returns-clause-last
returns-clause-last c =
    let w = c.write-3.ensures.others in
    cc (w 0 4 (omega arith) (λ _ y _. omega arith), w 0 5 (omega arith) (λ _ y _. omega arith), c.write-2.ensures.there)
