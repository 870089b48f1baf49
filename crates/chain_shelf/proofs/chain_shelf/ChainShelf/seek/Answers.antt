use Rattle.std.proofs.Common.{◌≡◌, sym, ap, ◌∙◌, subst, arith}
use Rattle.chain_shelf.specs.Records.{mem, number, tail}
use Rattle.chain_shelf.proofs.Finds.{tail_below, all_under}
use Rattle.chain_shelf.specs.Chain.{Kept, Before}
use Rattle.chain_shelf.specs.Sounds.{opened}
use Rattle.chain_shelf.proofs.chain_shelf.ChainShelf.seek.Goals as goal

pub number_at-requires : goal.number_at-requires
number_at-requires c =
    let b = c.deref.result.now in
    let e : c.in-Some.last ≡ tail (mem b) = c.in-Some.ensures.0 in
    omega (arith, tail_below b (opened b (subst Kept (sym c.deref.ensures.value) c.args.self.now.kept)))

pub returns-in-Some : goal.returns-in-Some
returns-in-Some c =
    let b = c.deref.result.now in
    let s = opened b (subst Kept (sym c.deref.ensures.value) c.args.self.now.kept) in
    let k = c.args.number in
    let e : c.in-Some.last ≡ tail (mem b) = c.in-Some.ensures.0 in
    let f = all_under b k s (omega (arith, ap (number (mem b)) e, c.from.ensures, c.number_at.ensures, c.if-from-number.true)) in
    subst (λ b. Before b k c.in-Some.last) c.deref.ensures.value (record { is = e ∙ f; within = omega (arith, tail_below b s) })
