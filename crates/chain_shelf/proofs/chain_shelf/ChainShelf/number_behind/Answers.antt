use Rattle.std.proofs.Common.{◌≡◌, ◌+◌, None, Some, sym, refl, ap, ◌∙◌, rules}
use Rattle.chain_shelf.specs.Records.{mem, heads}
use Rattle.chain_shelf.specs.Chain.{held}
use Rattle.shelf.specs.Store.{above}
use Rattle.chain_shelf.proofs.Finds.{none_left, some_left}
use Rattle.chain_shelf.proofs.Places.{above_place, first_above}
use Rattle.chain_shelf.proofs.chain_shelf.ChainShelf.number_behind.Goals as goal

pub number_at-requires : goal.number_at-requires
number_at-requires c =
    (some_left c.deref.result.now c.args.self.now.region.items c.deref.ensures.value (c.args.number + 1) c.args.prev c.in_ok-at.at c.args.self.now.kept c.requires c.in_ok-at.ensures.0 c.in_ok-at.ensures.1).within

pub returns-in_err-at : goal.returns-in_err-at
returns-in_err-at c =
    let b = c.deref.result.now in
    let x = c.deref.ensures.value in
    let k = c.args.number in
    let f = none_left b c.args.self.now.region.items x (k + 1) c.args.prev 0 c.args.self.now.kept c.requires (sym c.in_err-at.ensures) refl in
    let n : c.from_residual.result ≡ None = search rules in
    n ∙ sym (sym (ap (λ b. above (held b) k) x) ∙ above_place (mem b) k (heads b) ∙ ap (first_above (mem b)) f)

pub returns : goal.returns
returns c =
    let b = c.deref.result.now in
    let x = c.deref.ensures.value in
    let k = c.args.number in
    let f = some_left b c.args.self.now.region.items x (k + 1) c.args.prev c.in_ok-at.at c.args.self.now.kept c.requires c.in_ok-at.ensures.0 c.in_ok-at.ensures.1 in
    ap Some c.number_at.ensures ∙ sym (sym (ap (λ b. above (held b) k) x) ∙ above_place (mem b) k (heads b) ∙ ap (first_above (mem b)) f.is)
