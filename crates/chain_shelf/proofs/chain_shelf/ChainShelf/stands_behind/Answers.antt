use Rattle.std.proofs.Common.{◌≡◌, sym, refl, ap, ◌∙◌, arith}
use Rattle.std.proofs.lemmas.Bool.Decides.{nat_tests}
use Rattle.shelf.specs.Store.{has}
use Rattle.chain_shelf.specs.Records.{mem, heads}
use Rattle.chain_shelf.specs.Chain.{held}
use Rattle.chain_shelf.specs.Sounds.{opened}
use Rattle.chain_shelf.proofs.Finds.{none_left, some_left}
use Rattle.chain_shelf.proofs.Places.{has_place, at_first, rest}
use Rattle.chain_shelf.proofs.chain_shelf.ChainShelf.stands_behind.Goals as goal

pub number_at-requires : goal.number_at-requires
number_at-requires c =
    (some_left c.deref.result.now c.args.self.now.region.items c.deref.ensures.value c.args.number c.args.prev c.in-Some.at c.args.self.now.kept c.requires c.in-Some.ensures.0 c.in-Some.ensures.1).within

pub returns-in-Some : goal.returns-in-Some
returns-in-Some c =
    let b = c.deref.result.now in
    let v = c.args.self.now.region.items in
    let x = c.deref.ensures.value in
    let k = c.args.number in
    let f = some_left b v x k c.args.prev c.in-Some.at c.args.self.now.kept c.requires c.in-Some.ensures.0 c.in-Some.ensures.1 in
    let e : has (held v) k ≡ at_first (mem v) k (rest (mem v) k (heads v)) = has_place (mem v) k 0 (heads v) (opened v c.args.self.now.kept).rising in
    let h = e ∙ ap (λ b. at_first (mem b) k (rest (mem b) k (heads b))) (sym x) ∙ ap (at_first (mem b) k) f.is in
    let n = c.number_at.ensures in
    grind (arith, nat_tests)

pub returns-in-None : goal.returns-in-None
returns-in-None c =
    let b = c.deref.result.now in
    let v = c.args.self.now.region.items in
    let x = c.deref.ensures.value in
    let k = c.args.number in
    let f = none_left b v x k c.args.prev 0 c.args.self.now.kept c.requires (sym c.in-None.ensures) refl in
    let e : has (held v) k ≡ at_first (mem v) k (rest (mem v) k (heads v)) = has_place (mem v) k 0 (heads v) (opened v c.args.self.now.kept).rising in
    sym (e ∙ ap (λ b. at_first (mem b) k (rest (mem b) k (heads b))) (sym x) ∙ ap (at_first (mem b) k) f)
