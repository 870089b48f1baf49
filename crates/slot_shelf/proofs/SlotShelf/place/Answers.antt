use Rattle.std.proofs.Common.{◌≡◌, None, Some, position, is_some, ap, ◌∙◌, rules, tests}
use Rattle.std.proofs.lemmas.Iterator.{YieldsList-from_slice}
use Rattle.std.proofs.lemmas.Iterator.Search.{position_from_yields_List}
use Rattle.slot_shelf.specs.Slots.{holds_number}
use Rattle.slot_shelf.proofs.Shelved.{place_found}
use Rattle.slot_shelf.proofs.SlotShelf.place.Goals as goal

pub returns-in_err-index-clause-held : goal.returns-in_err-index-clause-held
returns-in_err-index-clause-held c =
    let ss = c.args.self.now.slots.items in
    let k = c.args.number in
    let e : None ≡ position (λ s. holds_number s k) ss =
    position_from_yields_List (λ s. holds_number s k) _ _ None c.in_err-index.ensures.ran (YieldsList-from_slice ss cc) (λ x b q h. search (rules, tests)) in
    let r : c.from_residual.result ≡ None = search rules in
    ap is_some r ∙ ap is_some e ∙ place_found ss k

pub returns-clause-held : goal.returns-clause-held
returns-clause-held c =
    let ss = c.args.self.now.slots.items in
    let k = c.args.number in
    let e : Some c.in_ok-index.index ≡ position (λ s. holds_number s k) ss =
    position_from_yields_List (λ s. holds_number s k) _ _ (Some c.in_ok-index.index) c.in_ok-index.ensures.ran (YieldsList-from_slice ss cc) (λ x b q h. search (rules, tests)) in
    ap is_some e ∙ place_found ss k
