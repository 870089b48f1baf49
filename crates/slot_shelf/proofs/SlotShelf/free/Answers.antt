use Rattle.std.proofs.Common.{◌≡◌, length, None, Some, is_none, is_some, nat_lt, position, ap, ◌∙◌, rules, tests}
use Rattle.std.proofs.lemmas.Iterator.{YieldsList-from_slice}
use Rattle.std.proofs.lemmas.Iterator.Search.{position_from_yields_List}
use Rattle.shelf.specs.Store.{units}
use Rattle.slot_shelf.specs.declared.table.TheConstants.{SLOTS}
use Rattle.slot_shelf.specs.Slots.{slots_held}
use Rattle.slot_shelf.proofs.Shelved.{free_found}
use Rattle.slot_shelf.proofs.SlotShelf.free.Goals as goal

pub returns-in_err-index-clause-room : goal.returns-in_err-index-clause-room
returns-in_err-index-clause-room c =
    let ss = c.args.self.now.slots.items in
    let n : length ss ≡ SLOTS = c.args.self.now.sixteen in
    let e : None ≡ position (λ s. is_none s.held) ss =
    position_from_yields_List (λ s. is_none s.held) _ _ None c.in_err-index.ensures.ran (YieldsList-from_slice ss cc) (λ x b q k. search (rules, tests)) in
    let r : c.from_residual.result ≡ None = search rules in
    ap is_some r ∙ ap is_some e ∙ free_found ss ∙ ap (nat_lt (units (λ _. 1) (slots_held ss))) n

pub returns-clause-room : goal.returns-clause-room
returns-clause-room c =
    let ss = c.args.self.now.slots.items in
    let n : length ss ≡ SLOTS = c.args.self.now.sixteen in
    let e : Some c.in_ok-index.index ≡ position (λ s. is_none s.held) ss =
    position_from_yields_List (λ s. is_none s.held) _ _ (Some c.in_ok-index.index) c.in_ok-index.ensures.ran (YieldsList-from_slice ss cc) (λ x b q k. search (rules, tests)) in
    ap is_some e ∙ free_found ss ∙ ap (nat_lt (units (λ _. 1) (slots_held ss))) n
