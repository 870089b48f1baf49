use Rattle.std.proofs.Common.{◌≡◌, OnSome, ap, ◌∙◌, subst}
use Rattle.slot_shelf.specs.Slots.{slots_held, roomed, fronted}
use Rattle.slot_shelf.proofs.SlotShelf.fill.Goals as goal

pub returns-in-Some : goal.returns-in-Some
returns-in-Some c =
    let ss = c.args.self.now.slots.items in
    let i = c.args.place.index in
    let r = c.fill.new.self in
    let n = (c.lend.follows.lender r).slots.items in
    let e = subst (λ o. OnSome o ((n ≡ roomed ss i r) × (slots_held n ≡ slots_held ss))) c.in-Some.is (c.lend.follows.holds r) in
    record { after = e.0 ∙ ap (roomed ss i) (c.fill.ensures ∙ ap (λ x. fronted x c.args.packet.now) c.in-Some.ensures.value); held = e.1 }
