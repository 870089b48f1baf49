use Rattle.std.proofs.Common.{◌≡◌, ℕ, ◌<◌, Bool, true, List, length, get_or, slice_set, is_none, IsNone, sym, refl, ap, ◌∙◌, subst, length-set, arith}
use Rattle.std.proofs.SliceLists.{any-default}
use Rattle.slot_shelf.specs.declared.slot.Room.{Room}
use Rattle.slot_shelf.specs.declared.slot.Slot.{Slot}
use Rattle.slot_shelf.specs.Slots.{slots_held, no_slot}
use Rattle.slot_shelf.proofs.Shelved.{sound_emptied, held_roomed, none_is}
use Rattle.slot_shelf.proofs.SlotShelf.lend.Goals as goal

-- the slot that is lent is the free one
lent : (ss : List Slot) (i : ℕ) (t : Slot) (free : Bool) → i < length ss → t ≡ get_or ss i t → free ≡ is_none (get_or ss i no_slot).held → free ≡ true
    → (get_or ss i no_slot ≡ t) × IsNone (get_or ss i no_slot).held
lent ss i t free l e f y = (any-default ss i no_slot t l ∙ sym e, none_is (get_or ss i no_slot).held (sym f ∙ y))

pub invariant_of-self-lent : goal.invariant_of-self-lent
invariant_of-self-lent c w =
    let s = c.args.self.now in
    let i = c.args.place.index in
    let e = lent s.slots.items i c.lend-slot.result.now c.is_free.result (omega (arith, c.args.place.within, s.sixteen)) c.lend-slot.ensures.value c.is_free.ensures c.if-not-is_free.false in
    (length-set s.slots.items i _ ∙ s.sixteen, (sound_emptied s.slots.items i _ (subst (λ (x : Slot). IsNone x.held) e.0 e.1) s.sound, tt))

pub returns : goal.returns
returns c =
    let ss = c.args.self.now.slots.items in
    let i = c.args.place.index in
    let e = lent ss i c.lend-slot.result.now c.is_free.result (omega (arith, c.args.place.within, c.args.self.now.sixteen)) c.lend-slot.ensures.value c.is_free.ensures c.if-not-is_free.false in
    let r = λ (w : Room). ap (λ (x : Slot). slice_set ss i (record { room = w; held = x.held })) (sym e.0) in (
      (refl, (λ w. (r w, ap slots_held (r w) ∙ held_roomed ss i w e.1)), refl),
      record { back = tt; free = sym c.if-not-is_free.false ∙ c.is_free.ensures; value = ap (λ (x : Slot). x.room) (sym e.0) },
    )
