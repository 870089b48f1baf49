use Rattle.std.proofs.Common.{◌^◌, ◌<◌, length, get_or, ap, ◌∙◌, length-set, arith, rules}
use Rattle.slot_shelf.specs.Slots.{slots_sound, slots_held, no_slot}
use Rattle.slot_shelf.proofs.Shelved.{held_filled, sound_filled, put_in}
use Rattle.slot_shelf.proofs.SlotShelf.keep.Goals as goal

pub invariant_of-self : goal.invariant_of-self
invariant_of-self c =
    let ss = c.args.self.now.slots.items in
    let i = c.args.place.index in
    let k = c.args.number in
    let w : k < 2 ^ 32 = search rules in
    let l : i < length ss = omega (arith, c.args.place.within, c.args.self.now.sixteen) in
    let e = put_in ss c.fill.new.self.slots.items c.mark_at.new.self.items i k c.args.packet.now l c.fill.ensures.after c.mark_at.ensures in
    record {
      sixteen = ap length e ∙ length-set ss i _ ∙ c.args.self.now.sixteen;
      sound = ap slots_sound e ∙ sound_filled ss i k c.args.packet.now (get_or ss i no_slot) l c.requires.free c.requires.absent c.requires.sized w c.args.self.now.sound;
    }

pub returns : goal.returns
returns c =
    let ss = c.args.self.now.slots.items in
    let i = c.args.place.index in
    let k = c.args.number in
    let l : i < length ss = omega (arith, c.args.place.within, c.args.self.now.sixteen) in
    ap slots_held (put_in ss c.fill.new.self.slots.items c.mark_at.new.self.items i k c.args.packet.now l c.fill.ensures.after c.mark_at.ensures)
    ∙ held_filled ss i k c.args.packet.now (get_or ss i no_slot) l c.requires.free c.requires.absent
