use Rattle.std.proofs.Common.{◌≡◌, ◌<◌, length, sym, ◌∙◌, arith}
use Rattle.slot_shelf.specs.declared.table.TheConstants.{SLOTS}
use Rattle.slot_shelf.proofs.Shelved.{above_more, above_end}
use Rattle.slot_shelf.proofs.SlotShelfShelf.least_above.Goals as goal

pub loop-slot-preserved : goal.loop-slot-preserved
loop-slot-preserved c =
    let ss = c.args.self.now.slots.items in
    let i = c.loop-slot.slot-index in
    let k = c.args.number in
    let n : length ss ≡ SLOTS = c.args.self.now.sixteen in
    let l : i < length ss = omega arith in
    let e = above_more ss i k c.loop-slot.least l in
    cc

pub returns : goal.returns
returns c =
    let ss = c.args.self.now.slots.items in
    let n : length ss ≡ SLOTS = c.args.self.now.sixteen in
    sym (c.loop-slot.invariant ∙ above_end ss c.loop-slot.slot-index c.args.number c.loop-slot.least (omega arith))
