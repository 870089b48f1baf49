use Rattle.std.proofs.Common.{◌≡◌, drop}
use Rattle.shelf.specs.Store.{above}
use Rattle.slot_shelf.specs.Slots.{slots_held, lesser}
use Rattle.slot_shelf.proofs.SlotShelfShelf.least_above.Given as goal

abbrev pub invariant-loop-slot : goal.invariant-loop-slot
invariant-loop-slot l = above (slots_held l.self.slots.items) l.number ≡ lesser l.least (above (slots_held (drop l.slot-index l.self.slots.items)) l.number)
