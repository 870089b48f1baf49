use Rattle.std.proofs.Common.{◌≡◌, ℕ, ◌<◌, length, get_or, IsNone}
use Rattle.slot_shelf.specs.declared.table.TheConstants.{SLOTS}
use Rattle.slot_shelf.specs.Slots.{no_slot}
use Rattle.slot_shelf.proofs.SlotShelfShelf.clear.Given as goal

abbrev pub invariant-loop-slot : goal.invariant-loop-slot
invariant-loop-slot l = (length l.slot-items ≡ SLOTS) × ((k : ℕ) → k < l.slot-index → IsNone (get_or l.slot-items k no_slot).held)
