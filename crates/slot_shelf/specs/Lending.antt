-- What a shelf ends as once the bytes of a free slot were lent.
use Rattle.std.specs.Prelude.{◌≡◌, Option, OnSome}
use Rattle.std.specs.Borrow.{LendsSo, MutBor, Fml}
use Rattle.slot_shelf.specs.declared.SlotShelf.{SlotShelf}
use Rattle.slot_shelf.specs.declared.slot.Room.{Room}
use Rattle.slot_shelf.specs.declared.table.Place.{Place}
use Rattle.slot_shelf.specs.contracts.SlotShelf.{the_row}
use Rattle.slot_shelf.specs.contracts.slot.Room as room
use Rattle.slot_shelf.specs.Slots.{slots_held, roomed}

-- the slot has the bytes that were left there, all else is as it was, and the shelf holds what it held
abbrev pub LendsRoom : MutBor SlotShelf → Place → Option (MutBor Room) → Fml
LendsRoom s p r = LendsSo the_row room.the_row s r
    (λ n w. OnSome r ((n.slots.items ≡ roomed s.now.slots.items p.index w) × (slots_held n.slots.items ≡ slots_held s.now.slots.items)))
    (λ n. n.slots.items ≡ s.now.slots.items)
