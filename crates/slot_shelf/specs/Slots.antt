-- What sixteen slots hold.
use Rattle.std.specs.Prelude.{◌≡◌, ℕ, ◌^◌, ◌≤◌, min, Bool, true, false, cond, not, ◌&&◌, List, [], ◌∷◌, ◌++◌, length, get_or, take, drop, Some, None, IsNone, IfSome, Option, ◌==◌, nat_lt, slice_index_or, slice_set}
use Rattle.std.specs.Option.{option_map, option_map_or, option_and_then}
use Rattle.shelf.specs.Store.{Packets, Store, insert, has}
use Rattle.common.specs.declared.TheConstants.{LONGEST}
use Rattle.common.specs.Lengths.{right}
use Rattle.slot_shelf.specs.declared.slot.Room.{Room}
use Rattle.slot_shelf.specs.declared.slot.Slot.{Slot}
use Rattle.slot_shelf.specs.declared.slot.Held.{Held}
use Rattle.slot_shelf.specs.declared.table.Place.{Place}
use Rattle.slot_shelf.specs.declared.table.TheConstants.{SLOTS}

-- what is read past the last slot: no packet
abbrev pub no_slot : Slot
no_slot = record { room = record { bytes = [] }; held = None }

-- the bytes of a packet that is held: the front of its slot's
abbrev pub front : List ℕ → Held → List ℕ
front bytes h = take h.len bytes

-- the packet in a slot, if there is one
abbrev pub kept : Slot → Option (List ℕ)
kept s = option_map (front s.room.bytes) s.held

-- a packet that is held is no longer than a packet may be
abbrev pub fits : Slot → Type 0
fits s = IfSome s.held (λ h. h.len ≤ LONGEST)

-- bytes with a packet in front
abbrev pub fronted : Room → List ℕ → Room
fronted r p = record { bytes = p ++ drop (length p) r.bytes }

-- slots of which one has other bytes
abbrev pub roomed : List Slot → ℕ → Room → List Slot
roomed ss i r = slice_set ss i (record { room = r; held = (slice_index_or ss i no_slot).held })

-- a slot of which the first bytes are told to be a packet
abbrev pub marked : Slot → Held → Slot
marked s h = record { room = s.room; held = Some h }

-- a slot with its packet let go
abbrev pub emptied : Slot → Slot
emptied s = record { room = s.room; held = None }

-- whether a slot holds the packet of a number
abbrev pub holds_number : Slot → ℕ → Bool
holds_number s k = option_map_or (λ h. h.number == k) s.held false

-- the number of a slot's packet, where that is above a given one
abbrev pub number_above : Slot → ℕ → Option ℕ
number_above s k = option_and_then (λ h. cond (nat_lt k h.number) (Some h.number) None) s.held

-- the lesser of two numbers, of which each may be absent
abbrev pub lesser : Option ℕ → Option ℕ → Option ℕ
lesser None o = o
lesser (Some a) None = Some a
lesser (Some a) (Some b) = Some (min a b)

-- packets, with the one in a slot's bytes beside them, if there is one
abbrev pub adds : List ℕ → Option Held → Packets → Packets
adds bytes None packets = packets
adds bytes (Some h) packets = insert h.number (front bytes h) packets

-- the packets in a list of slots
abbrev pub slots_held : List Slot → Packets
slots_held [] = []
slots_held (s ∷ ss) = adds s.room.bytes s.held (slots_held ss)

-- a packet's length and number are right
abbrev pub held_right : List ℕ → Held → Bool
held_right bytes h = right h.len && length (front bytes h) == h.len && nat_lt h.number (2 ^ 32)

-- a slot is free, or its packet is right and its number is not among others
abbrev pub sound_beside : Packets → List ℕ → Option Held → Bool
sound_beside others bytes None = true
sound_beside others bytes (Some h) = held_right bytes h && not (has others h.number)

-- each packet is right, and no number is held twice
abbrev pub slots_sound : List Slot → Bool
slots_sound [] = true
slots_sound (s ∷ ss) = sound_beside (slots_held ss) s.room.bytes s.held && slots_sound ss

-- the slot at a place has no packet
abbrev pub FreeAt : List Slot → Place → Type 0
FreeAt ss p = IsNone (get_or ss p.index no_slot).held

-- the slot at a place holds the packet of a number
abbrev pub HeldAt : List Slot → ℕ → Place → Type 0
HeldAt ss k p = holds_number (slice_index_or ss p.index no_slot) k ≡ true

-- what slots mean: a unit for each slot, and each packet costs one
abbrev pub slot_store : List Slot → Store
slot_store ss = record { held = slots_held ss; total = SLOTS; price = λ _. 1 }

-- an empty shelf of so many units, each packet at one
abbrev pub empty_store : Store
empty_store = record { held = []; total = SLOTS; price = λ _. 1 }
