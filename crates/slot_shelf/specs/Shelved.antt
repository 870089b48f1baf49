-- Why sixteen slots keep the law of shelves.
use Rattle.std.specs.Prelude.{◌≡◌, ℕ, ◌+◌, ◌≤◌, true, false, cond, List, [], ◌∷◌, length, Some, None, Option, is_some, ◌==◌, refl}
use Rattle.std.specs.Option.{option_map_or}
use Rattle.std.proofs.Common.{arith}
use Rattle.std.proofs.lemmas.Bool.Decides.{nat_tests}
use Rattle.shelf.specs.Store.{Packets, Lawful, Up, Sized, has, units}
use Rattle.shelf.proofs.Kept.{has_insert, units_insert, up_insert, sized_insert}
use Rattle.slot_shelf.specs.declared.slot.Slot.{Slot}
use Rattle.slot_shelf.specs.declared.slot.Held.{Held}
use Rattle.slot_shelf.specs.declared.table.TheConstants.{SLOTS}
use Rattle.slot_shelf.specs.Slots.{front, adds, sound_beside, slots_held, slots_sound, slot_store, holds_number}

pub has_adds : (bytes : List ℕ) (o : Option Held) (h : Packets) (k : ℕ) → has (adds bytes o h) k ≡ cond (option_map_or (λ x. x.number == k) o false) true (has h k)
has_adds bytes None h k = refl
has_adds bytes (Some x) h k = let e = has_insert x.number (front bytes x) h k in grind (arith, nat_tests)

pub has_slot : (s : Slot) (ss : List Slot) (k : ℕ) → has (slots_held (s ∷ ss)) k ≡ cond (holds_number s k) true (has (slots_held ss) k)
has_slot s ss k = has_adds s.room.bytes s.held (slots_held ss) k

pub units_adds : (bytes : List ℕ) (o : Option Held) (h : Packets) → units (λ _. 1) (adds bytes o h) ≡ cond (is_some o) 1 0 + units (λ _. 1) h
units_adds bytes None h = omega arith
units_adds bytes (Some x) h = units_insert (λ _. 1) x.number (front bytes x) h

pub units_slot : (s : Slot) (ss : List Slot) → units (λ _. 1) (slots_held (s ∷ ss)) ≡ cond (is_some s.held) 1 0 + units (λ _. 1) (slots_held ss)
units_slot s ss = units_adds s.room.bytes s.held (slots_held ss)

-- what soundness says of the first slot
pub first_sound : (s : Slot) (ss : List Slot) → slots_sound (s ∷ ss) ≡ true → (sound_beside (slots_held ss) s.room.bytes s.held ≡ true) × (slots_sound ss ≡ true)
first_sound s ss d = (grind (arith, nat_tests), grind (arith, nat_tests))

up_adds : (bytes : List ℕ) (o : Option Held) (h : Packets) → sound_beside h bytes o ≡ true → Up 0 h → Up 0 (adds bytes o h)
up_adds bytes None h d u = u
up_adds bytes (Some x) h d u = up_insert 0 x.number (front bytes x) h (omega arith) (grind (arith, nat_tests)) u (grind (arith, nat_tests))

pub up_held : (ss : List Slot) → slots_sound ss ≡ true → Up 0 (slots_held ss)
up_held [] d = tt
up_held (s ∷ ss) d = let f = first_sound s ss d in up_adds s.room.bytes s.held (slots_held ss) f.0 (up_held ss f.1)

sized_adds : (bytes : List ℕ) (o : Option Held) (h : Packets) → sound_beside h bytes o ≡ true → Sized h → Sized (adds bytes o h)
sized_adds bytes None h d z = z
sized_adds bytes (Some x) h d z = sized_insert x.number (front bytes x) h (grind (arith, nat_tests)) (grind (arith, nat_tests)) z

pub sized_held : (ss : List Slot) → slots_sound ss ≡ true → Sized (slots_held ss)
sized_held [] d = tt
sized_held (s ∷ ss) d = let f = first_sound s ss d in sized_adds s.room.bytes s.held (slots_held ss) f.0 (sized_held ss f.1)

pub units_most : (ss : List Slot) → units (λ _. 1) (slots_held ss) ≤ length ss
units_most [] = omega arith
units_most (s ∷ ss) =
    let e = units_slot s ss in
    let i = units_most ss in
    grind (arith, nat_tests)

pub slots_lawful : (ss : List Slot) → length ss ≡ SLOTS → slots_sound ss ≡ true → Lawful (slot_store ss)
slots_lawful ss n d = record {
  least = λ m a b. omega arith;
  most = λ m a b. omega arith;
  grows = λ l m a b e. omega arith;
  fits = omega arith;
  spent = omega (arith, units_most ss);
  up = up_held ss d;
  sized = sized_held ss d;
}
