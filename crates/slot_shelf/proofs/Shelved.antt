-- How what is held follows a slot that is filled or emptied, and what slots tell.
use Rattle.std.specs.Prelude.{◌≡◌, ℕ, zero, suc, ◌+◌, ◌^◌, ◌<◌, ◌≤◌, Bool, true, false, cond, List, [], ◌∷◌, length, get_or, drop, Some, None, IsNone, Option, is_some, is_none, filter, position, ◌==◌, nat_lt, slice_index_or, slice_set, refl}
use Rattle.std.specs.Option.{option_map, option_map_or, option_and_then}
use Rattle.std.proofs.Common.{sym, ◌∙◌, ap, arith}
use Rattle.std.proofs.lemmas.List.{at_drop_more, at_drop_all, take_at}
use Rattle.std.proofs.lemmas.Bool.{both_ways, lt-ltb, eq-eqb}
use Rattle.std.proofs.lemmas.Bool.Decides.{nat_tests}
use Rattle.shelf.specs.Store.{Packets, Up, insert, remove, has, units, lookup, above, length_of}
use Rattle.common.specs.Lengths.{right}
use Rattle.shelf.proofs.Kept.{has_insert, insert_swap, remove_insert, lookup_insert, remove_other}
use Rattle.slot_shelf.specs.declared.slot.Slot.{Slot}
use Rattle.slot_shelf.specs.declared.slot.Held.{Held}
use Rattle.slot_shelf.specs.declared.slot.Room.{Room}
use Rattle.slot_shelf.specs.Slots.{front, adds, sound_beside, slots_held, slots_sound, kept, fits, fronted, roomed, marked, no_slot, holds_number, number_above, lesser}
use Rattle.slot_shelf.specs.Shelved.{has_slot, units_slot, first_sound, up_held, units_most}

-- a slot with a packet put in
abbrev pub filled : Slot → ℕ → List ℕ → Slot
filled s n p = record { room = fronted s.room p; held = Some (record { number = n; len = length p }) }

-- whether a packet that is held has a number
abbrev numbered : Option Held → ℕ → Bool
numbered o k = option_map_or (λ h. h.number == k) o false

-- a place is found for a number exactly if it is held
pub place_found : (ss : List Slot) (k : ℕ) → is_some (position (λ s. holds_number s k) ss) ≡ has (slots_held ss) k
place_found [] k = refl
place_found (s ∷ ss) k =
    let e = has_slot s ss k in
    let i = place_found ss k in
    grind (arith, nat_tests)

-- a slot that holds a number
pub has_some : (ss : List Slot) (n i : ℕ) → i < length ss → holds_number (slice_index_or ss i no_slot) n ≡ true → has (slots_held ss) n ≡ true
has_some [] n i l a = absurd (omega arith)
has_some (s ∷ ss) n zero l a = has_slot s ss n ∙ simp a
has_some (s ∷ ss) n (suc i) l a =
    let e = has_slot s ss n in
    let h = has_some ss n i (omega arith) a in
    grind (arith, nat_tests)

pub none_is : (o : Option Held) → is_none o ≡ true → IsNone o
none_is None e = refl
none_is (Some x) e = absurd (both_ways false refl e)

-- beside a free slot nothing is added
adds_none : (bytes : List ℕ) (o : Option Held) (h : Packets) → IsNone o → adds bytes o h ≡ h
adds_none bytes None h n = refl
adds_none bytes (Some x) h n = absurd (let z : ◌≡◌ {A = ℕ} 0 1 = cc in omega arith)

-- whatever the bytes of a free slot are, the slots hold the same
pub held_roomed : (ss : List Slot) (i : ℕ) (r : Room) → IsNone (get_or ss i no_slot).held → slots_held (roomed ss i r) ≡ slots_held ss
held_roomed [] i r o = refl
held_roomed (s ∷ ss) zero r o = adds_none r.bytes s.held (slots_held ss) o ∙ sym (adds_none s.room.bytes s.held (slots_held ss) o)
held_roomed (s ∷ ss) (suc i) r o = ap (adds s.room.bytes s.held) (held_roomed ss i r o)

sound_none : (bytes : List ℕ) (o : Option Held) (h : Packets) → IsNone o → sound_beside h bytes o ≡ true
sound_none bytes None h n = refl
sound_none bytes (Some x) h n = absurd (let z : ◌≡◌ {A = ℕ} 0 1 = cc in omega arith)

-- a packet of another number is put in or taken out
adds_insert : (bytes : List ℕ) (o : Option Held) (k : ℕ) (p : List ℕ) (h : Packets) → numbered o k ≡ false → adds bytes o (insert k p h) ≡ insert k p (adds bytes o h)
adds_insert bytes None k p h n = refl
adds_insert bytes (Some x) k p h n = insert_swap k x.number p (front bytes x) h (λ e. grind (arith, nat_tests))

adds_remove : (bytes : List ℕ) (o : Option Held) (k : ℕ) (h : Packets) → Up 0 h → numbered o k ≡ false → adds bytes o (remove k h) ≡ remove k (adds bytes o h)
adds_remove bytes None k h u n = refl
adds_remove bytes (Some x) k h u n = sym (remove_other 0 k x.number (front bytes x) h u (λ e. grind (arith, nat_tests)))

sound_insert : (bytes : List ℕ) (o : Option Held) (k : ℕ) (p : List ℕ) (h : Packets) → numbered o k ≡ false → sound_beside h bytes o ≡ true → sound_beside (insert k p h) bytes o ≡ true
sound_insert bytes None k p h n d = refl
sound_insert bytes (Some x) k p h n d = let e = has_insert k p h x.number in grind (arith, nat_tests)

-- beside fewer packets a slot is sound too
sound_fewer : (bytes : List ℕ) (o : Option Held) (g h : Packets) → ((n : ℕ) → has g n ≡ false → has h n ≡ false) → sound_beside g bytes o ≡ true → sound_beside h bytes o ≡ true
sound_fewer bytes None g h f d = refl
sound_fewer bytes (Some x) g h f d = let e = f x.number in grind (arith, nat_tests)

-- a slot's number is not among the others
numbered_other : (bytes : List ℕ) (o : Option Held) (h : Packets) (k : ℕ) → sound_beside h bytes o ≡ true → has h k ≡ true → numbered o k ≡ false
numbered_other bytes None h k d a = refl
numbered_other bytes (Some x) h k d a = let e = λ (e : x.number ≡ k). ap (has h) e in grind (arith, nat_tests)

-- the packet of a slot that holds a number, found and removed
remove_adds : (bytes : List ℕ) (o : Option Held) (h : Packets) (k : ℕ) → sound_beside h bytes o ≡ true → numbered o k ≡ true → remove k (adds bytes o h) ≡ h
remove_adds bytes None h k d n = absurd (let z : ◌≡◌ {A = ℕ} 0 1 = cc in omega arith)
remove_adds bytes (Some x) h k d n =
    let e : x.number ≡ k = grind (arith, nat_tests) in
    simp (← e) (remove_insert x.number (front bytes x) h (grind (arith, nat_tests)))

lookup_adds : (bytes : List ℕ) (o : Option Held) (h : Packets) (k : ℕ) → sound_beside h bytes o ≡ true → lookup (adds bytes o h) k ≡ cond (numbered o k) (option_map (front bytes) o) (lookup h k)
lookup_adds bytes None h k d = refl
lookup_adds bytes (Some x) h k d = let e = lookup_insert x.number (front bytes x) h k in grind (arith, nat_tests)

-- a free slot is filled
held_first : (t : Slot) (k : ℕ) (p : List ℕ) (h : Packets) → adds (filled t k p).room.bytes (filled t k p).held h ≡ insert k p h
held_first t k p h = ap (λ q. insert k q h) (take_at p (drop (length p) t.room.bytes) (length p) refl)

pub held_filled : (ss : List Slot) (i k : ℕ) (p : List ℕ) (t : Slot) → i < length ss → IsNone (get_or ss i no_slot).held → has (slots_held ss) k ≡ false → slots_held (slice_set ss i (filled t k p)) ≡ insert k p (slots_held ss)
held_filled [] i k p t l f a = absurd (omega arith)
held_filled (s ∷ ss) zero k p t l f a = held_first t k p (slots_held ss) ∙ ap (insert k p) (sym (adds_none s.room.bytes s.held (slots_held ss) f))
held_filled (s ∷ ss) (suc i) k p t l f a =
    let e = has_slot s ss k in
    let h : has (slots_held ss) k ≡ false = grind (arith, nat_tests) in
    ap (adds s.room.bytes s.held) (held_filled ss i k p t (omega arith) f h) ∙ adds_insert s.room.bytes s.held k p (slots_held ss) (grind (arith, nat_tests))

pub sound_filled : (ss : List Slot) (i k : ℕ) (p : List ℕ) (t : Slot) → i < length ss → IsNone (get_or ss i no_slot).held → has (slots_held ss) k ≡ false → right (length p) ≡ true → k < 2 ^ 32 → slots_sound ss ≡ true → slots_sound (slice_set ss i (filled t k p)) ≡ true
sound_filled [] i k p t l f a r w d = absurd (omega arith)
sound_filled (s ∷ ss) zero k p t l f a r w d =
    let e = has_slot s ss k in
    let h : has (slots_held ss) k ≡ false = grind (arith, nat_tests) in
    let q = eq-eqb _ _ (ap length (take_at p (drop (length p) t.room.bytes) (length p) refl)) in
    let m = lt-ltb k (2 ^ 32) w in
    simp (r, q, m, h, (first_sound s ss d).1)
sound_filled (s ∷ ss) (suc i) k p t l f a r w d =
    let e = has_slot s ss k in
    let h : has (slots_held ss) k ≡ false = grind (arith, nat_tests) in
    let n : holds_number s k ≡ false = grind (arith, nat_tests) in
    let g = first_sound s ss d in
    simp (held_filled ss i k p t (omega arith) f h, sound_insert s.room.bytes s.held k p (slots_held ss) n g.0, sound_filled ss i k p t (omega arith) f h r w g.1)

-- a slot is emptied
pub held_emptied : (ss : List Slot) (i k : ℕ) (t : Slot) → i < length ss → holds_number (slice_index_or ss i no_slot) k ≡ true → IsNone t.held → slots_sound ss ≡ true → slots_held (slice_set ss i t) ≡ remove k (slots_held ss)
held_emptied [] i k t l a o d = absurd (omega arith)
held_emptied (s ∷ ss) zero k t l a o d = adds_none t.room.bytes t.held (slots_held ss) o ∙ sym (remove_adds s.room.bytes s.held (slots_held ss) k (first_sound s ss d).0 a)
held_emptied (s ∷ ss) (suc i) k t l a o d =
    let f = first_sound s ss d in
    let n = numbered_other s.room.bytes s.held (slots_held ss) k f.0 (has_some ss k i (omega arith) a) in
    ap (adds s.room.bytes s.held) (held_emptied ss i k t (omega arith) a o f.1) ∙ adds_remove s.room.bytes s.held k (slots_held ss) (up_held ss f.1) n

has_emptied : (ss : List Slot) (i n : ℕ) (t : Slot) → IsNone t.held → has (slots_held ss) n ≡ false → has (slots_held (slice_set ss i t)) n ≡ false
has_emptied [] i n t o a = refl
has_emptied (s ∷ ss) zero n t o a = let e = has_slot s ss n in ap (λ h. has h n) (adds_none t.room.bytes t.held (slots_held ss) o) ∙ grind (arith, nat_tests)
has_emptied (s ∷ ss) (suc i) n t o a =
    let e = has_slot s ss n in
    let e2 = has_slot s (slice_set ss i t) n in
    let w = has_emptied ss i n t o in
    grind (arith, nat_tests)

pub sound_emptied : (ss : List Slot) (i : ℕ) (t : Slot) → IsNone t.held → slots_sound ss ≡ true → slots_sound (slice_set ss i t) ≡ true
sound_emptied [] i t o d = refl
sound_emptied (s ∷ ss) zero t o d = simp (sound_none t.room.bytes t.held (slots_held ss) o, (first_sound s ss d).1)
sound_emptied (s ∷ ss) (suc i) t o d =
    let f = first_sound s ss d in
    simp (sound_fewer s.room.bytes s.held (slots_held ss) (slots_held (slice_set ss i t)) (λ n. has_emptied ss i n t o) f.0, sound_emptied ss i t o f.1)

-- what a slot holds is no longer than a packet, and is what is found under its number
fits_beside : (s : Slot) (o : Option Held) (h : Packets) → sound_beside h s.room.bytes o ≡ true → fits (record { room = s.room; held = o })
fits_beside s None h d = tt
fits_beside s (Some x) h d = grind (arith, nat_tests)

pub fits_at : (ss : List Slot) (i : ℕ) → slots_sound ss ≡ true → fits (slice_index_or ss i no_slot)
fits_at [] i d = tt
fits_at (s ∷ ss) zero d = fits_beside s s.held (slots_held ss) (first_sound s ss d).0
fits_at (s ∷ ss) (suc i) d = fits_at ss i (first_sound s ss d).1

pub lookup_at : (ss : List Slot) (i k : ℕ) → i < length ss → holds_number (slice_index_or ss i no_slot) k ≡ true → slots_sound ss ≡ true → lookup (slots_held ss) k ≡ kept (slice_index_or ss i no_slot)
lookup_at [] i k l a d = absurd (omega arith)
lookup_at (s ∷ ss) zero k l a d = lookup_adds s.room.bytes s.held (slots_held ss) k (first_sound s ss d).0 ∙ simp a
lookup_at (s ∷ ss) (suc i) k l a d =
    let f = first_sound s ss d in
    let n = numbered_other s.room.bytes s.held (slots_held ss) k f.0 (has_some ss k i (omega arith) a) in
    lookup_adds s.room.bytes s.held (slots_held ss) k f.0 ∙ simp n (lookup_at ss i k (omega arith) a f.1)

-- a free place is found exactly if not every slot is taken
pub free_found : (ss : List Slot) → is_some (position (λ s. is_none s.held) ss) ≡ nat_lt (units (λ _. 1) (slots_held ss)) (length ss)
free_found [] = refl
free_found (s ∷ ss) =
    let e = units_slot s ss in
    let m = units_most ss in
    let i = free_found ss in
    grind (arith, nat_tests)

-- every slot is free
pub held_none : (ss : List Slot) → ((k : ℕ) → k < length ss → IsNone (get_or ss k no_slot).held) → slots_held ss ≡ []
held_none [] a = refl
held_none (s ∷ ss) a = adds_none s.room.bytes s.held (slots_held ss) (a 0 (omega arith)) ∙ held_none ss (λ k l. a (suc k) (omega arith))

above_insert : (n : ℕ) (q : List ℕ) (h : Packets) (k : ℕ) → above (insert n q h) k ≡ lesser (cond (nat_lt k n) (Some n) None) (above h k)
above_insert n q [] k = grind (arith, nat_tests)
above_insert n q (x ∷ h) k = let e = above_insert n q h k in grind (arith, nat_tests)

above_adds : (bytes : List ℕ) (o : Option Held) (h : Packets) (k : ℕ) → above (adds bytes o h) k ≡ lesser (option_and_then (λ x. cond (nat_lt k x.number) (Some x.number) None) o) (above h k)
above_adds bytes None h k = refl
above_adds bytes (Some x) h k = above_insert x.number (front bytes x) h k

lesser_assoc : (a b c : Option ℕ) → lesser a (lesser b c) ≡ lesser (lesser a b) c
lesser_assoc None b c = refl
lesser_assoc (Some a) None c = refl
lesser_assoc (Some a) (Some b) None = refl
lesser_assoc (Some a) (Some b) (Some c) = ap Some (omega arith)

lesser_none : (a : Option ℕ) → lesser a None ≡ a
lesser_none None = refl
lesser_none (Some a) = refl

-- one more slot is asked
pub above_more : (ss : List Slot) (i k : ℕ) (m : Option ℕ) → i < length ss → lesser m (above (slots_held (drop i ss)) k) ≡ lesser (lesser m (number_above (slice_index_or ss i no_slot) k)) (above (slots_held (drop (i + 1) ss)) k)
above_more ss i k m l =
    let s = slice_index_or ss i no_slot in
    let h = slots_held (drop (i + 1) ss) in
    at_drop_more (λ xs. lesser m (above (slots_held xs) k)) ss i no_slot l
    ∙ ap (lesser m) (above_adds s.room.bytes s.held h k)
    ∙ lesser_assoc m (number_above s k) (above h k)

pub above_end : (ss : List Slot) (i k : ℕ) (m : Option ℕ) → length ss ≤ i → lesser m (above (slots_held (drop i ss)) k) ≡ m
above_end ss i k m l = at_drop_all (λ xs. lesser m (above (slots_held xs) k)) ss i l ∙ lesser_none m

-- the units are the slots that hold a packet, counted
pub units_count : (ss : List Slot) → units (λ _. 1) (slots_held ss) ≡ length (filter (λ s. is_some s.held) ss)
units_count [] = refl
units_count (s ∷ ss) =
    let e = units_slot s ss in
    let i = units_count ss in
    grind (arith, nat_tests)

pub sound_all : (ss : List Slot) → ((k : ℕ) → k < length ss → IsNone (get_or ss k no_slot).held) → slots_sound ss ≡ true
sound_all [] a = refl
sound_all (s ∷ ss) a = simp (sound_none s.room.bytes s.held (slots_held ss) (a 0 (omega arith)), sound_all ss (λ k l. a (suc k) (omega arith)))

-- a packet's bytes are put into a slot (now ts), which is then told to hold it (now us)
marked_roomed : (ss : List Slot) (i : ℕ) (r : Room) (h : Held) → i < length ss → slice_set (roomed ss i r) i (marked (slice_index_or (roomed ss i r) i no_slot) h) ≡ slice_set ss i (record { room = r; held = Some h })
marked_roomed [] i r h l = absurd (omega arith)
marked_roomed (s ∷ ss) zero r h l = refl
marked_roomed (s ∷ ss) (suc i) r h l = ap (λ t. s ∷ t) (marked_roomed ss i r h (omega arith))

pub put_in : (ss ts us : List Slot) (i k : ℕ) (p : List ℕ) → i < length ss → ts ≡ roomed ss i (fronted (slice_index_or ss i no_slot).room p)
    → us ≡ slice_set ts i (marked (slice_index_or ts i no_slot) (record { number = k; len = length p })) → us ≡ slice_set ss i (filled (slice_index_or ss i no_slot) k p)
put_in ss ts us i k p l e f =
    let h : Held = record { number = k; len = length p } in
    f ∙ ap (λ t. slice_set t i (marked (slice_index_or t i no_slot) h)) e ∙ marked_roomed ss i (fronted (slice_index_or ss i no_slot).room p) h l

-- a slot that holds a number has a packet
numbered_some : (bytes : List ℕ) (o : Option Held) (k : ℕ) → numbered o k ≡ true → length_of (option_map (front bytes) o) ≡ None → ⊥
numbered_some bytes None k n e = both_ways false refl n
numbered_some bytes (Some x) k n e = let z : ◌≡◌ {A = ℕ} 0 1 = cc in omega arith

pub kept_some : (s : Slot) (k : ℕ) → holds_number s k ≡ true → length_of (kept s) ≡ None → ⊥
kept_some s k n e = numbered_some s.room.bytes s.held k n e
