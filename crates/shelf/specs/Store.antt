-- What a shelf means: the packets held by number, a total of units, and a price in units for each length.
use Rattle.std.specs.Prelude.{ℕ, suc, ◌+◌, ◌^◌, ◌<◌, ◌≤◌, min, max, Bool, true, false, cond, List, [], ◌∷◌, ◌++◌, length, drop, Some, None, Ok, Err, Option, Result, ◌==◌, nat_le, nat_lt}
use Rattle.std.specs.Option.{option_map}
use Rattle.common.specs.declared.TheConstants.{SHORTEST, LONGEST}
use Rattle.common.specs.Lengths.{right}
use Rattle.shelf.specs.declared.PutFault.{PutFault}
use Rattle.shelf.specs.declared.PutFault.TheVariants.{Length, Held, Full}
use Rattle.shelf.specs.declared.TakeFault.{TakeFault}
use Rattle.shelf.specs.declared.TakeFault.TheVariants.{Short}

-- the number of each refusal of put
abbrev pub put_fault_number : PutFault → ℕ
put_fault_number Length = 2
put_fault_number Held = 11
put_fault_number Full = 13

-- the number of each refusal of take
abbrev pub take_fault_number : TakeFault → ℕ
take_fault_number Short = 1

-- the packets that are held, each beside its number, numbers rising strictly
abbrev pub Packets : Type 0
Packets = List (ℕ × List ℕ)

-- the packet of a number
abbrev pub lookup : Packets → ℕ → Option (List ℕ)
lookup [] k = None
lookup (x ∷ h) k = cond (k == x.0) (Some x.1) (lookup h k)

-- whether a number is held
abbrev pub has : Packets → ℕ → Bool
has [] k = false
has (x ∷ h) k = cond (k == x.0) true (has h k)

-- with one packet more
abbrev pub insert : ℕ → List ℕ → Packets → Packets
insert k p [] = (k, p) ∷ []
insert k p (x ∷ h) = cond (nat_lt k x.0) ((k, p) ∷ x ∷ h) (x ∷ insert k p h)

-- without the packet of a number
abbrev pub remove : ℕ → Packets → Packets
remove k [] = []
remove k (x ∷ h) = cond (k == x.0) h (x ∷ remove k h)

-- the least number held above a given one
abbrev pub above : Packets → ℕ → Option ℕ
above [] k = None
above (x ∷ h) k = cond (nat_lt k x.0) (Some x.0) (above h k)

-- the sum of the prices of the packets held
abbrev pub units : (ℕ → ℕ) → Packets → ℕ
units f [] = 0
units f (x ∷ h) = f (length x.1) + units f h

-- what a shelf means
pub record Store : Type 0 where
  pub held : Packets
  pub total : ℕ
  pub price : ℕ → ℕ

-- the units in use
abbrev pub used : Store → ℕ
used s = units s.price s.held

-- the price of a length, 0 for a length that no packet has
abbrev pub priced : Store → ℕ → ℕ
priced s n = cond (right n) (s.price n) 0

-- total and prices never change
abbrev pub with_held : Store → Packets → Store
with_held s h = record { held = h; total = s.total; price = s.price }

abbrev pub put_answer : Store → ℕ → List ℕ → Result (Unit {0}) PutFault
put_answer s k p =
    cond (right (length p))
    (cond (has s.held k) (Err Held)
    (cond (nat_le (used s + s.price (length p)) s.total) (Ok tt) (Err Full)))
    (Err Length)

abbrev pub put_after : Store → ℕ → List ℕ → Store
put_after s k p =
    cond (right (length p))
    (cond (has s.held k) s
    (cond (nat_le (used s + s.price (length p)) s.total) (with_held s (insert k p s.held)) s))
    s

abbrev pub length_of : Option (List ℕ) → Option ℕ
length_of x = option_map length x

-- a buffer with the packet in front, its rest as it was
abbrev pub written : Option (List ℕ) → List ℕ → List ℕ
written None b = b
written (Some p) b = p ++ drop (length p) b

abbrev pub take_answer : Store → ℕ → List ℕ → Result (Option ℕ) TakeFault
take_answer s k b = cond (nat_le LONGEST (length b)) (Ok (length_of (lookup s.held k))) (Err Short)

abbrev pub take_buffer : Store → ℕ → List ℕ → List ℕ
take_buffer s k b = cond (nat_le LONGEST (length b)) (written (lookup s.held k) b) b

abbrev pub take_after : Store → ℕ → List ℕ → Store
take_after s k b = cond (nat_le LONGEST (length b)) (with_held s (remove k s.held)) s

-- numbers rise strictly, from k on, and fit 32 bits
abbrev pub Up : ℕ → Packets → Type 0
Up k [] = Unit {0}
Up k (x ∷ h) = (k ≤ x.0) × (x.0 < 2 ^ 32) × Up (suc x.0) h

-- each packet has a length that a packet may have
abbrev pub Sized : Packets → Type 0
Sized [] = Unit {0}
Sized (x ∷ h) = (SHORTEST ≤ length x.1) × (length x.1 ≤ LONGEST) × Sized h

-- the law of every shelf
pub record Lawful (s : Store) : Type 0 where
  pub least : (n : ℕ) → SHORTEST ≤ n → n ≤ LONGEST → 1 ≤ s.price n
  pub most : (n : ℕ) → SHORTEST ≤ n → n ≤ LONGEST → s.price n ≤ s.total
  pub grows : (m n : ℕ) → SHORTEST ≤ m → m ≤ n → n ≤ LONGEST → s.price m ≤ s.price n
  pub fits : s.total < 2 ^ 32
  pub spent : used s < 2 ^ 32
  pub up : Up 0 s.held
  pub sized : Sized s.held

-- a shelf of which at most limit units may be spent; a limit below the price of the longest packet counts as that price
abbrev pub capped : ℕ → Store → Store
capped limit s = record { held = s.held; total = min (max limit (s.price LONGEST)) s.total; price = s.price }
