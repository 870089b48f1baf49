-- The bytes of a region as records, and chains of records.
use Rattle.std.specs.Prelude.{ℕ, zero, suc, ◌+◌, ◌-◌, ◌*◌, ◌/◌, ◌<◌, ◌≤◌, min, cond, List, [], ◌∷◌, ◌++◌, length, ◌==◌, nat_lt, slice_index}
use Rattle.chain_shelf.specs.declared.region.TheConstants.{RECORD}
use Rattle.chain_shelf.specs.declared.records.TheConstants.{LINK, NEXT, NUMBER, SIZE, LAST, USED, MORE}
use Rattle.chain_shelf.specs.declared.packets.TheConstants.{ROOM}

-- bytes by record and by place in the record
abbrev pub Mem : Type 0
Mem = ℕ → ℕ → ℕ

-- the bytes of a region
abbrev pub mem : List ℕ → Mem
mem b r o = slice_index b (RECORD * r + o)

-- how many records a region has
abbrev pub records : List ℕ → ℕ
records b = length b / RECORD

-- two bytes of a record as a number, the low one first
abbrev pub word : Mem → ℕ → ℕ → ℕ
word m r o = m r o + 256 * m r (o + 1)

-- the record after r in its chain; of record 0, the first free record
abbrev pub link : Mem → ℕ → ℕ
link m r = word m r LINK

-- the next packet's first record, or 0; of record 0, the first packet's
abbrev pub next : Mem → ℕ → ℕ
next m r = word m r NEXT

-- the number of the packet whose first record is r
abbrev pub number : Mem → ℕ → ℕ
number m r = word m r NUMBER + 65536 * word m r (NUMBER + 2)

-- the length of the packet whose first record is r
abbrev pub size : Mem → ℕ → ℕ
size m r = word m r SIZE

-- the last packet's first record, or 0, as record 0 has it
abbrev pub tail : Mem → ℕ
tail m = word m 0 LAST

-- the units in use, as record 0 has them
abbrev pub in_use : Mem → ℕ
in_use m = word m 0 USED

-- n bytes of record r, from the place o on
abbrev pub cut : Mem → ℕ → ℕ → ℕ → List ℕ
cut m r o zero = []
cut m r o (suc n) = m r o ∷ cut m r (o + 1) n

-- how many records n bytes take, from the place o on in the first and from MORE on in the others
abbrev pub span : ℕ → ℕ → ℕ
span o n = suc ((n - (RECORD - o) + (ROOM - 1)) / ROOM)

-- n records, from s on
abbrev pub walk : (ℕ → ℕ) → ℕ → ℕ → List ℕ
walk g zero s = []
walk g (suc n) s = s ∷ walk g n (g s)

-- n bytes through f records, from the place o on in the first and from MORE on in the others
abbrev pub gather : Mem → ℕ → ℕ → ℕ → ℕ → List ℕ
gather m zero r o n = []
gather m (suc f) r o n = cut m r o (min n (RECORD - o)) ++ gather m f (link m r) MORE (n - (RECORD - o))

-- 1 where q is x, else 0
abbrev pub hit : ℕ → ℕ → ℕ
hit q x = cond (q == x) 1 0

-- how often q is in a list
abbrev pub cnt : ℕ → List ℕ → ℕ
cnt q [] = 0
cnt q (x ∷ xs) = hit q x + cnt q xs

-- no record twice
abbrev pub Apart : List ℕ → Type 0
Apart xs = (q : ℕ) → cnt q xs ≤ 1

-- records of a region of R, and not record 0
abbrev pub Inside : ℕ → List ℕ → Type 0
Inside R xs = (q : ℕ) → 0 < cnt q xs → (0 < q) × (q < R)

-- a walk of at most f steps, until 0
abbrev pub trail : (ℕ → ℕ) → ℕ → ℕ → List ℕ
trail g zero r = []
trail g (suc f) r = cond (r == 0) [] (r ∷ trail g f (g r))

-- the packets' first records, in order
abbrev pub heads : List ℕ → List ℕ
heads b = trail (next (mem b)) (records b) (next (mem b) 0)

-- of those, the first ones, while their numbers are below k
abbrev pub under : Mem → ℕ → List ℕ → List ℕ
under m k [] = []
under m k (h ∷ hs) = cond (nat_lt (number m h) k) (h ∷ under m k hs) []

-- the last of a list, or q
abbrev pub last : ℕ → List ℕ → ℕ
last q [] = q
last q (h ∷ hs) = last h hs
