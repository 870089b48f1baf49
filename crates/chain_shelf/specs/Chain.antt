-- What the bytes of a region hold, when they are sound, and what a put and a take change.
use Rattle.std.specs.Prelude.{◌≡◌, ℕ, ◌+◌, ◌-◌, ◌*◌, ◌/◌, ◌<◌, ◌≤◌, cond, ◌⊎◌, List, [], ◌∷◌, length, ◌==◌, ◌≢◌}
use Rattle.chain_shelf.specs.declared.region.TheConstants.{RECORD, FEWEST_RECORDS, MOST_RECORDS}
use Rattle.chain_shelf.specs.declared.records.TheConstants.{LINK, NEXT, BODY}
use Rattle.chain_shelf.specs.declared.packets.TheConstants.{FIRST_ROOM, ROOM}
use Rattle.chain_shelf.specs.Records.{Mem, mem, records, link, next, number, size, tail, in_use, span, walk, gather, cnt, heads, under, last}
use Rattle.shelf.specs.Store.{Packets, Store, units, Up, Sized}

-- a packet: its number, its bytes and its records
abbrev pub Pack : Type 0
Pack = ℕ × List ℕ × List ℕ

-- the packet whose first record is h
abbrev pub pack : Mem → ℕ → Pack
pack m h = (number m h, gather m (span BODY (size m h)) h BODY (size m h), walk (link m) (span BODY (size m h)) h)

-- the packets that have these first records
abbrev pub layout : Mem → List ℕ → List Pack
layout m [] = []
layout m (h ∷ hs) = pack m h ∷ layout m hs

-- packets as a store has them, without their records
abbrev pub packets : List Pack → Packets
packets [] = []
packets (x ∷ l) = (x.0, x.1) ∷ packets l

-- how often a record is among those of packets
abbrev pub tally : ℕ → List Pack → ℕ
tally q [] = 0
tally q (x ∷ l) = cnt q x.2 + tally q l

-- the links that the last records of packets have, added up
abbrev pub loose : Mem → List Pack → ℕ
loose m [] = 0
loose m (x ∷ l) = link m (last 0 x.2) + loose m l

-- the packets of a region
abbrev pub packs : List ℕ → List Pack
packs b = layout (mem b) (heads b)

-- the same, as a store has them
abbrev pub held : List ℕ → Packets
held b = packets (packs b)

-- how many records the packets take
abbrev pub spent : List ℕ → ℕ
spent b = units (span BODY) (held b)

-- the free records: as many as the packets leave, record 0 not counted
abbrev pub free : List ℕ → List ℕ
free b = walk (link (mem b)) (records b - 1 - spent b) (link (mem b) 0)

-- a chain from q, through hs, to 0
abbrev pub Seg : (ℕ → ℕ) → ℕ → List ℕ → Type 0
Seg g q [] = g q ≡ 0
Seg g q (h ∷ hs) = (g q ≡ h) × (h ≢ 0) × Seg g h hs

-- A region is sound: the chain of packets ends in 0; no record is twice in the packets and the free records; each of those is one of the records
-- above 0 (and by their number they are all of them); every chain of records ends in link 0; record 0 leads to the last packet and counts the
-- records that are in use; numbers rise from packet to packet; and each length is one that a packet may have.
pub record Sound (b : List ℕ) : Type 0 where
  pub chain : Seg (next (mem b)) 0 (heads b)
  pub once : (q : ℕ) → tally q (packs b) + cnt q (free b) ≤ 1
  pub inside : (q : ℕ) → 0 < tally q (packs b) + cnt q (free b) → (0 < q) × (q < records b)
  pub marked : loose (mem b) (packs b) + link (mem b) (last 0 (free b)) ≡ 0
  pub ends : tail (mem b) ≡ last 0 (heads b)
  pub counted : in_use (mem b) ≡ spent b
  pub room : spent b < records b
  pub rising : Up 0 (held b)
  pub sized : Sized (held b)

-- 26 to 65,535 whole records
abbrev pub Whole : List ℕ → Type 0
Whole b = (length b ≡ RECORD * records b) × (FEWEST_RECORDS ≤ records b) × (records b ≤ MOST_RECORDS)

-- what a shelf keeps of its region
abbrev pub Kept : List ℕ → Type 0
Kept b = Whole b × ∥ Sound b ∥₁

-- what a region means as a shelf
abbrev pub store : List ℕ → Store
store b = record { held = held b; total = records b - 1; price = span BODY }

-- what an empty shelf means in a region of n bytes
abbrev pub fresh : ℕ → Store
fresh n = record { held = []; total = n / RECORD - 1; price = span BODY }

-- r records have room for n bytes, FIRST_ROOM in the first and ROOM in each other one, just where r is at least the price of n
abbrev pub PriceLaw : Type 0
PriceLaw = (n r : ℕ) → 1 ≤ r → (n ≤ FIRST_ROOM + ROOM * (r - 1) → span BODY n ≤ r) × (span BODY n ≤ r → n ≤ FIRST_ROOM + ROOM * (r - 1))

-- the prices of some lengths
abbrev pub PricesWorked : Type 0
PricesWorked = (span BODY 54 ≡ 1) × (span BODY 55 ≡ 2) × (span BODY 116 ≡ 2) × (span BODY 117 ≡ 3) × (span BODY 1500 ≡ 25)

-- p is the first record of the last packet whose number is below k, or 0
pub record Before (b : List ℕ) (k p : ℕ) : Type 0 where
  pub is : p ≡ last 0 (under (mem b) k (heads b))
  pub within : p < records b

-- the last packet's first record: x where no packet comes after it, else as it was
abbrev pub end : ℕ → ℕ → ℕ → ℕ
end after x old = cond (after == 0) x old

-- What laying the packet xs in under the number k changes, from m to w: it takes the first free records and stands behind the packet at p.
pub record LaidIn (m w : Mem) (p k : ℕ) (xs : List ℕ) : Type 0 where
  pub ends : tail w ≡ end (next m p) (link m 0) (tail m)
  pub counted : in_use w ≡ in_use m + span BODY (length xs)
  pub prev : next w p ≡ link m 0
  pub after : next w (link m 0) ≡ next m p
  pub numbered : number w (link m 0) ≡ k
  pub sized : size w (link m 0) ≡ length xs
  pub bytes : gather w (span BODY (length xs)) (link m 0) BODY (length xs) ≡ xs
  pub free : link w 0 ≡ link m (last 0 (walk (link m) (span BODY (length xs)) (link m 0)))
  pub mark : link w (last 0 (walk (link m) (span BODY (length xs)) (link m 0))) ≡ 0
  pub links : (s : ℕ) → (s ≢ 0) → (s ≢ last 0 (walk (link m) (span BODY (length xs)) (link m 0))) → link w s ≡ link m s
  pub others : (s q : ℕ) → q < RECORD → cnt s (walk (link m) (span BODY (length xs)) (link m 0)) ≡ 0 → (s ≡ 0 → (NEXT ≤ q) × (q < NEXT + 2)) → (s ≡ p → (q < NEXT) ⊎ (NEXT + 2 ≤ q)) → w s q ≡ m s q

-- What taking out the packet with first record h and last record l, behind the one at p, changes, from m to w: its records are the first free ones.
pub record TakenOut (m w : Mem) (p h l : ℕ) : Type 0 where
  pub prev : next w p ≡ next m h
  pub free : link w 0 ≡ h
  pub back : link w l ≡ link m 0
  pub ends : tail w ≡ end (next m h) p (tail m)
  pub counted : in_use w ≡ in_use m - span BODY (size m h)
  pub others : (s q : ℕ) → q < RECORD → (s ≡ 0 → (NEXT ≤ q) × (q < NEXT + 2)) → (s ≡ l → LINK + 2 ≤ q) → (s ≡ p → (q < NEXT) ⊎ (NEXT + 2 ≤ q)) → w s q ≡ m s q
