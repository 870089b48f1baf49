-- What the reading of a packet comes to, in the words of the format: which packets are right, and why the others are refused.
-- Offsets count from the packet's start.
use Rattle.std.specs.Prelude.{◌≡◌, ℕ, ◌+◌, ◌-◌, ◌%◌, ◌<◌, ◌≤◌, Bool, true, false, not, ◌&&◌, ◌||◌, List, length, drop, Ok, Err, Result, ◌==◌, ◌≢◌, nat_le, nat_lt, slice_index}
use Rattle.wire.specs.declared.fault.ReadFault.{ReadFault}
use Rattle.wire.specs.declared.fault.ReadFault.TheVariants.{Length, Size, Product, Unknown, Flag, Body}
use Rattle.common.specs.declared.TheConstants.{SHORTEST, LONGEST}
use Rattle.wire.specs.declared.reader.Kind.{Kind}
use Rattle.wire.specs.declared.reader.Kind.TheVariants as kind
use Rattle.wire.specs.Bytes.{be16, be32}
use Rattle.wire.specs.Reading.{Msg, Pkt, reset, unavailable, mapping, full, delta, allowed, side, reason}

-- 16 to 1,500 bytes
abbrev pub Long : List ℕ → Type 0
Long p = (SHORTEST ≤ length p) × (length p ≤ LONGEST)

-- whose size is its own
abbrev pub Framed : List ℕ → Type 0
Framed p = Long p × (be16 p 0 + 2 ≡ length p)

-- and whose product is the feed's
abbrev pub Ours : List ℕ → Type 0
Ours p = Framed p × (slice_index p 12 ≡ 115)

-- the number of a type
abbrev pub code : Kind → ℕ
code kind.Reset = 1
code kind.Unavailable = 5
code kind.Mapping = 35
code kind.Full = 230
code kind.Delta = 231

-- a number that is no type's
abbrev pub Untyped : ℕ → Type 0
Untyped n = (k : Kind) → code k ≢ n

-- a packet of a type, its header right
pub record Headed (k : Kind) (p : List ℕ) : Type 0 where
  pub ours : Ours p
  pub typed : code k ≡ be16 p 2
  pub flagged : allowed k (slice_index p 13) ≡ true

-- the lengths that a type may have
abbrev pub fits : Kind → ℕ → Bool
fits kind.Reset n = n == 20
fits kind.Unavailable n = n == 24
fits kind.Mapping n = n == 30
fits kind.Full n = nat_le 46 n && (n - 46) % 12 == 0
fits kind.Delta n = nat_le 62 n && (n - 34) % 28 == 0

-- the byte `place` of a point, where points of `size` bytes begin at `start`
abbrev pub placed : ℕ → ℕ → ℕ → ℕ → Bool
placed start size place o = nat_le start o && (o - start) % size == place

-- the body is wrong at an offset
abbrev pub wrong_at : Kind → List ℕ → ℕ → Bool
wrong_at kind.Reset p o = o == 16 && be32 p 16 == 0
wrong_at kind.Unavailable p o = (o == 16 && be32 p 16 == 0) || (o == 20 && nat_lt (be32 p 20) (be32 p 16))
wrong_at kind.Mapping p o = false
wrong_at kind.Full p o = (o == 42 && nat_lt 9 (slice_index p 42)) || (placed 46 12 10 o && not (side (slice_index p o)))
wrong_at kind.Delta p o =
    (o == 33 && nat_lt 9 (slice_index p 33)) || ((placed 34 28 14 o && not (side (slice_index p o))) || (placed 34 28 15 o && not (reason (slice_index p o))))

-- no byte below an offset is wrong
abbrev pub RightBelow : Kind → List ℕ → ℕ → Type 0
RightBelow k p n = (o : ℕ) → o < n → wrong_at k p o ≡ false

-- the message of a packet of a type
abbrev pub message_of : Kind → List ℕ → Msg
message_of kind.Reset p = reset (be32 p 16)
message_of kind.Unavailable p = unavailable (be32 p 16) (be32 p 20)
message_of kind.Mapping p = mapping
message_of kind.Full p = full (be16 p 18) (slice_index p 42) (drop 46 p)
message_of kind.Delta p = delta (be16 p 18) (slice_index p 33) (drop 34 p)

-- a packet that is right, and what it says
pub record Right (p : List ℕ) (q : Pkt) : Type 0 where
  pub kind : Kind
  pub headed : Headed kind p
  pub fitting : fits kind (length p) ≡ true
  pub right : RightBelow kind p (length p)
  pub number : q.number ≡ be32 p 4
  pub flag : q.flag ≡ slice_index p 13
  pub link : q.link ≡ slice_index p 15
  pub message : q.message ≡ message_of kind p

-- the body of a type is at fault: at 0 for its length, else at the first wrong byte
abbrev pub Faulty : Kind → List ℕ → ℕ → Type 0
Faulty k p o =
    (fits k (length p) ≡ false → o ≡ 0)
    × (fits k (length p) ≡ true → (o < length p) × (wrong_at k p o ≡ true) × RightBelow k p o)

-- why a packet is refused: all that is tested before was right
abbrev pub Cause : ReadFault → List ℕ → Type 0
Cause Length p = Long p → ⊥
Cause Size p = Long p × (be16 p 0 + 2 ≢ length p)
Cause Product p = Framed p × (slice_index p 12 ≢ 115)
Cause Unknown p = Ours p × Untyped (be16 p 2)
Cause Flag p = Ours p × ((k : Kind) × (code k ≡ be16 p 2) × (allowed k (slice_index p 13) ≡ false))
Cause (Body o) p = (k : Kind) × Headed k p × Faulty k p o

-- a packet that is read is right, and one that is refused has its cause
abbrev pub Judged : List ℕ → Result Pkt ReadFault → Type 0
Judged p (Ok q) = Right p q
Judged p (Err f) = Cause f p
