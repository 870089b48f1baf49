-- What a packet says, or why it is refused. Offsets count from the packet's start.
use Rattle.std.specs.Prelude.{◌≡◌, ◌≤◌, ℕ, ◌+◌, ◌-◌, ◌%◌, Bool, cond, not, ◌&&◌, ◌||◌, List, length, drop, is_ok, Some, None, Ok, Err, Option, Result, ◌==◌, nat_lt, slice_index}
use Rattle.std.specs.Result.{result_map_both}
use Rattle.wire.specs.declared.fault.ReadFault.{ReadFault}
use Rattle.wire.specs.declared.fault.ReadFault.TheVariants.{Length, Size, Product, Unknown, Flag, Body}
use Rattle.common.specs.Lengths.{right}
use Rattle.wire.specs.declared.reader.TheConstants.{HEADER}
use Rattle.wire.specs.declared.reader.Kind.{Kind}
use Rattle.wire.specs.declared.reader.Kind.TheVariants as kind
use Rattle.wire.specs.declared.reader.Fields.{Fields}
use Rattle.wire.specs.declared.reader.Header.{Header}
use Rattle.wire.specs.declared.message.Message.{Message}
use Rattle.wire.specs.declared.message.Message.TheVariants.{Reset, Unavailable, Mapping, Full, Delta}
use Rattle.wire.specs.declared.message.Packet.{Packet}
use Rattle.wire.specs.declared.message.Class.{Class}
use Rattle.wire.specs.declared.message.Class.TheVariants as class
use Rattle.wire.specs.Bytes.{be16, be32, first}
use Rattle.wire.specs.Points.{side_in, reason_in}

-- a message, its points as bytes
pub data Msg : Type 0 where
  reset : ℕ → Msg
  unavailable : ℕ → ℕ → Msg
  mapping : Msg
  full : ℕ → ℕ → List ℕ → Msg
  delta : ℕ → ℕ → List ℕ → Msg

-- a packet: number, flag, link flag and message
pub record Pkt : Type 0 where
  pub number : ℕ
  pub flag : ℕ
  pub link : ℕ
  pub message : Msg

-- the message that a value of the code stands for
abbrev pub model : Message → Msg
model (Reset n) = reset n
model (Unavailable b e) = unavailable b e
model Mapping = mapping
model (Full i s ps) = full i s ps.now
model (Delta i s ps) = delta i s ps.now

abbrev pub packet_model : Packet → Pkt
packet_model p = record { number = p.number; flag = p.flag; link = p.link; message = model p.message }

abbrev pub told_message : Result Message ReadFault → Result Msg ReadFault
told_message r = result_map_both model (λ f. f) r

abbrev pub told : Result Packet ReadFault → Result Pkt ReadFault
told r = result_map_both packet_model (λ f. f) r

-- what a packet is to a channel: types 35, 230 and 231 are data, but 230 with flag 5 or 6 is a refresh
abbrev pub full_class : ℕ → Class
full_class flag = cond (flag == 5 || flag == 6) class.Refresh class.Data

abbrev pub message_class : Msg → ℕ → Class
message_class (reset n) flag = class.Reset
message_class (unavailable b e) flag = class.Unavailable
message_class mapping flag = class.Data
message_class (full i s ps) flag = full_class flag
message_class (delta i s ps) flag = class.Data

abbrev pub class_of : Pkt → Class
class_of p = message_class p.message p.flag

abbrev pub and_then : {A B E : Type 0} → Result A E → (A → Result B E) → Result B E
and_then (Ok a) f = f a
and_then (Err e) f = Err e

-- the five types that a channel carries
abbrev pub kind_from : ℕ → Result Kind ReadFault
kind_from n =
    cond (n == 1) (Ok kind.Reset)
    (cond (n == 5) (Ok kind.Unavailable)
    (cond (n == 35) (Ok kind.Mapping)
    (cond (n == 230) (Ok kind.Full)
    (cond (n == 231) (Ok kind.Delta)
    (Err Unknown)))))

-- the flags that a type may have: 1 and 2, and for a full update 5 and 6 too
abbrev pub allowed : Kind → ℕ → Bool
allowed kind.Reset f = f == 1 || f == 2
allowed kind.Unavailable f = f == 1 || f == 2
allowed kind.Mapping f = f == 1 || f == 2
allowed kind.Delta f = f == 1 || f == 2
allowed kind.Full f = f == 1 || f == 2 || f == 5 || f == 6

-- B or S
abbrev pub side : ℕ → Bool
side b = is_ok (side_in b)

-- O, C, E or X
abbrev pub reason : ℕ → Bool
reason b = is_ok (reason_in b)

-- the byte at an offset of a point of a full update is a side, and is wrong
abbrev pub wrong_in_price_point : ℕ → ℕ → Bool
wrong_in_price_point k b = k == 10 && not (side b)

-- the byte at an offset of a point of a delta is a side or a reason, and is wrong
abbrev pub wrong_in_delta_point : ℕ → ℕ → Bool
wrong_in_delta_point k b = (k == 14 && not (side b)) || (k == 15 && not (reason b))

-- the byte at an offset of the points, each of so many bytes, is wrong in its point
abbrev pub wrong_in : ℕ → (ℕ → ℕ → Bool) → List ℕ → ℕ → Bool
wrong_in size wrong ps k = wrong (k % size) (slice_index ps k)

abbrev pub wrong_in_full : List ℕ → ℕ → Bool
wrong_in_full = wrong_in 12 wrong_in_price_point

abbrev pub wrong_in_delta : List ℕ → ℕ → Bool
wrong_in_delta = wrong_in 28 wrong_in_delta_point

-- refused at the first wrong byte of points that begin at an offset, where there is one
abbrev pub unless : ℕ → Option ℕ → Result Msg ReadFault → Result Msg ReadFault
unless start (Some o) r = Err (Body (start + o))
unless start None r = r

-- a packet's length, of its body
abbrev pub whole : List ℕ → ℕ
whole b = HEADER + length b

-- the fields of a body, by their offset in the packet
abbrev pub byte_at : List ℕ → ℕ → ℕ
byte_at b o = slice_index b (o - 16)

abbrev pub u16_at : List ℕ → ℕ → ℕ
u16_at b o = be16 b (o - 16)

abbrev pub u32_at : List ℕ → ℕ → ℕ
u32_at b o = be32 b (o - 16)

abbrev pub from : List ℕ → ℕ → List ℕ
from b o = drop (o - 16) b

abbrev pub reset_in : List ℕ → Result Msg ReadFault
reset_in b =
    cond (not (whole b == 20)) (Err (Body 0))
    (cond (u32_at b 16 == 0) (Err (Body 16))
    (Ok (reset (u32_at b 16))))

abbrev pub unavailable_in : List ℕ → Result Msg ReadFault
unavailable_in b =
    cond (not (whole b == 24)) (Err (Body 0))
    (cond (u32_at b 16 == 0) (Err (Body 16))
    (cond (nat_lt (u32_at b 20) (u32_at b 16)) (Err (Body 20))
    (Ok (unavailable (u32_at b 16) (u32_at b 20)))))

abbrev pub mapping_in : List ℕ → Result Msg ReadFault
mapping_in b = cond (not (whole b == 30)) (Err (Body 0)) (Ok mapping)

-- an update whose points have so many bytes: its scale is at an offset, the points begin behind the fixed bytes, and a packet has a least length
abbrev pub update_in : ℕ → ℕ → ℕ → ℕ → (ℕ → ℕ → Bool) → (ℕ → ℕ → List ℕ → Msg) → List ℕ → Result Msg ReadFault
update_in size scale fixed shortest wrong said b =
    cond (nat_lt (whole b) shortest || not ((whole b - fixed) % size == 0)) (Err (Body 0))
    (cond (nat_lt 9 (byte_at b scale)) (Err (Body scale))
    (unless fixed (first (wrong_in size wrong (from b fixed)) (length (from b fixed)))
    (Ok (said (u16_at b 18) (byte_at b scale) (from b fixed)))))

-- 46 fixed bytes and any count of points of 12
abbrev pub full_in : List ℕ → Result Msg ReadFault
full_in = update_in 12 42 46 46 wrong_in_price_point full

-- 34 fixed bytes and one or more points of 28
abbrev pub delta_in : List ℕ → Result Msg ReadFault
delta_in = update_in 28 33 34 62 wrong_in_delta_point delta

abbrev pub body_in : Kind → List ℕ → Result Msg ReadFault
body_in kind.Reset b = reset_in b
body_in kind.Unavailable b = unavailable_in b
body_in kind.Mapping b = mapping_in b
body_in kind.Full b = full_in b
body_in kind.Delta b = delta_in b

-- a header and the body behind it
pub record Hdr : Type 0 where
  pub kind : Kind
  pub number : ℕ
  pub flag : ℕ
  pub link : ℕ
  pub body : List ℕ

abbrev pub told_header : Result Header ReadFault → Result Hdr ReadFault
told_header r = result_map_both (λ h. record { kind = h.kind; number = h.number; flag = h.flag; link = h.link; body = h.body.now }) (λ f. f) r

-- the fields of a header that stands in front of a packet, and what is behind it
pub record Fielded (p : List ℕ) (f : Fields) : Type 0 where
  pub long : 16 ≤ length p
  pub size : f.size ≡ be16 p 0
  pub code : f.code ≡ be16 p 2
  pub number : f.number ≡ be32 p 4
  pub product : f.product ≡ slice_index p 12
  pub flag : f.flag ≡ slice_index p 13
  pub link : f.link ≡ slice_index p 15
  pub body : f.body.now ≡ drop 16 p

-- the header of a packet, or the first of its refusals
abbrev pub header_in : List ℕ → Result Hdr ReadFault
header_in p =
    cond (not (right (length p))) (Err Length)
    (cond (not (be16 p 0 + 2 == length p)) (Err Size)
    (cond (not (slice_index p 12 == 115)) (Err Product)
    (and_then (kind_from (be16 p 2)) (λ k.
    cond (not (allowed k (slice_index p 13))) (Err Flag)
    (Ok (record { kind = k; number = be32 p 4; flag = slice_index p 13; link = slice_index p 15; body = drop 16 p }))))))

-- what a packet says, or the first of its refusals
abbrev pub reading : List ℕ → Result Pkt ReadFault
reading p =
    and_then (header_in p) (λ h.
    and_then (body_in h.kind h.body) (λ m.
    Ok (record { number = h.number; flag = h.flag; link = h.link; message = m })))
