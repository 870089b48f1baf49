-- The request for a retransmission.
use Rattle.std.specs.Prelude.{◌≡◌, ℕ, ◌+◌, ◌-◌, ◌/◌, ◌%◌, ◌<◌, ◌≤◌, Bool, true, cond, not, ◌&&◌, List, [], ◌∷◌, ◌++◌, length, take, drop, replicate, Ok, Err, Result, ◌==◌, nat_le, slice_index, slice_index_or}
use Rattle.wire.specs.Bytes.{be16, be32}
use Rattle.wire.specs.declared.request.TheConstants.{REQUEST, LONGEST_SOURCE}
use Rattle.wire.specs.declared.fault.RequestFault.{RequestFault}
use Rattle.wire.specs.declared.fault.RequestFault.TheVariants.{Short, Source}

-- a number in four bytes, the most significant first
abbrev pub bytes32 : ℕ → List ℕ
bytes32 n = (n / 16777216 % 256) ∷ (n / 65536 % 256) ∷ (n / 256 % 256) ∷ (n % 256) ∷ []

abbrev pub nonzero : List ℕ → Bool
nonzero [] = true
nonzero (b ∷ bs) = not (b == 0) && nonzero bs

-- 1 to 20 nonzero bytes
abbrev pub source_right : List ℕ → Bool
source_right s = nat_le 1 (length s) && (nat_le (length s) LONGEST_SOURCE && nonzero s)

-- MsgSize 42, type 20, number 0, time, product 115, flag 1, one entry, link flag 0, begin and end
abbrev pub request_head : ℕ → ℕ → ℕ → List ℕ
request_head time begin end =
    (0 ∷ 42 ∷ 0 ∷ 20 ∷ 0 ∷ 0 ∷ 0 ∷ 0 ∷ []) ++ (bytes32 time ++ ((115 ∷ 1 ∷ 1 ∷ 0 ∷ []) ++ (bytes32 begin ++ bytes32 end)))

-- the head, and the source id padded with zeros to 20 bytes
abbrev pub request : ℕ → ℕ → ℕ → List ℕ → List ℕ
request time begin end source = request_head time begin end ++ (source ++ replicate (LONGEST_SOURCE - length source) 0)

abbrev pub request_answer : List ℕ → List ℕ → Result (Unit {0}) RequestFault
request_answer buffer source = cond (nat_le REQUEST (length buffer)) (cond (source_right source) (Ok tt) (Err Source)) (Err Short)

-- a refused request writes nothing; bytes from 44 on stay
abbrev pub request_after : List ℕ → ℕ → ℕ → ℕ → List ℕ → List ℕ
request_after buffer time begin end source =
    cond (nat_le REQUEST (length buffer) && source_right source) (request time begin end source ++ drop REQUEST buffer) buffer

-- a request for the numbers from begin to end, field by field
pub record Requests (p : List ℕ) (time begin end : ℕ) (source : List ℕ) : Type 0 where
  pub size : be16 p 0 ≡ 42
  pub kind : be16 p 2 ≡ 20
  pub number : be32 p 4 ≡ 0
  pub sent : be32 p 8 ≡ time
  pub product : slice_index_or p 12 0 ≡ 115
  pub flag : slice_index_or p 13 0 ≡ 1
  pub entries : slice_index_or p 14 0 ≡ 1
  pub link : slice_index_or p 15 0 ≡ 0
  pub first : be32 p 16 ≡ begin
  pub last : be32 p 20 ≡ end
  pub name : take (length source) (drop 24 p) ≡ source
  pub padding : (k : ℕ) → 24 + length source ≤ k → k < REQUEST → slice_index p k ≡ 0
