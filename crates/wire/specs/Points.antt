-- The points of a full update and of a delta. An offset counts from the first point.
use Rattle.std.specs.Prelude.{◌≡◌, ℕ, ◌+◌, ◌*◌, ◌/◌, cond, List, map, length, drop, Some, None, Ok, Err, Option, Result, ◌==◌, nat_lt, slice_index}
use Rattle.std.specs.List.{range_with_len}
use Rattle.std.specs.Result.{result_unwrap_or}
use Rattle.wire.specs.declared.point.Side.{Side}
use Rattle.wire.specs.declared.point.Side.TheVariants.{Buy, Sell}
use Rattle.wire.specs.declared.point.Reason.{Reason}
use Rattle.wire.specs.declared.point.Reason.TheVariants.{Order, Cancel, Execution, Multiple}
use Rattle.wire.specs.declared.point.UnknownLetter.{UnknownLetter}
use Rattle.wire.specs.declared.point.PricePoint.{PricePoint}
use Rattle.wire.specs.declared.point.DeltaPoint.{DeltaPoint}
use Rattle.wire.specs.Bytes.{be16, be32}

-- B and S
abbrev pub side_letter : Side → ℕ
side_letter Buy = 66
side_letter Sell = 83

-- O, C, E and X
abbrev pub reason_letter : Reason → ℕ
reason_letter Order = 79
reason_letter Cancel = 67
reason_letter Execution = 69
reason_letter Multiple = 88

-- the side or the reason that a letter names, where it names one
abbrev pub side_in : ℕ → Result Side UnknownLetter
side_in b = cond (b == 66) (Ok Buy) (cond (b == 83) (Ok Sell) (Err (record { 0 = b })))

abbrev pub reason_in : ℕ → Result Reason UnknownLetter
reason_in b =
    cond (b == 79) (Ok Order)
    (cond (b == 67) (Ok Cancel)
    (cond (b == 69) (Ok Execution)
    (cond (b == 88) (Ok Multiple)
    (Err (record { 0 = b })))))

-- the side and the reason of a letter; a packet that is read has a letter of each, and any other byte counts as the last of them
abbrev pub side_of : ℕ → Side
side_of b = result_unwrap_or (side_in b) Sell

abbrev pub reason_of : ℕ → Reason
reason_of b = result_unwrap_or (reason_in b) Multiple

-- the point of a full update at an offset
abbrev pub full_at : List ℕ → ℕ → PricePoint
full_at ps o = record {
  numerator = be32 ps o;
  volume = be32 ps (o + 4);
  orders = be16 ps (o + 8);
  side = side_of (slice_index ps (o + 10));
}

-- the point of a delta at an offset
abbrev pub delta_at : List ℕ → ℕ → DeltaPoint
delta_at ps o = record {
  level = record { numerator = be32 ps o; volume = be32 ps (o + 4); orders = be16 ps (o + 12); side = side_of (slice_index ps (o + 14)) };
  changed = be32 ps (o + 8);
  reason = reason_of (slice_index ps (o + 15));
  link = be32 ps (o + 16);
}

module _ {P : Type 0} (size : ℕ) (at : List ℕ → ℕ → P) where
  -- the points of a part of a packet, each of so many bytes: what `at` says at the offset of each
  unfoldable pub points : List ℕ → List P
  points ps = map (λ i. at ps (i * size)) (range_with_len 0 (length ps / size))

  -- the point of an index, if there is one
  abbrev pub point_in : List ℕ → ℕ → Option P
  point_in ps i = cond (nat_lt i (length ps / size)) (Some (at ps (i * size))) None

-- the points of a full update, and those of a delta
abbrev pub points_in_full : List ℕ → List PricePoint
points_in_full = points 12 full_at

abbrev pub points_in_delta : List ℕ → List DeltaPoint
points_in_delta = points 28 delta_at

-- what begins at an offset behind the first n bytes begins n bytes further in the whole
abbrev pub Shifts : {P : Type 0} → (List ℕ → ℕ → P) → Type 0
Shifts at = (ps : List ℕ) (n o : ℕ) → at (drop n ps) o ≡ at ps (n + o)
