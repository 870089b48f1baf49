-- A record. Offsets count from its start.
use Rattle.std.specs.Prelude.{ℕ, ◌+◌, ◌*◌, ◌/◌, ◌%◌, cond, List, length, slice_range, Ok, Err, Result, nat_lt}
use Rattle.std.specs.Result.{result_map_both}
use Rattle.capture.specs.declared.format.Order.{Order}
use Rattle.capture.specs.declared.format.Unit as unit
use Rattle.capture.specs.declared.format.Unit.TheVariants.{Micros, Nanos}
use Rattle.capture.specs.declared.records.Record.{Record}
use Rattle.capture.specs.declared.records.RecordFault.{RecordFault}
use Rattle.capture.specs.declared.records.RecordFault.TheVariants.{Short, Long}
use Rattle.capture.specs.Numbers.{u32_at}

-- a record, its frame as bytes
pub record Rec : Type 0 where
  pub seconds : ℕ
  pub fraction : ℕ
  pub original : ℕ
  pub frame : List ℕ

abbrev pub record_model : Record → Rec
record_model r = record { seconds = r.seconds; fraction = r.fraction; original = r.original; frame = r.frame.now }

abbrev pub told_record : Result Record RecordFault → Result Rec RecordFault
told_record r = result_map_both record_model (λ f. f) r

-- the captured length
abbrev pub captured : Order → List ℕ → ℕ
captured o xs = u32_at o xs 8

-- seconds, fraction, captured length and original length, and behind these 16 bytes the captured ones
abbrev pub record_in : Order → List ℕ → Result Rec RecordFault
record_in o xs =
    cond (nat_lt (length xs) 16) (Err Short)
    (cond (nat_lt 262144 (captured o xs)) (Err (Long (captured o xs)))
    (cond (nat_lt (length xs) (16 + captured o xs)) (Err Short)
    (Ok (record { seconds = u32_at o xs 0; fraction = u32_at o xs 4; original = u32_at o xs 12; frame = slice_range xs 16 (16 + captured o xs) }))))

-- how many units a millisecond has
abbrev pub per_milli : unit.Unit → ℕ
per_milli Micros = 1000
per_milli Nanos = 1000000

-- the millisecond within the second, the last one for a fraction beyond it
abbrev pub milli_of : ℕ → ℕ
milli_of n = cond (nat_lt n 1000) n 999

-- the milliseconds since midnight UTC, of seconds since 1970 and a fraction
abbrev pub millis_of_day : unit.Unit → ℕ → ℕ → ℕ
millis_of_day u s f = s % 86400 * 1000 + milli_of (f / per_milli u)
