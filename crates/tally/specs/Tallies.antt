-- What a tally means: the executed volume by index, in as many rows as there is room for, and two counts.
use Rattle.std.specs.Prelude.{ℕ, ◌+◌, min, cond, List, [], length, take, Option, nat_le}
use Rattle.std.specs.List.{fold}
use Rattle.std.specs.Option.{option_map, unwrap_or}
use Rattle.rank.specs.Rows.{inserted, kept}
use Rattle.wire.specs.declared.point.DeltaPoint.{DeltaPoint}
use Rattle.wire.specs.declared.point.Reason.{Reason}
use Rattle.wire.specs.declared.point.Reason.TheVariants.{Order, Cancel, Execution, Multiple}
use Rattle.wire.specs.Points.{points_in_delta}
use Rattle.wire.specs.Reading.{Msg, reset, unavailable, mapping, full, delta}
use Rattle.sink.specs.Events.{Event, data_of, loss_of, refresh_of, restart_of}
use Rattle.tally.specs.declared.row.Row.{Row}
use Rattle.tally.specs.declared.tally.Tally.{Tally}
use Rattle.tally.specs.Rows.{row_key, row_before}

-- how many rows there is room for, the rows in use, how many executions found no free row, how many numbers were lost
pub record Counts : Type 0 where
  pub room : ℕ
  pub rows : List Row
  pub missed : ℕ
  pub losses : ℕ

-- what the code's tally means
abbrev pub meant : Tally → Counts
meant t = record { room = length t.rows.now; rows = take t.used t.rows.now; missed = t.counters.missed; losses = t.counters.losses }

-- the rows that a tally was lent, used or free
abbrev pub lent : Tally → List Row
lent t = t.rows.now

-- all rows free
abbrev pub fresh : ℕ → Counts
fresh room = record { room = room; rows = []; missed = 0; losses = 0 }

-- sums that stop at the largest number of 64 and of 32 bits
abbrev pub capped64 : ℕ → ℕ
capped64 n = min n 18446744073709551615

abbrev pub capped32 : ℕ → ℕ
capped32 n = min n 4294967295

-- the executed volume of an index, if it has a row
abbrev pub executed_of : ℕ → List Row → Option ℕ
executed_of i rs = option_map (λ r. r.executed) (kept row_key row_before i rs)

-- the row of an index with a volume
abbrev pub row_of : ℕ → ℕ → Row
row_of i x = record { index = i; executed = x }

-- rows with a quantity more for an index
abbrev pub summed : ℕ → ℕ → List Row → List Row
summed i q rs = inserted row_key row_before (row_of i (capped64 (unwrap_or (executed_of i rs) 0 + q))) rs

-- the rows become rs, or a miss is counted where they are too many
abbrev pub become : List Row → Counts → Counts
become rs c =
    cond (nat_le (length rs) c.room)
    (record { room = c.room; rows = rs; missed = c.missed; losses = c.losses })
    (record { room = c.room; rows = c.rows; missed = capped32 (c.missed + 1); losses = c.losses })

-- a quantity is added, or a miss counted where no row is free
abbrev pub added : ℕ → ℕ → Counts → Counts
added i q c = become (summed i q c.rows) c

-- an execution adds its changed quantity
abbrev pub by_reason : Reason → ℕ → ℕ → Counts → Counts
by_reason Order i q c = c
by_reason Cancel i q c = c
by_reason Execution i q c = added i q c
by_reason Multiple i q c = c

abbrev pub point_added : ℕ → DeltaPoint → Counts → Counts
point_added i p c = by_reason p.reason i p.changed c

-- points of a delta, in their order
abbrev pub points_added : ℕ → List DeltaPoint → Counts → Counts
points_added i ps c = fold (λ c p. point_added i p c) c ps

-- only a delta has executions
abbrev pub told : Msg → Counts → Counts
told (reset n) c = c
told (unavailable b e) c = c
told mapping c = c
told (full i s ps) c = c
told (delta i s ps) c = points_added i (points_in_delta ps) c

-- what an event makes of a tally: restart and refresh leave it as it is
abbrev pub step : Event → Counts → Counts
step (data_of n m) c = told m c
step (loss_of n) c = record { room = c.room; rows = c.rows; missed = c.missed; losses = capped32 (c.losses + 1) }
step (refresh_of n m) c = c
step (restart_of n) c = c
