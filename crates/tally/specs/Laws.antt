-- Laws of a tally's step.
use Rattle.std.specs.Prelude.{◌≡◌, ℕ, ◌+◌, ◌<◌, ◌≤◌, length, Some, None, ◌≢◌}
use Rattle.std.specs.Option.{unwrap_or}
use Rattle.rank.specs.Rows.{Sorted}
use Rattle.sink.specs.Events.{Event}
use Rattle.tally.specs.Rows.{row_key, row_before}
use Rattle.tally.specs.Tallies.{Counts, executed_of, capped32, capped64, summed, added, step}

-- rows are in order, and no more than there is room for
pub record InOrder (c : Counts) : Type 0 where
  pub sorted : Sorted row_key row_before c.rows
  pub few : length c.rows ≤ c.room

-- every event leaves a tally in order that was so
abbrev pub KeepsOrder : Type 0
KeepsOrder = (e : Event) (c : Counts) → InOrder c → InOrder (step e c)

-- A quantity is added to its index's volume, where there is a row for it, and to no other. Where the index has no row and no row is free, a miss is counted
-- and no volume changes; where it has one or one is free, no miss is counted. The count of losses stays.
pub record Adds (i q : ℕ) (c : Counts) : Type 0 where
  pub there : length (summed i q c.rows) ≤ c.room → executed_of i (added i q c).rows ≡ Some (capped64 (unwrap_or (executed_of i c.rows) 0 + q))
  pub others : (j : ℕ) → (j ≢ i) → executed_of j (added i q c).rows ≡ executed_of j c.rows
  pub missed : executed_of i c.rows ≡ None → length c.rows ≡ c.room → added i q c ≡ record { room = c.room; rows = c.rows; missed = capped32 (c.missed + 1); losses = c.losses }
  pub has_row : (executed_of i c.rows ≢ None) → (added i q c).missed ≡ c.missed
  pub has_room : length c.rows < c.room → (added i q c).missed ≡ c.missed
  pub losses : (added i q c).losses ≡ c.losses

abbrev pub AddsToOne : Type 0
AddsToOne = (i q : ℕ) (c : Counts) → InOrder c → Adds i q c

-- some sums, on both sides of each top
pub record CapsWorked : Type 0 where
  pub top32 : capped32 4294967295 ≡ 4294967295
  pub over32 : capped32 4294967296 ≡ 4294967295
  pub top64 : capped64 18446744073709551615 ≡ 18446744073709551615
  pub over64 : capped64 18446744073709551616 ≡ 18446744073709551615
