use Rattle.std.proofs.Common.{◌-◌, ◌≤◌, length}
use Rattle.ladder.specs.Ladders.{flags, halved_place}
use Rattle.ladder.proofs.Halves.{Looks}
use Rattle.ladder.proofs.halve.Given as goal

abbrev pub invariant-loop-low : goal.invariant-loop-low
invariant-loop-low g l =
    let m = g.R.Rank in
    (l.low ≤ l.high) × (l.high ≤ length l.rows)
    × Looks (flags m.keyed m.before l.key l.rows) (halved_place m.keyed m.before l.key l.rows) l.low l.high

abbrev pub decreases-loop-low : goal.decreases-loop-low
decreases-loop-low g l = l.high - l.low
