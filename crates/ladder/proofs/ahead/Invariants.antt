use Rattle.std.proofs.Common.{◌≡◌, ◌≤◌, take}
use Rattle.ladder.specs.Ladders.{flags, hits}
use Rattle.ladder.proofs.ahead.Given as goal

abbrev pub invariant-loop-row : goal.invariant-loop-row
invariant-loop-row g l = let m = g.R.Rank in (l.count ≤ l.row-index) × (l.count ≡ hits (flags m.keyed m.before l.key (take l.row-index l.rows)))
