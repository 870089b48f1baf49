use Rattle.std.proofs.Common.{◌≡◌}
use Rattle.tally.specs.Tallies.{meant, points_added}
use Rattle.tally.proofs.tally.Tally.add_points.Given as goal

-- the points that are left make of the tally what all make of it as it was
abbrev pub invariant-loop-point : goal.invariant-loop-point
invariant-loop-point l = points_added l.index l.point-iterator (meant l.self) ≡ points_added l.index l.initial.point-iterator (meant l.initial.self)
