use Rattle.std.proofs.Common.{◌≡◌, ℕ, List, ◌++◌}
use Rattle.std.specs.Fmt.{HasWritten, IsPlainFormatter}
use Rattle.wire.specs.Points.{points}
use Rattle.console.specs.Texts.{point_lines}
use Rattle.console.proofs.answers.PointLinesDisplay.fmt.Given as goal

-- what is left goes behind what is written
abbrev pub invariant-loop-point : goal.invariant-loop-point
invariant-loop-point g l =
    IsPlainFormatter l.initial.f
    → (done : List ℕ) × HasWritten g.W.Write.write_str_gives l.initial.f done l.f
    × (done ++ point_lines (g.P.Line.said l.scale) l.point-iterator ≡ point_lines (g.P.Line.said l.scale) (points g.P.Point.BYTES g.P.Point.at l.self.points.now))
