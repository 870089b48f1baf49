use Rattle.std.proofs.Common.{◌≡◌}
use Rattle.journal.specs.Tails.{meant, said}
use Rattle.journal.specs.RunTexts.{behind}
use Rattle.journal.proofs.run.write_points.Given as goal

-- the text and the points that are left are the text at first and the points behind it
abbrev pub invariant-loop-point : goal.invariant-loop-point
invariant-loop-point g l = said (behind (g.P.RowPoint.text l.scale) l.point-iterator) (meant l.tail) ≡ said (behind (g.P.RowPoint.text l.scale) l.initial.point-iterator) (meant l.initial.tail)
