use Rattle.std.proofs.Common.{◌≡◌, ℕ, ◌+◌, List, ◌++◌, drop}
use Rattle.std.specs.Fmt.{HasWritten, IsPlainFormatter}
use Rattle.reports.specs.DayBook.{side_rows}
use Rattle.reports.proofs.day_book.SideRowsDisplay.fmt.Given as goal

-- what is left goes behind what is written
abbrev pub invariant-loop-place : goal.invariant-loop-place
invariant-loop-place g l =
    IsPlainFormatter l.initial.f
    → (done : List ℕ) × HasWritten g.W.Write.write_str_gives l.initial.f done l.f
    × (done ++ side_rows l.index l.whole l.side (l.place + 1) (drop l.place l.levels) ≡ side_rows l.index l.whole l.side 1 l.levels)
