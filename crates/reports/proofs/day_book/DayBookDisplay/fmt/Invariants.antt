use Rattle.std.proofs.Common.{◌-◌, ◌≤◌}
use Rattle.std.specs.Fmt.{HasWritten, IsPlainFormatter}
use Rattle.books.specs.Keepers.{keeper_means}
use Rattle.reports.specs.DayBook.{day_book_text}
use Rattle.reports.proofs.day_book.DayBookDisplay.fmt.Given as goal

-- the books below the index are written
abbrev pub invariant-loop-index : goal.invariant-loop-index
invariant-loop-index g l =
    (l.index - 1 ≤ l.self.count) × (IsPlainFormatter l.initial.f
    → HasWritten g.W.Write.write_str_gives l.initial.f (day_book_text (l.index - 1) (keeper_means l.keeper).books) l.f)
