use Rattle.std.proofs.Common.{◌≡◌, ◌+◌, ◌-◌, ◌≤◌}
use Rattle.books.specs.Keepers.{keeper_means}
use Rattle.reports.specs.DayBook.{count_state}
use Rattle.reports.proofs.day_book.count_state.Given as goal

-- the books below the index are counted, and are no more than that
abbrev pub invariant-loop-index : goal.invariant-loop-index
invariant-loop-index l =
    (l.index - 1 ≤ l.count) × (l.found + 1 ≤ l.index) × (l.found ≡ count_state l.whole (l.index - 1) (keeper_means l.keeper).books)
