use Rattle.std.proofs.Common.{◌+◌, ◌++◌, get_or, arith, rules}
use Rattle.std.proofs.Output.{has_written_append}
use Rattle.book_model.specs.declared.level.Level.{Level}
use Rattle.reports.specs.DayBook.{level_row}
use Rattle.reports.proofs.Numbered.{side_next}
use Rattle.reports.proofs.day_book.SideRowsDisplay.fmt.Goals as goal

pub loop-place-preserved : goal.loop-place-preserved
loop-place-preserved g c = λ plain.
    let now = c.loop-place.invariant plain in
    let n = c.loop-place.place in
    let s = c.args.self.now in
    let none : Level = record { price = 0; volume = 0; orders = 0 } in
    (now.0 ++ level_row s.index s.whole s.side (n + 1) (get_or s.levels.now n none), has_written_append _ _ _ _ _ _ now.1 (search rules), side_next s.index s.whole s.side n s.levels.now none now.0 _ (omega arith) now.2)
