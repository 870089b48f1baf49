use Rattle.std.proofs.Common.{ℕ, ◌+◌, ◌-◌, List, arith, rules}
use Rattle.book_model.specs.Keepers.{book_of}
use Rattle.books.specs.Keepers.{keeper_means}
use Rattle.reports.specs.DayBook.{book_rows}
use Rattle.reports.proofs.Written.{one_next}
use Rattle.reports.proofs.day_book.DayBookDisplay.fmt.Goals as goal

pub loop-index-preserved : goal.loop-index-preserved
loop-index-preserved g c =
    let n = c.loop-index.index in
    let row : ℕ → List ℕ = λ i. book_rows i (book_of i (keeper_means c.args.self.now.keeper.now).books) in
    (omega arith, λ plain. one_next _ _ _ _ row n (n + 1 - 1) (omega arith) (omega arith) (c.loop-index.invariant.1 plain) (search rules))

pub returns-in_ok-write-clause-writes : goal.returns-in_ok-write-clause-writes
returns-in_ok-write-clause-writes g c = λ plain ok.
    let row : ℕ → List ℕ = λ i. book_rows i (book_of i (keeper_means c.args.self.now.keeper.now).books) in
    one_next _ _ _ _ row c.loop-index.index _ (omega arith) (omega arith) (c.loop-index.invariant.1 plain) (search rules)
