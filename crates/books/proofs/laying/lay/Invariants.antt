use Rattle.std.proofs.Common.{◌≡◌, ◌≤◌, true, [], length, take}
use Rattle.rank.specs.Rows.{Sorted}
use Rattle.book_model.specs.Levels.{price_of, before}
use Rattle.book_model.specs.Entering.{Known, levels, with_levels, filled, points_of}
use Rattle.books.specs.Laying.{pending}
use Rattle.books.proofs.laying.lay.Given as goal

-- the rows that are used are in order, and the points that are left make of a book with them what all make of it without
abbrev pub invariant-loop-next : goal.invariant-loop-next
invariant-loop-next g l =
    let named = g.P.Point.named in
    (l.used ≤ length l.rows)
    × (length l.rows ≡ length l.initial.rows)
    × Sorted price_of (before l.side) (take l.used l.rows)
    × ((k : Known) → k.whole ≡ true → levels l.side k ≡ []
    → filled (length l.rows) (points_of named l.scale (pending l.next l.points)) (with_levels l.side (take l.used l.rows) k)
    ≡ filled (length l.initial.rows) (points_of named l.scale (pending l.initial.next l.initial.points)) k)

abbrev pub decreases-loop-next : goal.decreases-loop-next
decreases-loop-next g l = length (pending l.next l.points)
