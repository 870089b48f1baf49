use Rattle.std.proofs.Common.{◌≡◌, suc}
use Rattle.book_model.specs.Entering.{filled, points_of}
use Rattle.books.specs.Keepers.{tables_known}
use Rattle.book_model.specs.Keepers.{changed_at}
use Rattle.books.proofs.tables.Tables.fill.Given as goal

-- the points that are left make of the book what all make of it as it was
abbrev pub invariant-loop-point : goal.invariant-loop-point
invariant-loop-point g l =
    let named = g.P.Point.named in
    (l.self.depth ≡ l.initial.self.depth)
    × (changed_at (suc l.i) (filled l.self.depth (points_of named l.scale l.point-iterator)) (tables_known l.self)
    ≡ changed_at (suc l.i) (filled l.initial.self.depth (points_of named l.scale l.initial.point-iterator)) (tables_known l.initial.self))
