use Rattle.std.proofs.Common.{ap, ◌∙◌}
use Rattle.book_model.specs.Entering.{told, points_of}
use Rattle.book_model.specs.Keepers.{heard}
use Rattle.books.proofs.Stale.{tables_heard}
use Rattle.books.proofs.keeper.BookKeeper.hear.Goals as goal

pub returns : goal.returns
returns g c =
    let k = c.clear_stale.new.self in
    let ps = points_of g.P.Point.named c.args.scale c.args.points in
    tables_heard k.tables c.tell.new.self k.mark c.args.number (told k.tables.depth c.args.start ps) k.stale c.clear_stale.ensures.clear c.tell.ensures.depth c.tell.ensures.books
    ∙ ap (heard c.args.number c.args.start ps) c.clear_stale.ensures.same
