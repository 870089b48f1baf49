use Rattle.std.proofs.Common.{refl, ◌∙◌}
use Rattle.book_model.specs.Entering.{begun, points_of}
use Rattle.books.specs.Tabled.{blank}
use Rattle.books.proofs.Rows.{row_put}
use Rattle.books.proofs.Told.{begun_ordered}
use Rattle.books.proofs.Filling.{untaken, tells}
use Rattle.books.proofs.tables.Tables.tell.Goals as goal

pub invariant_of-self-clause-ordered : goal.invariant_of-self-clause-ordered
invariant_of-self-clause-ordered g c =
    let t = c.args.self.now in
    let i = c.in-Some.i in
    let s = c.args.start in
    begun_ordered t i s _ (row_put t i c.in-Some.ensures.in_books (record { book = c.in-Some-begun.book }) blank (begun s) (λ xs ys. (c.in-Some-begun.ensures xs ys).1))

pub returns-in_default-begun : goal.returns-in_default-begun
returns-in_default-begun g c =
    record { depth = refl; books = untaken c.args.self.now c.args.number c.in-Some.i c.in-Some.ensures c.args.start (points_of g.P.Point.named c.args.scale c.args.points) c.in_default-begun.ensures }

pub returns-in-Delta : goal.returns-in-Delta
returns-in-Delta g c =
    record {
      depth = c.fill.ensures.depth;
      books = c.fill.ensures.books
          ∙ tells c.args.self.now c.args.number c.in-Some.i c.in-Some.ensures c.args.start (points_of g.P.Point.named c.args.scale c.args.points) c.in-Some-begun.book c.in-Some-begun.ensures;
    }

pub returns-in_default-start : goal.returns-in_default-start
returns-in_default-start g c =
    record {
      depth = c.lay_out.ensures.depth;
      books = c.lay_out.ensures.books
          ∙ tells c.args.self.now c.args.number c.in-Some.i c.in-Some.ensures c.args.start (points_of g.P.Point.named c.args.scale c.args.points) c.in-Some-begun.book c.in-Some-begun.ensures;
    }
