use Rattle.std.proofs.Common.{suc, ◌∷◌, sym, refl, ap, ◌∙◌}
use Rattle.book_model.specs.Levels.{named}
use Rattle.book_model.specs.Entering.{filled, points_of}
use Rattle.books.specs.Keepers.{tables_known}
use Rattle.book_model.specs.Keepers.{changed_at}
use Rattle.books.specs.Laying.{pending}
use Rattle.books.proofs.Filling.{stops, goes_on}
use Rattle.books.proofs.tables.Tables.tell_first.Goals as goal

pub returns-then-self-i : goal.returns-then-self-i
returns-then-self-i g c ps =
    let t = c.args.self.now in
    let i = c.args.i in
    let said = points_of g.P.Point.named c.args.scale in
    record {
      depth = c.put.ensures.depth;
      told = goes_on t i c.requires c.put.new.self c.named.result (said ps) c.if-self-i.true c.put.ensures.books
          ∙ ap (λ p. changed_at (suc i) (filled t.depth (p ∷ said ps)) (tables_known t)) (c.named.ensures ∙ ap (named c.args.scale) c.level.ensures)
          ∙ ap (λ p. changed_at (suc i) (filled t.depth (said (pending p ps))) (tables_known t)) (sym c.in-Some.is);
    }

pub returns-else-self-i : goal.returns-else-self-i
returns-else-self-i g c ps =
    let t = c.args.self.now in
    let said = points_of g.P.Point.named c.args.scale in
    record {
      depth = refl;
      told = stops t c.args.i c.requires (said ps) c.if-self-i.false ∙ sym (stops t c.args.i c.requires (said (pending c.args.first ps)) c.if-self-i.false);
    }
