use Rattle.std.proofs.Common.{suc, ◌∷◌, sym, ap, ◌∙◌}
use Rattle.book_model.specs.Levels.{named}
use Rattle.book_model.specs.Entering.{filled, points_of}
use Rattle.books.specs.Keepers.{tables_known}
use Rattle.book_model.specs.Keepers.{changed_at}
use Rattle.books.proofs.Filling.{among, stops, goes_on}
use Rattle.books.proofs.tables.Tables.fill.Goals as goal

pub bounds-self-i : goal.bounds-self-i
bounds-self-i g c = among c.loop-point.self c.args.self.now c.args.i _ _ c.loop-point.invariant.1 c.requires

pub returns-then-not-self-i : goal.returns-then-not-self-i
returns-then-not-self-i g c =
    let l = c.loop-point in
    let t = c.args.self.now in
    record {
      depth = l.invariant.0;
      books = sym (stops l.self c.args.i (among l.self t c.args.i _ _ l.invariant.1 c.requires) (points_of g.P.Point.named c.args.scale l.point-iterator) c.if-not-self-i.true)
          ∙ l.invariant.1
          ∙ ap (λ ps. changed_at (suc c.args.i) (filled t.depth (points_of g.P.Point.named c.args.scale ps)) (tables_known t)) c.into_iter-point-iterator.ensures.into_iter_gives;
    }

pub loop-point-preserved : goal.loop-point-preserved
loop-point-preserved g c =
    let l = c.loop-point in
    let i = c.args.i in
    let t = c.args.self.now in
    let u = c.put.new.self in
    let level = g.P.Point.named in
    let scale = c.args.scale in
    let left = points_of level scale c.next.new.self in
    let one = c.named.ensures ∙ ap (named scale) c.level.ensures in (
      c.put.ensures.depth ∙ l.invariant.0,
      ap (λ d. changed_at (suc i) (filled d left) (tables_known u)) c.put.ensures.depth
          ∙ goes_on l.self i (among l.self t i _ _ l.invariant.1 c.requires) u c.named.result left c.if-not-self-i.false c.put.ensures.books
          ∙ ap (λ p. changed_at (suc i) (filled l.self.depth (p ∷ left)) (tables_known l.self)) one
          ∙ ap (λ ps. changed_at (suc i) (filled l.self.depth (points_of level scale ps)) (tables_known l.self)) (sym c.in-Some.ensures.steps)
          ∙ l.invariant.1,
    )
