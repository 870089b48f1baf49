use Rattle.std.proofs.Common.{suc, ap, ◌∙◌}
use Rattle.book_model.specs.Entering.{filled, points_of}
use Rattle.books.specs.Keepers.{tables_known}
use Rattle.book_model.specs.Keepers.{changed_at}
use Rattle.books.proofs.Behind.{taken_next}
use Rattle.books.proofs.Filling.{leaves_among, leaves_both}
use Rattle.books.proofs.tables.Tables.lay_out.Goals as goal

pub lay_side-first-requires-2 : goal.lay_side-first-requires-2
lay_side-first-requires-2 g c = leaves_among c.args.self.now c.lay_side-first.new.self c.args.i _ _ c.lay_side-first.ensures c.requires

pub tell_first-requires : goal.tell_first-requires
tell_first-requires g c =
    let u = c.lay_side-first.new.self in
    leaves_among u c.lay_side-first-2.new.self c.args.i _ _ c.lay_side-first-2.ensures (leaves_among c.args.self.now u c.args.i _ _ c.lay_side-first.ensures c.requires)

pub fill-requires : goal.fill-requires
fill-requires g c =
    let u = c.lay_side-first.new.self in
    let v = c.lay_side-first-2.new.self in
    let i = c.args.i in
    leaves_among v c.tell_first.new.self i _ _ (c.tell_first.ensures c.lay_side-first-2.new.points)
    (leaves_among u v i _ _ c.lay_side-first-2.ensures (leaves_among c.args.self.now u i _ _ c.lay_side-first.ensures c.requires))

pub returns : goal.returns
returns g c =
    let t = c.args.self.now in
    let u = c.lay_side-first.new.self in
    let v = c.lay_side-first-2.new.self in
    let w = c.tell_first.new.self in
    let i = c.args.i in
    let said = points_of g.P.Point.named c.args.scale in
    let ps = c.lay_side-first-2.new.points in
    let all = leaves_both t u w i _ _ (said ps) c.lay_side-first.ensures (leaves_both u v w i _ _ (said ps) c.lay_side-first-2.ensures (c.tell_first.ensures ps)) in
    record {
      depth = c.fill.ensures.depth ∙ all.depth;
      books = c.fill.ensures.books
          ∙ ap (λ d. changed_at (suc i) (filled d (said ps)) (tables_known w)) all.depth
          ∙ all.told
          ∙ ap (λ ps. changed_at (suc i) (filled t.depth (said ps)) (tables_known t)) (taken_next c.args.points c.next-first.new.self c.next-first.result c.next-first.ensures.steps);
    }
