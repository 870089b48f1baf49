use Rattle.std.proofs.Common.{◌≡◌, ◌+◌, ◌<◌, true, ◌∷◌, length, take, set, sym, refl, ap, ◌∙◌, arith, rules}
use Rattle.std.proofs.lemmas.List.{length-set}
use Rattle.book_model.specs.Levels.{named}
use Rattle.book_model.specs.Entering.{with_levels, filled, points_of}
use Rattle.books.specs.Laying.{behind, pending}
use Rattle.books.proofs.Behind.{laid, laid_sorted, taken_next}
use Rattle.books.proofs.laying.lay.Goals as goal

pub loop-next-preserved : goal.loop-next-preserved
loop-next-preserved g c =
    let l = c.loop-next in
    let s = c.args.side in
    let told = c.named-told.result in
    let said = g.P.Point.named in
    let scale = c.args.scale in
    let rows = set l.rows l.used told.level in
    let long : length rows ≡ length l.rows = length-set l.rows l.used told.level in
    let at : l.used < length l.rows = omega arith in
    let side : told.side ≡ s = search rules in
    let b : behind s told.level (take l.used l.rows) ≡ true = sym c.follows.ensures ∙ c.if-not-follows.false in
    let one : named scale (said c.in-Some.point) ≡ record { side = s; level = told.level } = sym (c.named-told.ensures ∙ ap (named scale) c.level.ensures) ∙ ap (λ s. record { side = s; level = told.level }) side in
    let left = taken_next l.points c.next-next.new.self c.next-next.result c.next-next.ensures.steps in (
      omega (arith, long),
      long ∙ l.invariant.1,
      laid_sorted s (length l.rows) l.used l.rows told.level at refl l.invariant.2 b,
      λ k w e. ap (λ d. filled d (points_of said scale (pending c.next-next.result c.next-next.new.self)) (with_levels s (take (l.used + 1) rows) k)) long
          ∙ ap (λ ps. filled (length l.rows) (points_of said scale ps) (with_levels s (take (l.used + 1) rows) k)) left
          ∙ sym (laid s (length l.rows) l.used l.rows told.level at refl l.invariant.2 b (points_of said scale l.points) k w)
          ∙ ap (λ p. filled (length l.rows) (p ∷ points_of said scale l.points) (with_levels s (take l.used l.rows) k)) (sym one)
          ∙ ap (λ p. filled (length l.rows) (points_of said scale (pending p l.points)) (with_levels s (take l.used l.rows) k)) (sym c.in-Some.is)
          ∙ l.invariant.3 k w e,
    )
