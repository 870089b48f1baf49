use Rattle.std.proofs.Common.{◌-◌, ◌++◌, take, drop, sym, subst}
use Rattle.ladder.specs.Tables.{Holds}
use Rattle.ladder.proofs.Edits.{takes_out}
use Rattle.ladder.proofs.take_out.Goals as goal

pub returns : goal.returns
returns g c =
    let xs = c.args.rows.now in
    let zs = take c.args.used xs in
    subst (λ ys. Holds ys (c.counted-count.result - 1) (take c.args.at zs ++ drop 1 (drop c.args.at zs))) (sym c.copy_within.ensures.after)
    (takes_out xs c.args.used c.counted-count.result c.counted-count.ensures.within c.counted-count.ensures.same c.args.at c.eights-moved.result c.requires c.eights-moved.ensures.0 c.eights-moved.ensures.1)
