use Rattle.std.proofs.Common.{◌+◌, take, set, sym, subst, arith}
use Rattle.ladder.specs.Ladders.{entered}
use Rattle.ladder.specs.Tables.{Holds}
use Rattle.ladder.proofs.Edits.{inserts}
use Rattle.ladder.proofs.insert.Goals as goal

pub returns : goal.returns
returns g c =
    let m = g.R.Rank in
    subst (λ ys. Holds (set ys c.args.at c.args.row) (c.counted-count.result + 1) (entered m.keyed m.before c.args.row (take c.args.used c.args.rows.now))) (sym c.copy_within.ensures.after)
    (inserts c.args.rows.now c.args.used c.counted-count.result c.counted-count.ensures.within c.counted-count.ensures.same m.keyed m.before c.args.row c.args.at c.eights-moved.result (omega arith) c.eights-moved.ensures.0 c.eights-moved.ensures.1 c.requires)
