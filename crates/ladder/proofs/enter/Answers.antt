use Rattle.std.proofs.Common.{take, subst}
use Rattle.ladder.specs.Tables.{Holds, Settled}
use Rattle.ladder.proofs.Orders.{entered_is}
use Rattle.ladder.proofs.enter.Goals as goal

pub returns-in-Ok-clause-ordered : goal.returns-in-Ok-clause-ordered
returns-in-Ok-clause-ordered g c s =
    subst (Holds c.replace.new.rows c.replace.result) (entered_is g.R.Rank.keyed g.R.Rank.before g.met.R.Rank.transitive c.args.row (take c.args.used c.args.rows.now) s) c.replace.ensures

pub returns-in-Err-clause-ordered : goal.returns-in-Err-clause-ordered
returns-in-Err-clause-ordered g c s =
    subst (λ xs. Settled c.args.rows.now c.insert.new.rows xs c.insert.result) (entered_is g.R.Rank.keyed g.R.Rank.before g.met.R.Rank.transitive c.args.row (take c.args.used c.args.rows.now) s) c.insert.ensures
