use Rattle.std.proofs.Common.{take, sym, subst, ◌∙◌}
use Rattle.ladder.specs.Tables.{Holds}
use Rattle.ladder.proofs.Orders.{removed_is}
use Rattle.ladder.proofs.remove.Goals as goal

pub returns-in-Ok-clause-ordered : goal.returns-in-Ok-clause-ordered
returns-in-Ok-clause-ordered g c s =
    subst (Holds c.take_out.new.rows c.take_out.result) (sym c.in-Ok.ensures.any.removes ∙ removed_is g.R.Rank.keyed g.R.Rank.before g.met.R.Rank.transitive c.args.key (take c.args.used c.args.rows.now) s) c.take_out.ensures

pub returns-in-Err-clause-ordered : goal.returns-in-Err-clause-ordered
returns-in-Err-clause-ordered g c s = record {
  within = c.counted.ensures.within;
  is = c.counted.ensures.same ∙ sym c.in-Err.ensures.any.removes ∙ removed_is g.R.Rank.keyed g.R.Rank.before g.met.R.Rank.transitive c.args.key (take c.args.used c.args.rows.now) s;
}
