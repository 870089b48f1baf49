use Rattle.ladder.proofs.Edits.{replaces}
use Rattle.ladder.proofs.replace.Goals as goal

pub returns : goal.returns
returns g c = replaces c.args.rows.now c.args.used c.counted-count.result c.counted-count.ensures.within c.counted-count.ensures.same g.R.Rank.keyed g.R.Rank.before c.args.row c.args.at c.requires
