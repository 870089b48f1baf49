use Rattle.rank.proofs.Lookups.{laws}
use Rattle.rank.proofs.ordered.Goals as goal

pub returns : goal.returns
returns g c = let law = g.met.R.Rank in laws g.R.Rank.keyed g.R.Rank.before law.exactly_one law.transitive
