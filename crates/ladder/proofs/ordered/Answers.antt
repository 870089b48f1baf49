use Rattle.ladder.proofs.Lookups.{laws}
use Rattle.ladder.proofs.ordered.Goals as goal

pub returns : goal.returns
returns g c = let law = g.met.R.Rank in laws g.R.Rank.keyed g.R.Rank.before law.transitive law.exactly_one
