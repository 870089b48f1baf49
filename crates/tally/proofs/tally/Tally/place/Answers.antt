use Rattle.tally.proofs.Found.{guessed}
use Rattle.tally.proofs.tally.Tally.place.Goals as goal

pub returns-in-Some : goal.returns-in-Some
returns-in-Some c = guessed c.args.self.now c.args.index c.in-Some.at c.in-Some.ensures.0 c.in-Some.ensures.1
