use Rattle.tally.proofs.Steps.{keeps_order, adds_to_one}
use Rattle.tally.proofs.laws.ordered.Goals as goal

pub returns-clause-order : goal.returns-clause-order
returns-clause-order c = keeps_order

pub returns-clause-adds : goal.returns-clause-adds
returns-clause-adds c = adds_to_one
