use Rattle.journal.proofs.Told.{pieces_join, stands}
use Rattle.journal.proofs.tail.pieces_stand.Goals as goal

pub returns-clause-join : goal.returns-clause-join
returns-clause-join c = pieces_join

pub returns-clause-stand : goal.returns-clause-stand
returns-clause-stand c = stands (λ p. p)
