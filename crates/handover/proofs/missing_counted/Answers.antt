use Rattle.handover.proofs.Missing.{missing_counted}
use Rattle.handover.proofs.missing_counted.Goals as goal

pub returns : goal.returns
returns c l h n k = missing_counted l h n k
