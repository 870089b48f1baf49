use Rattle.std.proofs.Common.{length}
use Rattle.chain_shelf.proofs.records.+fill.Given as goal

abbrev pub decreases-fill : goal.decreases-fill
decreases-fill l = length l.part.now
