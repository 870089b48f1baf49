use Rattle.std.proofs.Common.{length}
use Rattle.chain_shelf.proofs.records.+copy.Given as goal

abbrev pub decreases-copy : goal.decreases-copy
decreases-copy l = length l.buffer.now
