use Rattle.std.proofs.Common.{◌≡◌, ◌<◌, length}
use Rattle.chain_shelf.specs.Records.{mem, records, next, trail, heads, under, last}
use Rattle.chain_shelf.proofs.Walks.{Left}
use Rattle.chain_shelf.proofs.chain_shelf.ChainShelf.walk_from.Given as goal

abbrev pub invariant-loop-at : goal.invariant-loop-at
invariant-loop-at l =
    (l.prev < records l.bytes)
    × Left (mem l.bytes) (records l.bytes) l.prev (next (mem l.bytes) l.prev)
    × (last l.prev (under (mem l.bytes) l.number (trail (next (mem l.bytes)) (records l.bytes) (next (mem l.bytes) l.prev))) ≡ last 0 (under (mem l.bytes) l.number (heads l.bytes)))

abbrev pub decreases-loop-at : goal.decreases-loop-at
decreases-loop-at l = length (trail (next (mem l.bytes)) (records l.bytes) (next (mem l.bytes) l.prev))
