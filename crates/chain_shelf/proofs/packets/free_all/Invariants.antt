use Rattle.std.proofs.Common.{◌≡◌, ℕ, ◌+◌, ◌<◌, ◌≤◌}
use Rattle.chain_shelf.specs.Records.{mem, link}
use Rattle.chain_shelf.proofs.packets.free_all.Given as goal

abbrev pub invariant-loop-r : goal.invariant-loop-r
invariant-loop-r l = (s : ℕ) → 1 ≤ s → s < l.r → link (mem l.bytes) s ≡ s + 1
