use Rattle.std.proofs.Common.{◌≡◌, ◌≤◌, length, drop}
use Rattle.capture.specs.Ether.{untagged}
use Rattle.capture.proofs.ether.ethernet.Given as goal

abbrev pub invariant-loop-rest : goal.invariant-loop-rest
invariant-loop-rest l = (12 ≤ length l.frame) × (untagged l.rest ≡ untagged (drop 12 l.frame))

abbrev pub decreases-loop-rest : goal.decreases-loop-rest
decreases-loop-rest l = length l.rest
