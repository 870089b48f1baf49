use Rattle.std.proofs.Common.{◌≡◌, ◌-◌}
use Rattle.handover.specs.Flows.{hands_to}
use Rattle.handover.specs.Handovers.{flow}
use Rattle.handover.proofs.handover.Handover.hand_to.Given as goal

-- what is left of the range leads where all of it would
abbrev pub invariant-loop-self : goal.invariant-loop-self
invariant-loop-self g l =
    hands_to g.S.Sink.step l.end (flow g.S.Sink g.H.Shelf l.self l.scratch)
    ≡ hands_to g.S.Sink.step l.end (flow g.S.Sink g.H.Shelf l.initial.self l.initial.scratch)

abbrev pub decreases-loop-self : goal.decreases-loop-self
decreases-loop-self g l = l.end - l.self.last
