use Rattle.std.proofs.Common.{◌≡◌, ◌-◌}
use Rattle.handover.specs.Flows.{handed_on}
use Rattle.handover.specs.Handovers.{flow}
use Rattle.handover.proofs.handover.Handover.drain.Given as goal

-- what is left to hand over leads where all would
abbrev pub invariant-loop-self : goal.invariant-loop-self
invariant-loop-self g l =
    handed_on g.S.Sink.step (flow g.S.Sink g.H.Shelf l.self l.scratch)
    ≡ handed_on g.S.Sink.step (flow g.S.Sink g.H.Shelf l.initial.self l.initial.scratch)

abbrev pub decreases-loop-self : goal.decreases-loop-self
decreases-loop-self g l = 4294967295 - l.self.last
