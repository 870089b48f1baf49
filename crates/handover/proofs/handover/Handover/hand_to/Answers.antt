use Rattle.std.proofs.Common.{◌-◌, refl}
use Rattle.handover.specs.Handovers.{flow}
use Rattle.handover.proofs.Flows.{run_more, run_rest}
use Rattle.handover.proofs.handover.Handover.hand_to.Goals as goal

pub loop-self-preserved-then-self-end : goal.loop-self-preserved-then-self-end
loop-self-preserved-then-self-end g c =
    run_more g.S.Sink.step c.args.end c.absent_to-absent.result (c.absent_to-absent.result - c.loop-self.self.last) (c.args.end - c.loop-self.self.last)
    (c.args.end - c.hand.new.self.last) (flow g.S.Sink g.H.Shelf c.loop-self.self c.loop-self.scratch) (flow g.S.Sink g.H.Shelf c.lose_to.new.self c.loop-self.scratch)
    (flow g.S.Sink g.H.Shelf c.hand.new.self c.hand.new.scratch) _ c.hand.ensures (c.lose_to.ensures.after c.loop-self.scratch) c.if-self-end.true
    c.absent_to-absent.ensures.within c.loop-self.invariant refl refl refl

pub loop-self-preserved : goal.loop-self-preserved
loop-self-preserved g c =
    run_rest g.S.Sink.step c.args.end c.absent_to-absent.result (c.absent_to-absent.result - c.loop-self.self.last) (c.args.end - c.loop-self.self.last)
    (c.args.end - c.lose_to.new.self.last) (flow g.S.Sink g.H.Shelf c.loop-self.self c.loop-self.scratch) (flow g.S.Sink g.H.Shelf c.lose_to.new.self c.loop-self.scratch)
    _ (c.lose_to.ensures.after c.loop-self.scratch) c.absent_to-absent.ensures.within c.loop-self.invariant refl refl refl
