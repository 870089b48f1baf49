use Rattle.channel.specs.Channels.{state}
use Rattle.operator.proofs.Hands.{own_offered}
use Rattle.operator.proofs.desk.Desk.offer.Goals as goal

pub invariant_of-self : goal.invariant_of-self
invariant_of-self g c =
    let was = state g.S.Sink g.H.Shelf c.args.self.now.channel in
    record {
      own = own_offered g.S.Sink.step was c.args.packet.now c.args.buffer.now (state g.S.Sink g.H.Shelf c.offer.new.self) c.args.self.now.hand c.offer.ensures.after c.args.self.now.own;
    }
