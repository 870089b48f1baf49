use Rattle.std.proofs.Common.{is_ok, ap}
use Rattle.channel.specs.Channels.{state}
use Rattle.channel.specs.Follows.{offer}
use Rattle.channel.proofs.Runs.{goes_on}
use Rattle.channel.proofs.channel.Channel.offer.Goals as goal

pub returns-clause-stands : goal.returns-clause-stands
returns-clause-stands g c =
    goes_on g.S.Sink.step (state g.S.Sink g.H.Shelf c.args.self.now) (state g.S.Sink g.H.Shelf c.offer_step.new.self) (offer c.args.packet.now c.args.scratch.now) (is_ok c.offer_step.result)
    (ap is_ok c.offer_step.ensures.answer) c.offer_step.ensures.after
