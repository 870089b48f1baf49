use Rattle.std.proofs.Common.{is_ok, ap}
use Rattle.channel.specs.Channels.{state}
use Rattle.channel.specs.Follows.{settle}
use Rattle.channel.proofs.Runs.{goes_on}
use Rattle.channel.proofs.channel.Channel.settle.Goals as goal

pub returns-clause-stands : goal.returns-clause-stands
returns-clause-stands g c =
    goes_on g.S.Sink.step (state g.S.Sink g.H.Shelf c.args.self.now) (state g.S.Sink g.H.Shelf c.settle_step.new.self) (settle c.args.claim) (is_ok c.settle_step.result)
    (ap is_ok c.settle_step.ensures.answer) c.settle_step.ensures.after
