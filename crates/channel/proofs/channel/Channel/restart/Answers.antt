use Rattle.std.proofs.Common.{is_ok, ap}
use Rattle.channel.specs.Channels.{state}
use Rattle.channel.specs.Follows.{restart}
use Rattle.channel.proofs.Runs.{goes_on}
use Rattle.channel.proofs.channel.Channel.restart.Goals as goal

pub returns-clause-stands : goal.returns-clause-stands
returns-clause-stands g c =
    goes_on g.S.Sink.step (state g.S.Sink g.H.Shelf c.args.self.now) (state g.S.Sink g.H.Shelf c.restart_step.new.self) (restart c.args.number) (is_ok c.restart_step.result)
    (ap is_ok c.restart_step.ensures.answer) c.restart_step.ensures.after
