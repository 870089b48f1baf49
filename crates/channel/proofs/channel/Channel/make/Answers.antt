use Rattle.std.proofs.Common.{is_ok, ap}
use Rattle.channel.specs.Channels.{state}
use Rattle.channel.specs.Follows.{make}
use Rattle.channel.proofs.Runs.{goes_on, begins}
use Rattle.channel.proofs.channel.Channel.make.Goals as goal

pub returns-clause-stands : goal.returns-clause-stands
returns-clause-stands g c =
    goes_on g.S.Sink.step (state g.S.Sink g.H.Shelf c.args.self.now) (state g.S.Sink g.H.Shelf c.make_step.new.self) (make c.args.number c.args.source.now c.args.first) (is_ok c.make_step.result)
    (ap is_ok c.make_step.ensures.answer) c.make_step.ensures.after

pub returns-clause-begins : goal.returns-clause-begins
returns-clause-begins g c =
    begins g.S.Sink.step (state g.S.Sink g.H.Shelf c.args.self.now) (state g.S.Sink g.H.Shelf c.make_step.new.self) c.args.number c.args.source.now c.args.first (is_ok c.make_step.result)
    (ap is_ok c.make_step.ensures.answer) c.make_step.ensures.after
