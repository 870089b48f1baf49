use Rattle.std.proofs.Common.{is_ok, ap}
use Rattle.channel.specs.Channels.{state}
use Rattle.channel.specs.Follows.{claim}
use Rattle.channel.proofs.Laws.{given_asks}
use Rattle.channel.proofs.Runs.{goes_on}
use Rattle.channel.proofs.channel.Channel.claim.Goals as goal

pub returns-clause-asks : goal.returns-clause-asks
returns-clause-asks g c =
    given_asks (state g.S.Sink g.H.Shelf c.args.self.now) c.args.time c.args.buffer.now c.claim_step.result (g.met.H.Shelf.lawful c.args.self.now.handover.shelf)
    c.claim_step.ensures.answer

pub returns-clause-stands : goal.returns-clause-stands
returns-clause-stands g c =
    goes_on g.S.Sink.step (state g.S.Sink g.H.Shelf c.args.self.now) (state g.S.Sink g.H.Shelf c.claim_step.new.self) (claim c.args.time c.args.buffer.now) (is_ok c.claim_step.result)
    (ap is_ok c.claim_step.ensures.answer) c.claim_step.ensures.after
