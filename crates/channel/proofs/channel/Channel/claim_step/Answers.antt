use Rattle.std.proofs.Common.{Ok, ap, ◌∙◌}
use Rattle.channel.specs.declared.claim.Claim.{Claim}
use Rattle.channel.specs.Channels.{claim_out, opened_with, state}
use Rattle.channel.proofs.Claims.{given}
use Rattle.channel.proofs.channel.Channel.claim_step.Goals as goal

pub returns : goal.returns
returns g c =
    let o = opened_with c.args.self.now.handover.last c.in_ok-open.open in
    let k = claim_out o.number c.in_ok-open.owed in
    let x = given (state g.S.Sink g.H.Shelf c.args.self.now) c.args.time c.args.buffer.now o k c.copy_from_slice.new.self c.in_ok-open.ensures.verdict
    (c.copy_from_slice.ensures.after ∙ c.request-request.ensures.bytes) in
    record { answer = ap (λ (y : Claim). Ok y) c.claim.ensures ∙ x.answer; after = x.after; buffer = x.buffer }
