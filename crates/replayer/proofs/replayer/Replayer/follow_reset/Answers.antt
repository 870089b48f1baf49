use Rattle.std.proofs.Common.{◌≡◌, false, sym, ap, ◌∙◌}
use Rattle.replayer.specs.declared.followed.Followed.{Followed}
use Rattle.std.proofs.Common.{Some}
use Rattle.replayer.specs.Replays.{announced_in, is_same, replay}
use Rattle.replayer.proofs.Takes.{reset_answer}
use Rattle.replayer.proofs.replayer.Replayer.follow_reset.Goals as goal

pub returns-clause-answer : goal.returns-clause-answer
returns-clause-answer g c b =
    let r = replay g.S.Sink g.H.Shelf c.args.self.now b in
    let s = c.begin_again-settled.result.0 in
    let a = c.begin_again-settled.result.1 in
    let new : is_same (announced_in c.args.packet.now) r.reset ≡ false =
    ap (λ x. is_same x r.reset) (sym c.read-announced.ensures) ∙ sym c.is_same.ensures ∙ c.if-is_same.false in
    ap (λ (f : Followed). record f { settled = s; restarted = Some (c.args.next, a) }) c.refused-2.ensures
    ∙ reset_answer g.S.Sink.step c.args.fault c.args.next c.args.packet.now r s a new (c.begin_again-settled.ensures.settled b) (c.begin_again-settled.ensures.restarted b)
