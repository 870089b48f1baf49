use Rattle.std.proofs.Common.{◌≡◌, ◌+◌, take, Some, Ok, ap, ◌∙◌}
use native.Mathlib.Nat.{sub-zero}
use Rattle.shelf.specs.Store.{take_answer}
use Rattle.order.specs.Machine.{turn}
use Rattle.handover.specs.Flows.{message_of}
use Rattle.handover.specs.Handovers.{flow}
use Rattle.handover.proofs.Flows.{off, handed}
use Rattle.handover.proofs.handover.Handover.hand.Goals as goal

pub returns-in-Ok-Some : goal.returns-in-Ok-Some
returns-in-Ok-Some g c =
    let t = c.in-Ok-Some.ensures in
    let a : Ok (Some c.in-Ok-Some.len) ≡ take_answer (g.H.Shelf.means c.args.self.now.shelf) (c.args.self.now.last + 1) c.args.scratch.now = cc t.answer in
    let x = off (g.H.Shelf.means c.args.self.now.shelf) (g.H.Shelf.means c.take.new.self) (c.args.self.now.last + 1) c.args.scratch.now c.take.new.buffer c.in-Ok-Some.len
    c.requires.room a t.buffer t.after (g.met.H.Shelf.lawful c.args.self.now.shelf).sized in
    handed g.S.Sink.step (flow g.S.Sink g.H.Shelf c.args.self.now c.args.scratch.now) (g.H.Shelf.means c.take.new.self)
    (g.S.Sink.means c.hand_packet.new.sink) c.take.new.buffer (Some (take c.in-Ok-Some.len c.take.new.buffer)) x.found x.rest
    (c.hand_packet.ensures
    ∙ ap (λ k. g.S.Sink.step (turn (c.args.self.now.last + 1) (message_of (Some (take k c.take.new.buffer)))) (g.S.Sink.means c.args.self.now.sink)) (sub-zero c.in-Ok-Some.len))
    x.front
