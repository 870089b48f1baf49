use Rattle.std.proofs.Common.{sym, ap, ◌∙◌}
use Rattle.channel.specs.Follows.{make}
use Rattle.operator.specs.declared.action.Action.{Action}
use Rattle.operator.specs.Desks.{desk, asked_after, desk_after}
use Rattle.operator.proofs.desk.Desk.act.Goals as goal

pub returns-in-Make-clause-after : goal.returns-in-Make-clause-after
returns-in-Make-clause-after g c =
    let step = g.S.Sink.step in
    let d = desk g.S.Sink g.H.Shelf c.args.self.now c.args.buffer.now in
    c.make.ensures.after c.args.buffer.now
    ∙ ap (λ s. asked_after step (make c.in-Make.number s c.in-Make.first) d) c.as_slice.ensures.value
    ∙ ap (λ (a : Action). desk_after step a d) (sym c.in-Make.is)

pub returns-in-Restart-clause-after : goal.returns-in-Restart-clause-after
returns-in-Restart-clause-after g c =
    let step = g.S.Sink.step in
    let d = desk g.S.Sink g.H.Shelf c.args.self.now c.args.buffer.now in
    c.restart.ensures.after c.args.buffer.now ∙ ap (λ (a : Action). desk_after step a d) (sym c.in-Restart.is)
