use Rattle.std.proofs.Common.{ap, ◌∙◌}
use Rattle.channel.specs.Follows.{restart}
use Rattle.operator.specs.Desks.{asked_after}
use Rattle.replayer.proofs.replayer.Replayer.begin_again.Goals as goal

pub returns-clause-after : goal.returns-clause-after
returns-clause-after g c b = c.restart.ensures.after b ∙ ap (asked_after g.S.Sink.step (restart c.args.next)) (c.settle-settled.ensures.after b)
