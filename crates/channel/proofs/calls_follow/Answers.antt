use Rattle.channel.proofs.Follows.{calls_follow, making_follows}
use Rattle.channel.proofs.calls_follow.Goals as goal

pub returns : goal.returns
returns g c = record { calls = calls_follow g.S.Sink.step; making = making_follows g.S.Sink.step }
