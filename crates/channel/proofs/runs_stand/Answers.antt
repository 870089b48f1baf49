use Rattle.channel.proofs.Runs.{joined, runs_stand}
use Rattle.channel.proofs.runs_stand.Goals as goal

pub returns : goal.returns
returns g c = record { join = joined g.S.Sink.step; stand = runs_stand g.S.Sink.step }
