use Rattle.channel.proofs.Laws.{counts, sources_stay, claims_ask}
use Rattle.channel.proofs.laws_stand.Goals as goal

pub returns : goal.returns
returns g c = record { counts = counts g.S.Sink.step; sources = sources_stay g.S.Sink.step; claims = claims_ask }
