use Rattle.shelf.proofs.Quotas.{quotas_join, widest_quota}
use Rattle.shelf.proofs.quotas_join.Goals as goal

pub returns : goal.returns
returns c = record { join = quotas_join; widest = widest_quota }
