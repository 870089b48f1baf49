use Rattle.std.proofs.Common.{◌∙◌, rules}
use Rattle.wire.proofs.Rescaled.{price_rescaled}
use Rattle.wire.proofs.price.billionths.Goals as goal

pub returns-clause-rescaled : goal.returns-clause-rescaled
returns-clause-rescaled c k h = price_rescaled c.args.numerator c.args.scale k h ∙ (search rules)
