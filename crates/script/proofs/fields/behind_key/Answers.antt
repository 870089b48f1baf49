use Rattle.std.proofs.lemmas.Slice.Eq.{strip_prefix_is}
use Rattle.script.proofs.Keys.{keyed_is}
use Rattle.script.proofs.fields.behind_key.Goals as goal
use Rattle.std.proofs.lemmas.Bool.Decides.{Decides-eqb}

pub returns : goal.returns
returns c =
    let w = c.args.word.now in
    let k = c.args.key.now in
    keyed_is w k c.strip_prefix.result (strip_prefix_is Decides-eqb w k c.strip_prefix.result c.strip_prefix.ensures.cases)
