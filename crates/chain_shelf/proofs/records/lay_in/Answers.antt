use Rattle.std.proofs.Common.{arith}
use Rattle.std.proofs.lemmas.List.{places}
use Rattle.chain_shelf.specs.Records.{mem}
use Rattle.chain_shelf.proofs.Cuts.{cut_from}
use Rattle.chain_shelf.proofs.records.lay_in.Goals as goal

pub returns-clause-there : goal.returns-clause-there
returns-clause-there c =
    let e = c.copy_from_slice.ensures.after in
    cut_from (mem _) c.args.index c.args.offset c.args.part.now (λ k l. grind (arith, places))
