use Rattle.std.proofs.Common.{ℕ, List, arith, rules, refl}
use Rattle.tally.specs.Tallies.{meant, executed_of}
use Rattle.reports.specs.Executed.{executed_row}
use Rattle.reports.proofs.Written.{one_more}
use Rattle.reports.proofs.executed.ExecutedDisplay.fmt.Goals as goal

pub loop-index-preserved : goal.loop-index-preserved
loop-index-preserved g c = λ plain.
    let row : ℕ → List ℕ = λ i. executed_row i (executed_of i (meant c.args.self.now.tally.now).rows) in
    one_more _ _ _ _ row c.loop-index.index _ refl (c.loop-index.invariant plain) (search rules)

pub returns-in_ok-write-clause-writes : goal.returns-in_ok-write-clause-writes
returns-in_ok-write-clause-writes g c = λ plain ok.
    let row : ℕ → List ℕ = λ i. executed_row i (executed_of i (meant c.args.self.now.tally.now).rows) in
    one_more _ _ _ _ row c.loop-index.index 65536 (omega arith) (c.loop-index.invariant plain) (search rules)
