use Rattle.std.specs.Fmt.{HasWritten, IsPlainFormatter}
use Rattle.tally.specs.Tallies.{meant, executed_of}
use Rattle.reports.specs.Each.{each_below}
use Rattle.reports.specs.Executed.{executed_row}
use Rattle.reports.proofs.executed.ExecutedDisplay.fmt.Given as goal

-- the rows of the indexes below this one are written
abbrev pub invariant-loop-index : goal.invariant-loop-index
invariant-loop-index g l =
    IsPlainFormatter l.initial.f
    → HasWritten g.W.Write.write_str_gives l.initial.f (each_below l.index (λ i. executed_row i (executed_of i (meant l.self.tally.now).rows))) l.f
