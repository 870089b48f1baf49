use Rattle.std.specs.Fmt.{HasWritten, IsPlainFormatter}
use Rattle.tally.specs.Tallies.{meant, executed_of}
use Rattle.reports.specs.Each.{each_below}
use Rattle.reports.specs.Preview.{index_line}
use Rattle.reports.proofs.preview.IndexLinesDisplay.fmt.Given as goal

-- the rows of the indexes below this one are written
abbrev pub invariant-loop-index : goal.invariant-loop-index
invariant-loop-index g l =
    IsPlainFormatter l.initial.f
    → HasWritten g.W.Write.write_str_gives l.initial.f (each_below l.index (λ i. index_line i (executed_of i (meant l.tally).rows))) l.f
