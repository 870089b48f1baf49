use Rattle.std.proofs.Common.{◌≡◌, ℕ, List, ◌++◌, drop}
use Rattle.std.specs.Fmt.{HasWritten, IsPlainFormatter}
use Rattle.reports.specs.Preview.{refusal_lines}
use Rattle.reports.proofs.preview.RefusalLinesDisplay.fmt.Given as goal

-- what is left goes behind what is written
abbrev pub invariant-loop-number : goal.invariant-loop-number
invariant-loop-number g l =
    IsPlainFormatter l.initial.f
    → (done : List ℕ) × HasWritten g.W.Write.write_str_gives l.initial.f done l.f
    × (done ++ refusal_lines l.number (drop l.number l.counts) ≡ refusal_lines 0 l.counts)
