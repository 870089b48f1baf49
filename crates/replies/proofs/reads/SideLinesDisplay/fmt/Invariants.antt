use Rattle.std.proofs.Common.{take}
use Rattle.std.specs.Fmt.{HasWritten, IsPlainFormatter}
use Rattle.replies.specs.Reads.{levels_text}
use Rattle.replies.proofs.reads.SideLinesDisplay.fmt.Given as goal

-- the lines of the first levels are written
abbrev pub invariant-loop-level : goal.invariant-loop-level
invariant-loop-level g l =
    IsPlainFormatter l.initial.f → HasWritten g.W.Write.write_str_gives l.initial.f (levels_text l.side (take l.level-index l.levels)) l.f
