use Rattle.std.proofs.Common.{◌++◌, get_or, arith, rules}
use Rattle.std.proofs.Output.{has_written_append}
use Rattle.reports.specs.Preview.{refusal_line}
use Rattle.reports.proofs.Numbered.{refusal_next}
use Rattle.reports.proofs.preview.RefusalLinesDisplay.fmt.Goals as goal

pub loop-number-preserved : goal.loop-number-preserved
loop-number-preserved g c = λ plain.
    let now = c.loop-number.invariant plain in
    let n = c.loop-number.number in
    let cs = c.args.self.now.0.now in
    (now.0 ++ refusal_line n (get_or cs n 0), has_written_append _ _ _ _ _ _ now.1 (search rules), refusal_next n cs 0 now.0 _ (omega arith) now.2)
