use Rattle.std.proofs.Common.{[], ◌++◌, codes, append_assoc, rules}
use Rattle.std.proofs.Output.{writes_in_calls_nil, has_written_append}
use Rattle.console.proofs.answers.PointLinesDisplay.fmt.Goals as goal

pub loop-point-init : goal.loop-point-init
loop-point-init g c = λ plain. ([], record { wrote = writes_in_calls_nil _ _; plain = plain }, search rules)

pub loop-point-preserved : goal.loop-point-preserved
loop-point-preserved g c = λ plain.
    let now = c.loop-point.invariant plain in
    let said = g.P.Line.said c.args.self.now.scale c.in-Some.point in
    let line = has_written_append g.W.Write.write_str_gives c.loop-point.f said c.write_line.new.f (codes "\n") c.write_str.new.self (search rules) (search rules) in
    (now.0 ++ (said ++ codes "\n"), has_written_append _ _ _ _ _ _ now.1 line, search (rules, append_assoc))
