use Rattle.std.proofs.Common.{cond, ap, ◌∙◌, arith, rules}
use Rattle.ladder.proofs.Places.{hits_more, byte_is}
use Rattle.ladder.proofs.ahead.Goals as goal

pub loop-row-preserved : goal.loop-row-preserved
loop-row-preserved g c =
    let m = g.R.Rank in
    let h = hits_more m.keyed m.before c.args.key c.args.rows.now c.loop-row.row-index c.row-item.result (omega arith) (search rules) in
    let b = byte_is c.precedes.result in
    let n = c.from-count.ensures in
    let e = b.0 ∙ ap (λ b. cond b 1 0) (c.precedes.ensures ∙ ap (λ k. m.before k c.args.key) c.key.ensures) in
    (omega (arith, n, b.1), omega (arith, h, n, e))
