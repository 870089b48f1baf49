use Rattle.std.proofs.Common.{sym, ◌∙◌, arith}
use Rattle.handover.proofs.Missing.{counts, counts_not, above_last, missing_step}
use Rattle.handover.proofs.handover.Handover.missing.Goals as goal
use Rattle.handover.proofs.handover.Handover.missing.Goals.{then-lacks, else-lacks}

pub loop-number-preserved : goal.loop-number-preserved
loop-number-preserved g c =
    let l = c.args.self.now.last in
    let h = (g.H.Shelf.means c.args.self.now.shelf).held in
    let n = c.loop-number.number in
    let step = missing_step l h n c.args.end c.loop-number.count c.if-lacks.count in
    elim c.if-lacks.branch [
      | then-lacks w ↦
          let t = sym w.if-lacks.ensures in
          (step 1 c.loop-number-test.true (counts l h n t) w.count-is ∙ c.loop-number.invariant.0, omega (arith, w.count-is, c.loop-number.invariant.1, above_last l h n t))
      | else-lacks w ↦
          (step 0 c.loop-number-test.true (counts_not l h n (sym w.if-lacks.ensures)) (omega (arith, w.count-is)) ∙ c.loop-number.invariant.0, omega (arith, w.count-is, c.loop-number.invariant.1))
    ]
