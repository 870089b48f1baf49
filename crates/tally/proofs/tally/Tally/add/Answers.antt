use Rattle.std.proofs.Common.{◌∙◌, refl, ap, arith, rules}
use Rattle.std.proofs.lemmas.List.{length-set}
use Rattle.rank.specs.Rows.{inserted}
use Rattle.tally.specs.Rows.{row_key, row_before}
use Rattle.tally.specs.Tallies.{meant, row_of, become}
use Rattle.tally.proofs.Found.{written_sorted, there_added, missing_added}
use Rattle.tally.proofs.tally.Tally.add.Goals as goal

pub invariant_of-self : goal.invariant_of-self
invariant_of-self c =
    let t = c.args.self.now in record {
      few = omega (arith, length-set t.rows.now c.in-Ok.at (row_of c.args.index c.plus-executed.result), t.few);
      ordered = written_sorted t.rows.now t.used c.args.index c.in-Ok.at c.in-Ok.ensures c.args.quantity c.plus-executed.result (search rules) t.ordered;
    }

pub returns-in-Ok : goal.returns-in-Ok
returns-in-Ok c =
    let t = c.args.self.now in
    there_added t.rows.now t.used c.args.index c.in-Ok.at c.in-Ok.ensures c.args.quantity c.plus-executed.result (meant t) refl refl (search rules)

pub returns-in-Err : goal.returns-in-Err
returns-in-Err c =
    let t = c.args.self.now in
    c.add_row.ensures
    ∙ ap (λ q. become (inserted row_key row_before (row_of c.args.index q) (meant t).rows) (meant t)) c.from.ensures
    ∙ missing_added c.args.index c.args.quantity _ (meant t) (omega arith) c.in-Err.ensures
