use Rattle.std.proofs.Common.{sym, subst, take}
use Rattle.rank.specs.Rows.{Sorted}
use Rattle.tally.specs.Rows.{row_key, row_before}
use Rattle.tally.proofs.Found.{row_laws}
use Rattle.tally.proofs.tally.Tally.add_row.Goals as goal

pub invariant_of-self : goal.invariant_of-self
invariant_of-self c =
    let t = c.args.self.now in
    let h = c.in-Some.ensures.ordered t.ordered in record {
      few = h.within;
      ordered = subst (Sorted row_key row_before) (sym h.is) (row_laws.inserted_sorted c.args.row (take t.used t.rows.now) t.ordered);
    }
