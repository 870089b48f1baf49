use Rattle.std.proofs.Common.{refl}
use Rattle.std.specs.Fmt.{digits}
use Rattle.wire.specs.Points.{points}
use Rattle.journal.proofs.rows.rows_worked.Goals as goal

pub returns-clause-run : goal.returns-clause-run
unfolding digits points
returns-clause-run c = record {
  whole = refl;
  empty = refl;
  changed = refl;
  mapped = refl;
  lost = refl;
  refreshed = refl;
  restarted = refl;
  reset_told = refl;
  range_told = refl;
}

pub returns-clause-losses : goal.returns-clause-losses
unfolding digits
returns-clause-losses c = record { lost = refl; mapped = refl; refreshed = refl; restarted = refl }
