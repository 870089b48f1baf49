use Rattle.journal.proofs.Columns.{run_columns}
use Rattle.journal.proofs.run.columns_stand.Goals as goal

pub returns : goal.returns
returns c = run_columns
