use Rattle.reports.proofs.Columns.{all_rows}
use Rattle.reports.proofs.headers.rows_have_columns.Goals as goal

pub returns-clause-rows : goal.returns-clause-rows
returns-clause-rows c = all_rows
