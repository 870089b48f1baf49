use Rattle.journal.proofs.Told.{stands}
use Rattle.journal.proofs.journal.rows_stand.Goals as goal

pub returns : goal.returns
returns g c = stands g.R.Rows.text
