use Rattle.capture.proofs.Pieces.{told_short, told_stands, told_back}
use Rattle.capture.proofs.format.Format.read_record.Goals as goal

pub returns-clause-short : goal.returns-clause-short
returns-clause-short c = told_short c.args.self.order c.args.bytes.now _ c.record_of.ensures

pub returns-clause-stands : goal.returns-clause-stands
returns-clause-stands c = told_stands c.args.self.order c.args.bytes.now _ c.record_of.ensures

pub returns-clause-back : goal.returns-clause-back
returns-clause-back c = told_back c.args.self.order c.args.bytes.now _ c.record_of.ensures
