use Rattle.operator.specs.Desks.{desk}
use Rattle.replayer.proofs.Takes.{taken_answer}
use Rattle.replayer.proofs.replayer.Replayer.follow_taken.Goals as goal

pub returns-clause-answer : goal.returns-clause-answer
returns-clause-answer g c =
    let b = c.args.buffer.now in
    taken_answer g.S.Sink.step c.args.taken (desk g.S.Sink g.H.Shelf c.args.self.now.desk b) (desk g.S.Sink g.H.Shelf c.settle_due-settled.new.self.desk b)
    c.settle_due-settled.result c.claim_due-claimed.result
    (c.settle_due-settled.ensures.reply b) (c.settle_due-settled.ensures.after b) c.claim_due-claimed.ensures.reply
