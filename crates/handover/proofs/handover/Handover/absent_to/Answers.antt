use Rattle.std.proofs.Common.{sym, ◌∙◌}
use Rattle.handover.proofs.Flows.{above_between}
use Rattle.handover.proofs.handover.Handover.absent_to.Goals as goal

pub returns-in-Some-clause-absent : goal.returns-in-Some-clause-absent
returns-in-Some-clause-absent g c = λ n a b.
    above_between (g.H.Shelf.means c.args.self.now.shelf).held c.args.self.now.last c.in-Some.held c.args.end c.min.result n
    (sym c.in-Some.is ∙ c.least_above.ensures) (g.met.H.Shelf.lawful c.args.self.now.shelf).up c.min.ensures a b
