use Rattle.std.proofs.Common.{◌≡◌, ℕ, ◌-◌, ◌<◌, ◌≤◌, false, List}
use Rattle.shelf.specs.Store.{has}
use Rattle.handover.specs.Flows.{hands_to}
use Rattle.handover.specs.Handovers.{flow}
use Rattle.handover.proofs.handover.Handover.lose_to.Given as goal

-- none of what is left of the range is held, and it leads where all of it would
abbrev pub invariant-loop-self : goal.invariant-loop-self
invariant-loop-self g l =
    (l.initial.self.last ≤ l.self.last)
    × ((n : ℕ) → l.self.last < n → n ≤ l.until → has (g.H.Shelf.means l.self.shelf).held n ≡ false)
    × ((s : List ℕ) → hands_to g.S.Sink.step l.until (flow g.S.Sink g.H.Shelf l.self s) ≡ hands_to g.S.Sink.step l.until (flow g.S.Sink g.H.Shelf l.initial.self s))

abbrev pub decreases-loop-self : goal.decreases-loop-self
decreases-loop-self g l = l.until - l.self.last
