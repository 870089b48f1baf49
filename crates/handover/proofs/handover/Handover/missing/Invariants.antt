use Rattle.std.proofs.Common.{◌≡◌, ◌+◌, ◌-◌, ◌≤◌}
use Rattle.handover.specs.Flows.{missing}
use Rattle.handover.proofs.handover.Handover.missing.Given as goal

-- what was counted and what is left make the whole; number 0 is never counted
abbrev pub invariant-loop-number : goal.invariant-loop-number
invariant-loop-number g l =
    (l.count + missing l.self.last (g.H.Shelf.means l.self.shelf).held l.number (l.end + 1 - l.number)
    ≡ missing l.self.last (g.H.Shelf.means l.self.shelf).held l.begin (l.end + 1 - l.begin))
    × (l.count ≤ l.number - 1)
