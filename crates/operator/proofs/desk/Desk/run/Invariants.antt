use Rattle.std.proofs.Common.{◌≡◌, take}
use Rattle.operator.specs.Desks.{desk, desks_after, replies_to, placed}
use Rattle.operator.proofs.desk.Desk.run.Given as goal

-- what was done of the list so far, and its replies
abbrev pub invariant-loop-i : goal.invariant-loop-i
invariant-loop-i g l =
    (desk g.S.Sink g.H.Shelf l.self l.buffer
    ≡ desks_after g.S.Sink.step (take l.i l.actions) (desk g.S.Sink g.H.Shelf l.initial.self l.initial.buffer))
    × (l.replies ≡ placed (replies_to g.S.Sink.step (take l.i l.actions) (desk g.S.Sink g.H.Shelf l.initial.self l.initial.buffer)) l.initial.replies)
