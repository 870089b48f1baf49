-- A point is the same whether its offset counts from the first byte or from a later one.
use Rattle.std.proofs.Common.{add_assoc}
use Rattle.std.proofs.lemmas.List.{get_or-drop}
use Rattle.wire.specs.Points.{full_at, delta_at, Shifts}

pub full_shifts : Shifts full_at
full_shifts ps n o = simp (get_or-drop, add_assoc)

pub delta_shifts : Shifts delta_at
delta_shifts ps n o = simp (get_or-drop, add_assoc)
