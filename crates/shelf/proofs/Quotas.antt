-- Quotas on quotas.
use Rattle.std.proofs.Common.{◌≡◌, ℕ, ◌-◌, ◌^◌, ◌<◌, min, max, ap, arith}
use Rattle.shelf.specs.Store.{Store}
use Rattle.shelf.specs.Laws.{QuotasJoin, WidestQuota}

with_total : Store → ℕ → Store
with_total s t = record { held = s.held; total = t; price = s.price }

lesser : (l k p t : ℕ) → min (max l p) (min (max k p) t) ≡ min (max (min l k) p) t
lesser l k p t = omega arith

widest : (p t : ℕ) → t < 2 ^ 32 → min (max (2 ^ 32 - 1) p) t ≡ t
widest p t f = omega arith

pub quotas_join : QuotasJoin
unfolding with_total
quotas_join l k s = ap (with_total s) (lesser l k (s.price 1500) s.total)

pub widest_quota : WidestQuota
unfolding with_total
widest_quota s w = ap (with_total s) (widest (s.price 1500) s.total w.fits)
