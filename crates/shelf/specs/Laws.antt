-- What the definitions of the map of packets come to: look-ups, the least number above, the units. What quotas on quotas come to.
use Rattle.std.specs.Prelude.{◌≡◌, ℕ, ◌+◌, ◌-◌, ◌^◌, ◌<◌, ◌≤◌, min, true, false, cond, List, length, is_some, Some, None, MatchOption, ◌==◌}
use Rattle.shelf.specs.Store.{Packets, Store, Lawful, lookup, has, insert, remove, above, units, Up, capped}

-- the least number held above k, where there is one
abbrev pub LeastAbove : Packets → ℕ → Type 0
LeastAbove h k = MatchOption (above h k)
    ((j : ℕ) → has h j ≡ true → j ≤ k)
    (λ m. (k < m) × (has h m ≡ true) × ((j : ℕ) → k < j → has h j ≡ true → m ≤ j))

-- a list of packets, numbers rising, is a map
pub record MapLaw (h : Packets) : Type 0 where
  pub held : (k : ℕ) → has h k ≡ is_some (lookup h k)
  pub inserted : (k j : ℕ) (p : List ℕ) → has h k ≡ false → lookup (insert k p h) j ≡ cond (j == k) (Some p) (lookup h j)
  pub removed : (k j : ℕ) → lookup (remove k h) j ≡ cond (j == k) None (lookup h j)
  pub least : (k : ℕ) → LeastAbove h k
  pub units_inserted : (f : ℕ → ℕ) (k : ℕ) (p : List ℕ) → units f (insert k p h) ≡ f (length p) + units f h
  pub units_removed : (f : ℕ → ℕ) (k : ℕ) (p : List ℕ) → lookup h k ≡ Some p → f (length p) + units f (remove k h) ≡ units f h

abbrev pub HeldIsAMap : Type 0
HeldIsAMap = (h : Packets) → Up 0 h → MapLaw h

-- a quota on a quota is one quota with the lesser limit
abbrev pub QuotasJoin : Type 0
QuotasJoin = (l k : ℕ) (s : Store) → capped l (capped k s) ≡ capped (min l k) s

-- a quota with the largest limit changes nothing
abbrev pub WidestQuota : Type 0
WidestQuota = (s : Store) → Lawful s → capped (2 ^ 32 - 1) s ≡ s
