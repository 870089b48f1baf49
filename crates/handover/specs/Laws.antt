-- What the count of missing numbers says.
use Rattle.std.specs.Prelude.{◌≡◌, ℕ, ◌+◌, ◌<◌, ◌≤◌, true, ◌⊎◌, ◌↔◌}
use Rattle.shelf.specs.Store.{Packets, has}
use Rattle.handover.specs.Flows.{missing}

-- a number that is at most last, or held
abbrev pub Come : ℕ → Packets → ℕ → Type 0
Come l h n = (n ≤ l) ⊎ (has h n ≡ true)

-- of `k` numbers from `n` on at most all are missing, and none is exactly where each has come
pub record Counted (l : ℕ) (h : Packets) (n k : ℕ) : Type 0 where
  pub most : missing l h n k ≤ k
  pub none : (missing l h n k ≡ 0) ↔ ((m : ℕ) → n ≤ m → m < n + k → Come l h m)

-- whatever last is, and whatever is held
abbrev pub MissingCounted : Type 0
MissingCounted = (l : ℕ) (h : Packets) (n k : ℕ) → Counted l h n k
