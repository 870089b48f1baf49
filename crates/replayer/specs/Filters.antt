-- Which destinations are a channel's.
use Rattle.std.specs.Prelude.{ℕ, Bool, ◌==◌, ◌&&◌, ◌||◌, List, length}
use Rattle.std.specs.List.{list_any}

-- a list of what is admitted admits its members, and an empty one everything
abbrev pub lists : List ℕ → ℕ → Bool
lists xs x = length xs == 0 || list_any (λ y. y == x) xs

abbrev pub admits : List ℕ → List ℕ → ℕ → ℕ → Bool
admits groups ports group port = lists groups group && lists ports port
