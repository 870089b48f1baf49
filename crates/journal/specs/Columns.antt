-- A row is a line of columns.
use Rattle.std.specs.Prelude.{◌≡◌, ℕ, Bool, true, not, ◌&&◌, List, [], ◌∷◌, ◌++◌, codes, decimal, ◌==◌}
use Rattle.sink.specs.Events.{Event, data_of, loss_of, refresh_of, restart_of}
use Rattle.journal.specs.RunTexts.{run_row}

-- no comma and no line end
abbrev pub plain : List ℕ → Bool
plain [] = true
plain (b ∷ bs) = (not (b == 44) && not (b == 10)) && plain bs

-- the number of an event
abbrev pub number_of : Event → ℕ
number_of (data_of n m) = n
number_of (loss_of n) = n
number_of (refresh_of n m) = n
number_of (restart_of n) = n

-- a row has a number and four more columns, parted by commas, and one line end
pub record Columns (number : ℕ) (row : List ℕ) : Type 0 where
  pub event : List ℕ
  pub kind : List ℕ
  pub index : List ℕ
  pub points : List ℕ
  pub is : row ≡ decimal number ++ (codes "," ++ (event ++ (codes "," ++ (kind ++ (codes "," ++ (index ++ (codes "," ++ (points ++ codes "\n"))))))))
  pub plain_number : plain (decimal number) ≡ true
  pub plain_event : plain event ≡ true
  pub plain_kind : plain kind ≡ true
  pub plain_index : plain index ≡ true
  pub plain_points : plain points ≡ true

-- each row of a run has five columns
abbrev pub RunColumns : Type 0
RunColumns = (e : Event) → Columns (number_of e) (run_row e)
