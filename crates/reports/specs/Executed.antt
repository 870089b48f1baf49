-- The lines of executed volume.
use Rattle.std.specs.Prelude.{ℕ, List, [], ◌++◌, Some, None, codes, decimal, Option}
use Rattle.tally.specs.declared.row.Row.{Row}
use Rattle.tally.specs.Tallies.{executed_of}
use Rattle.reports.specs.Each.{each_below}

-- an index and its volume; nothing where it has no row
abbrev pub executed_row : ℕ → Option ℕ → List ℕ
executed_row i None = []
executed_row i (Some n) = decimal i ++ (codes "," ++ (decimal n ++ codes "\n"))

-- every index of 16 bits that has a row
abbrev pub executed_rows : List Row → List ℕ
executed_rows rs = each_below 65536 (λ i. executed_row i (executed_of i rs))
