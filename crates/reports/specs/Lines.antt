-- A line of a page: a name and a count.
use Rattle.std.specs.Prelude.{ℕ, ◌-◌, List, ◌++◌, length, replicate, codes, decimal}

-- a text with blanks in front, so that it ends in a column
abbrev pub right : ℕ → List ℕ → List ℕ
right width bs = replicate (width - length bs) 32 ++ bs

-- two blanks, the name, and the count in twelve columns
abbrev pub count_line : List ℕ → ℕ → List ℕ
count_line name n = codes "  " ++ (name ++ (right 12 (decimal n) ++ codes "\n"))
