-- The rank of a tally's rows: the lower index first.
use Rattle.std.specs.Prelude.{ℕ, Bool, nat_lt}
use Rattle.tally.specs.declared.row.Row.{Row}

abbrev pub row_key : Row → ℕ
row_key r = r.index

abbrev pub row_before : ℕ → ℕ → Bool
row_before a b = nat_lt a b

-- what is read past the last row
abbrev pub blank : Row
blank = record { index = 0; executed = 0 }
