-- The sizes that a region may have.
use Rattle.std.specs.Prelude.{◌≡◌, ℕ, ◌*◌, ◌%◌, Bool, true, false, ◌&&◌, ◌==◌, nat_le}
use Rattle.chain_shelf.specs.declared.region.TheConstants.{RECORD, FEWEST_RECORDS, MOST_RECORDS}

-- 26 to 65,535 whole records
abbrev pub fit : ℕ → Bool
fit n = n % RECORD == 0 && (nat_le (FEWEST_RECORDS * RECORD) n && nat_le n (MOST_RECORDS * RECORD))

-- some sizes, on both sides of each bound
abbrev pub SizesWorked : Type 0
SizesWorked = (fit 1600 ≡ false) × (fit 1664 ≡ true) × (fit 1665 ≡ false) × (fit 4194240 ≡ true) × (fit 4194304 ≡ false)
