-- Prices in billionths.
use Rattle.std.specs.Prelude.{ℕ, ◌-◌, ◌*◌, ◌^◌}

-- the price of a numerator with so many decimals
abbrev pub price : ℕ → ℕ → ℕ
price numerator scale = numerator * 10 ^ (9 - scale)
