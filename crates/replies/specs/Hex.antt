-- Bytes as hexadecimal digits.
use Rattle.std.specs.Prelude.{ℕ, ◌+◌, ◌/◌, ◌%◌, cond, List, [], ◌∷◌, nat_lt}
use Rattle.std.specs.List.{flat_map}

-- 0 to 9, then a to f
abbrev pub hex_digit : ℕ → ℕ
hex_digit n = cond (nat_lt n 10) (48 + n) (87 + n)

-- two digits to a byte, the more significant first
abbrev pub byte_text : ℕ → List ℕ
byte_text b = hex_digit (b / 16) ∷ (hex_digit (b % 16) ∷ [])

abbrev pub hex_text : List ℕ → List ℕ
hex_text bytes = flat_map byte_text bytes
