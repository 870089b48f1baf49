-- Bytes written as hexadecimal digits.
use Rattle.std.specs.Prelude.{ℕ, ◌+◌, ◌-◌, ◌*◌, cond, ◌&&◌, List, [], ◌∷◌, Some, None, Option, nat_le}

-- the value of a digit: 0 to 9, a to f or A to F
abbrev pub nibble : ℕ → Option ℕ
nibble b =
    cond (nat_le 48 b && nat_le b 57) (Some (b - 48))
    (cond (nat_le 97 b && nat_le b 102) (Some (b - 97 + 10))
    (cond (nat_le 65 b && nat_le b 70) (Some (b - 65 + 10))
    None))

-- a byte in front of others, where its digits and they can be read
abbrev pub in_front : Option ℕ → Option ℕ → Option (List ℕ) → Option (List ℕ)
in_front (Some h) (Some l) (Some bs) = Some ((h * 16 + l) ∷ bs)
in_front (Some h) (Some l) None = None
in_front (Some h) None bs = None
in_front None l bs = None

-- two digits to a byte, the more significant first
abbrev pub hex_bytes : List ℕ → Option (List ℕ)
hex_bytes [] = Some []
hex_bytes (h ∷ []) = None
hex_bytes (h ∷ (l ∷ ds)) = in_front (nibble h) (nibble l) (hex_bytes ds)
