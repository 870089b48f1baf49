-- A source of numbers: its state, and the state after the next number, which is that number.
use Rattle.std.specs.Prelude.{cond, ℕ, ◌+◌, ◌*◌, ◌/◌, ◌%◌, ◌^◌, eqb}
use Rattle.std.specs.Int.Bits.{bit_xor}

-- a seed, made odd
abbrev pub seeded : ℕ → ℕ
seeded seed = cond (eqb (seed % 2) 1) seed (seed + 1)

-- 64 bits, moved up by 13, down by 7 and up by 17, and each time laid over what they were
abbrev pub up : ℕ → ℕ → ℕ
up k x = bit_xor x (x * 2 ^ k % 2 ^ 64)

abbrev pub down : ℕ → ℕ → ℕ
down k x = bit_xor x (x / 2 ^ k)

abbrev pub following : ℕ → ℕ
following x = up 17 (down 7 (up 13 x))

-- the choice of a number below n, and the state after it
abbrev pub chosen : ℕ → ℕ → ℕ
chosen x n = cond (eqb n 0) 0 (following x % n)

abbrev pub after_choice : ℕ → ℕ → ℕ
after_choice x n = cond (eqb n 0) x (following x)
