-- Numbers in a list of bytes.
use Rattle.std.specs.Prelude.{ℕ, ◌+◌, ◌*◌, List, slice_index}
use Rattle.capture.specs.declared.format.Order.{Order}
use Rattle.capture.specs.declared.format.Order.TheVariants.{Big, Little}

-- the number of two bytes at an offset in the order of the network, the first the more significant
abbrev pub be16 : List ℕ → ℕ → ℕ
be16 xs i = slice_index xs i * 256 + slice_index xs (i + 1)

-- the number of four bytes, in the order of the file
abbrev pub u32_of : Order → ℕ → ℕ → ℕ → ℕ → ℕ
u32_of Big a b c d = a * 16777216 + b * 65536 + c * 256 + d
u32_of Little a b c d = a + b * 256 + c * 65536 + d * 16777216

-- such a number at an offset
abbrev pub u32_at : Order → List ℕ → ℕ → ℕ
u32_at o xs i = u32_of o (slice_index xs i) (slice_index xs (i + 1)) (slice_index xs (i + 2)) (slice_index xs (i + 3))
