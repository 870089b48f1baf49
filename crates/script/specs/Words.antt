-- How a line or a word begins.
use Rattle.std.specs.Prelude.{ℕ, Bool, ◌&&◌, List, length, ◌==◌, nat_lt, slice_index}

-- whether the first byte is the given one
abbrev pub begins : ℕ → List ℕ → Bool
begins b t = nat_lt 0 (length t) && slice_index t 0 == b
