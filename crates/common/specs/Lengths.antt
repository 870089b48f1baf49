-- How long a packet may be, in bytes.
use Rattle.std.specs.Prelude.{ℕ, Bool, ◌&&◌, nat_le}
use Rattle.common.specs.declared.TheConstants.{SHORTEST, LONGEST}

-- a length that a packet may have
abbrev pub right : ℕ → Bool
right n = nat_le SHORTEST n && nat_le n LONGEST
