-- Numbers written as decimal digits.
use Rattle.std.specs.Prelude.{ℕ, ◌^◌, cond, ◌&&◌, List, length, Some, None, Option, nat_lt}
use Rattle.std.specs.Str.Parse.{digits_value}
use Rattle.std.specs.Str.{all_ascii_digits}

-- the number that a word of digits writes, where it fits that many bits; zeros in front change nothing
abbrev pub number_in : ℕ → List ℕ → Option ℕ
number_in bits w = cond (all_ascii_digits w && (nat_lt 0 (length w) && nat_lt (digits_value 10 w) (2 ^ bits))) (Some (digits_value 10 w)) None
