-- A seed with its lowest bit set.
use Rattle.std.proofs.Common.{◌≡◌, ℕ, ◌+◌, ◌%◌, arith}
use Rattle.std.specs.Int.Bits.{bit_and, bit_or, or_add_and}
use Rattle.std.proofs.lemmas.Nat.{and_mask}
use Rattle.std.proofs.lemmas.Bool.Decides.{nat_tests}
use Rattle.random.specs.Sources.{seeded}

pub odd_seed : (s : ℕ) → bit_or s 1 ≡ seeded s
odd_seed s =
    let b : bit_or s 1 + bit_and s 1 ≡ s + 1 = or_add_and s 1 in
    let m : bit_and s 1 ≡ s % 2 = and_mask s 1 in
    grind (arith, nat_tests)
