-- What exactly one of three facts says of two keys.
use Rattle.std.proofs.Common.{◌≡◌, Bool, true, false, refl}
use Rattle.std.proofs.lemmas.Bool.{both_ways, false_from_ne_true}
use Rattle.rank.specs.Keys.{ExactlyOne, the_first, the_second, the_third}

module _ {K : Type 0} (before : K → K → Bool) (one : (a b : K) → ExactlyOne (before a b ≡ true) (a ≡ b) (before b a ≡ true)) where
  pub not_back : (a b : K) → before a b ≡ true → before b a ≡ false
  not_back a b h = elim (one a b) [ the_first p n m ↦ false_from_ne_true _ m | the_second n p m ↦ absurd (n h) | the_third n m p ↦ absurd (n h) ]

  pub irreflexive : (a : K) → before a a ≡ false
  irreflexive a = elim (one a a) [ the_first p n m ↦ absurd (n refl) | the_second n p m ↦ false_from_ne_true _ n | the_third n m p ↦ absurd (m refl) ]

  pub total : (a b : K) → before a b ≡ false → before b a ≡ false → a ≡ b
  total a b p q = elim (one a b) [ the_first t n m ↦ absurd (both_ways _ p t) | the_second n e m ↦ e | the_third n m t ↦ absurd (both_ways _ q t) ]
