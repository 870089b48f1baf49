-- Keys that are numbers, the smaller one first: what a rank must prove of them.
use Rattle.std.proofs.Common.{◌≡◌, ℕ, true, nat_lt, ◌<◌, inl, inr, arith}
use Rattle.std.proofs.lemmas.Bool.{ltb-true, lt-ltb, cases_order}
use Rattle.rank.specs.Keys.{ExactlyOne, the_first, the_second, the_third}

pub rising_one : (a b : ℕ) → ExactlyOne (nat_lt a b ≡ true) (a ≡ b) (nat_lt b a ≡ true)
rising_one a b =
    elim (cases_order a b) [
      | inl e ↦ the_second (λ t. let l : a < b = ltb-true a b t in omega arith) e (λ t. let l : b < a = ltb-true b a t in omega arith)
      | inr (inl l) ↦ the_first (lt-ltb a b l) (λ e. omega arith) (λ t. let m : b < a = ltb-true b a t in omega arith)
      | inr (inr l) ↦ the_third (λ t. let m : a < b = ltb-true a b t in omega arith) (λ e. omega arith) (lt-ltb b a l)
    ]

pub rising_transitive : (a b c : ℕ) → nat_lt a b ≡ true → nat_lt b c ≡ true → nat_lt a c ≡ true
rising_transitive a b c p q = lt-ltb a c (omega (arith, ltb-true a b p, ltb-true b c q))
