-- Laws of `first`: it passes the test, and nothing before it does.
use Rattle.std.proofs.Common.{◌≡◌, ℕ, zero, suc, ◌<◌, Bool, true, false, cond, Some, None, Option, refl, subst, inl, inr, arith, rules, MatchOption}
use Rattle.std.specs.Option.{option_or}
use Rattle.std.proofs.lemmas.Bool.{cases_lt}
use Rattle.wire.specs.Bytes.{first}

-- what an answer says
abbrev pub Firsts : (ℕ → Bool) → ℕ → Option ℕ → Type 0
Firsts f n r = MatchOption r ((k : ℕ) → k < n → f k ≡ false) (λ o. (o < n) × (f o ≡ true) × ((k : ℕ) → k < o → f k ≡ false))

one_more : (f : ℕ → Bool) (n : ℕ) (r : Option ℕ) (b : Bool) → f n ≡ b → Firsts f n r → Firsts f (suc n) (option_or r (cond b (Some n) None))
one_more f n (Some o) b e h = (omega arith, h.1, h.2)
one_more f n None true e h = (omega arith, e, h)
one_more f n None false e h = λ k l. search rules

pub first_is_first : (f : ℕ → Bool) (n : ℕ) → Firsts f n (first f n)
unfolding first
first_is_first f zero = λ k l. absurd (omega arith)
first_is_first f (suc n) = one_more f n (first f n) (f n) refl (first_is_first f n)

pub first_within : (f : ℕ → Bool) (n o : ℕ) → first f n ≡ Some o → o < n
first_within f n o e = let P : Option ℕ → Type 0 = Firsts f n in (subst P e (first_is_first f n)).0

pub first_none : (f : ℕ → Bool) (n : ℕ) → ((k : ℕ) → k < n → f k ≡ false) → first f n ≡ None
unfolding first
first_none f zero h = refl
first_none f (suc n) h = rw (first_none f n (λ k l. h k (omega arith)), h n (omega arith)) refl

pub first_some : (f : ℕ → Bool) (n o : ℕ) → o < n → f o ≡ true → ((k : ℕ) → k < o → f k ≡ false) → first f n ≡ Some o
unfolding first
first_some f zero o l t h = absurd (omega arith)
first_some f (suc n) o l t h = elim (cases_lt o n) [
  | inl m ↦ rw (first_some f n o m t h) refl
  | inr m ↦ let e : n ≡ o = omega arith in rw (e, first_none f o h, t) refl
]
