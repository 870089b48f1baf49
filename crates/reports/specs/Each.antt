-- What is written for each number of a range, and how many of its numbers pass a test.
use Rattle.std.specs.Prelude.{ℕ, zero, suc, ◌+◌, Bool, cond, List, [], ◌++◌}

-- what is written for each number below n, the lowest first
unfoldable pub each_below : ℕ → (ℕ → List ℕ) → List ℕ
each_below zero f = []
each_below (suc n) f = each_below n f ++ f n

-- what is written for each number from 1 to n, the lowest first
abbrev pub each_to : ℕ → (ℕ → List ℕ) → List ℕ
each_to n f = each_below n (λ k. f (k + 1))

-- how many numbers below n pass a test
unfoldable pub count_below : ℕ → (ℕ → Bool) → ℕ
count_below zero p = 0
count_below (suc n) p = cond (p n) (suc (count_below n p)) (count_below n p)

-- how many numbers from 1 to n pass a test
abbrev pub count_to : ℕ → (ℕ → Bool) → ℕ
count_to n p = count_below n (λ k. p (k + 1))
