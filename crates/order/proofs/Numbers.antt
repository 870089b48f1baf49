-- Runs of numbers, newest first and rising.
use Rattle.std.proofs.Common.{◌≡◌, ℕ, zero, suc, ◌+◌, ◌-◌, ◌<◌, ◌≤◌, List, [], ◌∷◌, ◌++◌, map, reverse, sym, refl, ap, ◌∙◌, arith}
use mathlib.Core.List.{reverse-cons}
use Rattle.std.proofs.lemmas.List.{map_push}
use Rattle.sink.specs.Events.{Event}
use Rattle.order.specs.Promise.{numbers}

-- `k` numbers from `s` on, the newest first
abbrev pub falling : (ℕ → Event) → ℕ → ℕ → List Event
falling f s zero = []
falling f s (suc k) = f (s + k) ∷ falling f s k

pub falling_same : (f g : ℕ → Event) (s k : ℕ) → ((n : ℕ) → n < s + k → f n ≡ g n) → falling f s k ≡ falling g s k
falling_same f g s zero h = refl
falling_same f g s (suc k) h =
    let a : f (s + k) ≡ g (s + k) = h (s + k) (omega arith) in
    let b = falling_same f g s k (λ n l. h n (omega arith)) in
    cc

-- one more
pub falling_more : (f : ℕ → Event) (s l : ℕ) → s ≤ l + 1 → falling f s (l + 1 + 1 - s) ≡ f (l + 1) ∷ falling f s (l + 1 - s)
falling_more f s l h =
    let a : l + 1 + 1 - s ≡ suc (l + 1 - s) = omega arith in
    let b : s + (l + 1 - s) ≡ l + 1 = omega arith in
    ap (λ k. falling f s k) a ∙ ap (λ k. f k ∷ falling f s (l + 1 - s)) b

pub numbers_more : (s k : ℕ) → numbers s (suc k) ≡ numbers s k ++ ((s + k) ∷ [])
numbers_more s zero = let a : s ≡ s + 0 = omega arith in ap (λ n. n ∷ []) a
numbers_more s (suc k) =
    let a : (s + 1) + k ≡ s + suc k = omega arith in
    ap (λ ns. s ∷ ns) (numbers_more (s + 1) k ∙ ap (λ n. numbers (s + 1) k ++ (n ∷ [])) a)

pub reverse_falling : (f : ℕ → Event) (s k : ℕ) → reverse (falling f s k) ≡ map f (numbers s k)
reverse_falling f s zero = refl
reverse_falling f s (suc k) =
    reverse-cons (f (s + k)) (falling f s k)
    ∙ ap (λ es. es ++ (f (s + k) ∷ [])) (reverse_falling f s k)
    ∙ sym (map_push f (numbers s k) (s + k))
    ∙ ap (map f) (sym (numbers_more s k))
