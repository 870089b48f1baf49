-- The same price at another scale.
use Rattle.std.proofs.Common.{◌≡◌, ℕ, ◌+◌, ◌-◌, ◌*◌, ◌^◌, ◌≤◌, sym, ap, ◌∙◌, mul_assoc, arith, pow-add}
use Rattle.wire.specs.Prices.{price}

pub price_rescaled : (n s k : ℕ) → s + k ≤ 9 → price (n * 10 ^ k) (s + k) ≡ price n s
price_rescaled n s k h =
    let e : k + (9 - (s + k)) ≡ 9 - s = omega arith in
    mul_assoc n (10 ^ k) (10 ^ (9 - (s + k))) ∙ ap (λ (x : ℕ). n * x) (sym (pow-add 10 k (9 - (s + k))) ∙ ap (λ (x : ℕ). 10 ^ x) e)
