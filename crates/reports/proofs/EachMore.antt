-- One number more of a range.
use Rattle.std.proofs.Common.{◌≡◌, ℕ, suc, ◌+◌, ◌-◌, ◌≤◌, Bool, true, false, cond, List, [], ◌++◌, refl, ap, sym, ◌∙◌, add-one, arith}
use Rattle.reports.specs.Each.{each_below, each_to, count_below, count_to}

pub each_none : (f : ℕ → List ℕ) → each_below 0 f ≡ []
unfolding each_below
each_none f = refl

pub each_more : (f : ℕ → List ℕ) (n : ℕ) → each_below (n + 1) f ≡ each_below n f ++ f n
unfolding each_below
each_more f n = rw add-one refl

-- numbers from 1 to one less than n, and n
pub each_next : (f : ℕ → List ℕ) (n m : ℕ) → 1 ≤ n → m ≡ n → each_to (n - 1) f ++ f n ≡ each_to m f
each_next f n m h e =
    let g : ℕ → List ℕ = λ k. f (k + 1) in
    let a : m ≡ n - 1 + 1 = omega arith in
    let b : n - 1 + 1 ≡ n = omega arith in
    sym (ap (λ (j : ℕ). each_below j g) a ∙ (each_more g (n - 1) ∙ ap (λ (j : ℕ). each_below (n - 1) g ++ f j) b))

pub count_none : (p : ℕ → Bool) → count_below 0 p ≡ 0
unfolding count_below
count_none p = refl

pub count_more : (p : ℕ → Bool) (n : ℕ) → count_below (n + 1) p ≡ cond (p n) (suc (count_below n p)) (count_below n p)
unfolding count_below
count_more p n = rw add-one refl

-- numbers from 1 to one less than n, and n, where the test holds of n
pub count_yes : (p : ℕ → Bool) (n m : ℕ) → 1 ≤ n → m ≡ n → p n ≡ true → count_to m p ≡ count_to (n - 1) p + 1
count_yes p n m h e t =
    let q : ℕ → Bool = λ k. p (k + 1) in
    let a : m ≡ n - 1 + 1 = omega arith in
    let b : n - 1 + 1 ≡ n = omega arith in
    ap (λ (j : ℕ). count_below j q) a ∙ (count_more q (n - 1) ∙ (ap (λ (v : Bool). cond v (suc (count_below (n - 1) q)) (count_below (n - 1) q)) (ap p b ∙ t) ∙ sym (add-one (count_below (n - 1) q))))

-- the same where it does not
pub count_no : (p : ℕ → Bool) (n m : ℕ) → 1 ≤ n → m ≡ n → p n ≡ false → count_to m p ≡ count_to (n - 1) p
count_no p n m h e t =
    let q : ℕ → Bool = λ k. p (k + 1) in
    let a : m ≡ n - 1 + 1 = omega arith in
    let b : n - 1 + 1 ≡ n = omega arith in
    ap (λ (j : ℕ). count_below j q) a ∙ (count_more q (n - 1) ∙ ap (λ (v : Bool). cond v (suc (count_below (n - 1) q)) (count_below (n - 1) q)) (ap p b ∙ t))
