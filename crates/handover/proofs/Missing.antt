-- How many numbers of a range are missing.
use Rattle.std.proofs.Common.{◌≡◌, ℕ, zero, suc, ◌+◌, ◌-◌, ◌<◌, ◌≤◌, Bool, true, false, cond, not, ◌&&◌, eqb, ltb, ⊎_elim, inl, inr, sym, refl, ap, subst, arith}
use Rattle.shelf.specs.Store.{Packets, has}
use Rattle.handover.specs.Flows.{missing}
use Rattle.handover.specs.Laws.{Come, MissingCounted}
use Rattle.std.proofs.lemmas.Bool.{cond-true, cond-false, cases_Bool, eqb-true, eqb-false}
use Rattle.std.proofs.lemmas.Bool.Decides.{nat_tests}

-- one for a number that is missing
abbrev one_missing : ℕ → Packets → ℕ → ℕ
one_missing l h n = cond (ltb l n && not (has h n)) 1 0

-- a range that is not empty has its first number, and the others
missing_more : (l : ℕ) (h : Packets) (n e : ℕ) → n ≤ e → missing l h n (e + 1 - n) ≡ one_missing l h n + missing l h (n + 1) (e + 1 - (n + 1))
missing_more l h n e le = let a : e + 1 - n ≡ suc (e + 1 - (n + 1)) = omega arith in ap (λ k. missing l h n k) a

-- a number that counts, and one that does not
pub counts : (l : ℕ) (h : Packets) (n : ℕ) → ltb l n && not (has h n) ≡ true → one_missing l h n ≡ 1
counts l h n t = cond-true (ltb l n && not (has h n)) 1 0 t

pub counts_not : (l : ℕ) (h : Packets) (n : ℕ) → ltb l n && not (has h n) ≡ false → one_missing l h n ≡ 0
counts_not l h n t = cond-false (ltb l n && not (has h n)) 1 0 t

-- what is counted and what is left make the whole, number by number
pub missing_step : (l : ℕ) (h : Packets) (n e count more d : ℕ) → n ≤ e → one_missing l h n ≡ d → more ≡ count + d
    → more + missing l h (n + 1) (e + 1 - (n + 1)) ≡ count + missing l h n (e + 1 - n)
missing_step l h n e count more d le t m = let a = missing_more l h n e le in omega arith

few : (l : ℕ) (h : Packets) (n k : ℕ) → missing l h n k ≤ k
few l h n zero = omega arith
few l h n (suc k) = go (ltb l n && not (has h n)) (few l h (n + 1) k)
  where
    go : (t : Bool) → missing l h (n + 1) k ≤ k → cond t 1 0 + missing l h (n + 1) k ≤ suc k
    go true e = omega (arith, e)
    go false e = omega (arith, e)

-- a number that is not missing has come, and one that has come is not missing
come : (l : ℕ) (h : Packets) (n : ℕ) → ltb l n && not (has h n) ≡ false → Come l h n
come l h n e = ⊎_elim (λ t. inr t) (λ t. inl (grind (arith, nat_tests))) (cases_Bool (has h n))

not_missing : (l : ℕ) (h : Packets) (n : ℕ) → Come l h n → ltb l n && not (has h n) ≡ false
not_missing l h n c = ⊎_elim (λ t. grind (arith, nat_tests)) (λ t. grind (arith, nat_tests)) c

-- none is missing: each has come
all_come : (l : ℕ) (h : Packets) (n k : ℕ) → missing l h n k ≡ 0 → (m : ℕ) → n ≤ m → m < n + k → Come l h m
all_come l h n zero e m a b = absurd (omega arith)
all_come l h n (suc k) e m a b = go (ltb l n && not (has h n)) refl e (all_come l h (n + 1) k)
  where
    go : (t : Bool) → ltb l n && not (has h n) ≡ t → cond t 1 0 + missing l h (n + 1) k ≡ 0
        → (missing l h (n + 1) k ≡ 0 → (m : ℕ) → n + 1 ≤ m → m < n + 1 + k → Come l h m) → Come l h m
    go true t e more = absurd (omega (arith, e))
    go false t e more =
        ⊎_elim (λ q. subst (Come l h) (sym (eqb-true m n q)) (come l h n t))
        (λ q. let apart = eqb-false m n q in more (omega (arith, e)) m (omega arith) (omega arith)) (cases_Bool (eqb m n))

-- each has come: none is missing
none_missing : (l : ℕ) (h : Packets) (n k : ℕ) → ((m : ℕ) → n ≤ m → m < n + k → Come l h m) → missing l h n k ≡ 0
none_missing l h n zero all = refl
none_missing l h n (suc k) all =
    let first = not_missing l h n (all n (omega arith) (omega arith)) in
    let rest = none_missing l h (n + 1) k (λ m a b. all m (omega arith) (omega arith)) in
    omega (arith, ap {B = ℕ} (λ t. cond t 1 0) first, rest)

pub missing_counted : MissingCounted
missing_counted l h n k = record { most = few l h n k; none = (all_come l h n k, none_missing l h n k) }

-- a number is missing only above last, so number 0 never is
pub above_last : (l : ℕ) (h : Packets) (n : ℕ) → ltb l n && not (has h n) ≡ true → l < n
above_last l h n t = grind (arith, nat_tests)
