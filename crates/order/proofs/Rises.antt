-- Maps stay in their normal form.
use Rattle.std.proofs.Common.{ℕ, zero, suc, ◌+◌, ◌-◌, ◌<◌, ◌≤◌, cond, eqb, ltb, [], ◌∷◌, length, arith}
use Rattle.std.proofs.lemmas.Bool.{cond_both, eqb-true, eqb-false, ltb-true, ltb-false}
use Rattle.order.specs.Maps.{Map, insert, remove, has, Above, Rising}
use Rattle.order.specs.Machine.{History, carries, declares, renews, nothing, Deed, begins, took, deed, Standing, pass, passes, drain, joins, does, machine}

module _ {V : Type 0} where
  above_less : (m n : ℕ) (ps : Map V) → m ≤ n → Above n ps → Above m ps
  above_less m n [] l a = tt
  above_less m n (p ∷ ps) l a = (omega arith, above_less m n ps l a.1)

  above_insert : (m n : ℕ) (v : V) (ps : Map V) → m < n → Above m ps → Above m (insert n v ps)
  above_insert m n v [] l a = (l, tt)
  above_insert m n v (p ∷ ps) l a =
      cond_both (eqb n p.0) ((n, v) ∷ ps) (cond (ltb n p.0) ((n, v) ∷ p ∷ ps) (p ∷ insert n v ps)) (Above m)
      (λ e. (l, a.1))
      (λ e. cond_both (ltb n p.0) ((n, v) ∷ p ∷ ps) (p ∷ insert n v ps) (Above m) (λ u. (l, a)) (λ u. (a.0, above_insert m n v ps l a.1)))

  above_remove : (m n : ℕ) (ps : Map V) → Above m ps → Above m (remove n ps)
  above_remove m n [] a = tt
  above_remove m n (p ∷ ps) a =
      cond_both (eqb n p.0) (remove n ps) (p ∷ remove n ps) (Above m) (λ e. above_remove m n ps a.1) (λ e. (a.0, above_remove m n ps a.1))

  pub rising_insert : (n : ℕ) (v : V) (ps : Map V) → Rising ps → Rising (insert n v ps)
  rising_insert n v [] r = (tt, tt)
  rising_insert n v (p ∷ ps) r =
      cond_both (eqb n p.0) ((n, v) ∷ ps) (cond (ltb n p.0) ((n, v) ∷ p ∷ ps) (p ∷ insert n v ps)) Rising
      (λ e. let q = eqb-true n p.0 e in (above_less n p.0 ps (omega arith) r.0, r.1))
      (λ e. cond_both (ltb n p.0) ((n, v) ∷ p ∷ ps) (p ∷ insert n v ps) Rising
      (λ u. let q = ltb-true n p.0 u in ((q, above_less n p.0 ps (omega arith) r.0), r))
      (λ u. let ne = eqb-false n p.0 e in let q = ltb-false n p.0 u in (above_insert p.0 n v ps (omega arith) r.0, rising_insert n v ps r.1)))

  pub rising_remove : (n : ℕ) (ps : Map V) → Rising ps → Rising (remove n ps)
  rising_remove n [] r = tt
  rising_remove n (p ∷ ps) r =
      cond_both (eqb n p.0) (remove n ps) (p ∷ remove n ps) Rising (λ e. rising_remove n ps r.1) (λ e. (above_remove p.0 n ps r.0, rising_remove n ps r.1))

rising_passes : (k : ℕ) (m : Standing) → Rising m.waiting → Rising (passes k m).waiting
rising_passes zero m r = r
rising_passes (suc k) m r = rising_passes k (pass m) (rising_remove (m.last + 1) m.waiting r)

rising_drain : (k : ℕ) (m : Standing) → Rising m.waiting → Rising (drain k m).waiting
rising_drain zero m r = r
rising_drain (suc k) m r =
    cond_both (has (m.last + 1) m.waiting) (drain k (pass m)) m (λ d. Rising d.waiting)
    (λ e. rising_drain k (pass m) (rising_remove (m.last + 1) m.waiting r))
    (λ e. r)

rising_does : (d : Deed) (m : Standing) → Rising m.waiting → Rising (does d m).waiting
rising_does (begins n) m r = tt
rising_does (took (carries n x)) m r =
    rising_drain (length (insert n x m.waiting)) (joins n x m) (rising_insert n x m.waiting r)
rising_does (took (declares b e)) m r = rising_drain (length (passes (e - m.last) m).waiting) (passes (e - m.last) m) (rising_passes (e - m.last) m r)
rising_does (took (renews n x)) m r = r
rising_does (took nothing) m r = r

pub waiting_rises : (h : History) → Rising (machine h).waiting
waiting_rises [] = tt
waiting_rises (c ∷ h) = rising_does (deed c) (machine h) (waiting_rises h)
