-- Steps of a walk along the packets.
use Rattle.std.specs.Prelude.{◌≡◌, ℕ, zero, suc, ◌-◌, ◌<◌, ◌≤◌, List, [], ◌∷◌, ◌≢◌, refl}
use Rattle.std.proofs.Common.{ap, arith}
use Rattle.std.proofs.lemmas.Bool.{ne_eqb, lt-ltb, le-ltb}
use Rattle.chain_shelf.specs.Records.{Mem, number, trail, under}

pub trail_more : (g : ℕ → ℕ) (f r : ℕ) → 0 < f → (r ≢ 0) → trail g f r ≡ r ∷ trail g (f - 1) (g r)
trail_more g zero r l n = absurd (omega arith)
trail_more g (suc f) r l n = let e = ne_eqb r 0 n in let s : suc f - 1 ≡ f = omega arith in simp (e, s)

pub trail_none : (g : ℕ → ℕ) (f r : ℕ) → r ≡ 0 → trail g f r ≡ []
trail_none g zero r e = refl
trail_none g (suc f) r e = ap (trail g (suc f)) e

pub under_more : (m : Mem) (k h : ℕ) (hs : List ℕ) → number m h < k → under m k (h ∷ hs) ≡ h ∷ under m k hs
under_more m k h hs l = let e = lt-ltb (number m h) k l in simp e

pub under_none : (m : Mem) (k h : ℕ) (hs : List ℕ) → k ≤ number m h → under m k (h ∷ hs) ≡ []
under_none m k h hs l = let e = le-ltb (number m h) k l in simp e
