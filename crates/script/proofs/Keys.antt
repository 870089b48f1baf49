-- What stands behind a key.
use Rattle.std.proofs.Common.{◌≡◌, ℕ, Bool, true, false, eqb, List, [], ◌∷◌, ◌++◌, Some, None, Option, sym, refl, ap, ◌∙◌, Bor, MatchOption}
use Rattle.std.specs.Option.{option_map}
use Rattle.std.proofs.lemmas.Bool.{eqb-true, eq-eqb}
use Rattle.script.specs.Fields.{keyed}

keyed_some : (k rest : List ℕ) → keyed k (k ++ rest) ≡ Some rest
keyed_some [] rest = refl
keyed_some (b ∷ bs) rest = simp (eq-eqb b b refl) (keyed_some bs rest)

keyed_one : (k b : ℕ) (ks bs : List ℕ) (t : Bool) → eqb k b ≡ t → ((rest : List ℕ) → b ∷ bs ≡ (k ∷ ks) ++ rest → ⊥) → (((rest : List ℕ) → bs ≡ ks ++ rest → ⊥) → keyed ks bs ≡ None) → keyed (k ∷ ks) (b ∷ bs) ≡ None
keyed_one k b ks bs true e n h = simp e (h (λ rest f. n rest (let g = eqb-true k b e in cc)))
keyed_one k b ks bs false e n h = simp e

keyed_none : (k w : List ℕ) → ((rest : List ℕ) → w ≡ k ++ rest → ⊥) → keyed k w ≡ None
keyed_none [] w n = absurd (n w refl)
keyed_none (k ∷ ks) [] n = refl
keyed_none (k ∷ ks) (b ∷ bs) n = keyed_one k b ks bs (eqb k b) refl n (keyed_none ks bs)

pub keyed_is : (w k : List ℕ) (r : Option (Bor (List ℕ))) → MatchOption r ((rest : List ℕ) → w ≡ k ++ rest → ⊥) (λ x. w ≡ k ++ x.now) → option_map (λ x. x.now) r ≡ keyed k w
keyed_is w k None n = sym (keyed_none k w n)
keyed_is w k (Some x) e = sym (ap (keyed k) e ∙ keyed_some k x.now)
