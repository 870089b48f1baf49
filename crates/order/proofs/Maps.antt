-- Laws of maps by number.
use Rattle.std.proofs.Common.{◌≡◌, ℕ, ◌<◌, ◌≤◌, true, false, [], ◌∷◌, length, Some, refl, arith}
use Rattle.std.proofs.lemmas.Bool.Decides.{nat_tests}
use Rattle.order.specs.Maps.{Map, lookup, has, insert, remove}

module _ {V : Type 0} where
  pub lookup_inserted : (n : ℕ) (v : V) (ps : Map V) → lookup n (insert n v ps) ≡ Some v
  lookup_inserted n v [] = grind (arith, nat_tests)
  lookup_inserted n v (p ∷ ps) = let ih = lookup_inserted n v ps in grind (arith, nat_tests)

  pub lookup_insert : (k n : ℕ) (v : V) (ps : Map V) → (k ≡ n → ⊥) → lookup k (insert n v ps) ≡ lookup k ps
  lookup_insert k n v [] ne = grind (arith, nat_tests)
  lookup_insert k n v (p ∷ ps) ne = let ih = lookup_insert k n v ps ne in grind (arith, nat_tests)

  pub lookup_remove : (k n : ℕ) (ps : Map V) → (k ≡ n → ⊥) → lookup k (remove n ps) ≡ lookup k ps
  lookup_remove k n [] ne = refl
  lookup_remove k n (p ∷ ps) ne = let ih = lookup_remove k n ps ne in grind (arith, nat_tests)

  pub length_remove : (n : ℕ) (ps : Map V) → length (remove n ps) ≤ length ps
  length_remove n [] = omega arith
  length_remove n (p ∷ ps) = let ih = length_remove n ps in grind (arith, nat_tests)

  pub length_removed : (n : ℕ) (ps : Map V) → has n ps ≡ true → length (remove n ps) < length ps
  length_removed n [] h = grind arith
  length_removed n (p ∷ ps) h = let ih = length_removed n ps in let le = length_remove n ps in grind (arith, nat_tests)

  remove_absent : (n : ℕ) (ps : Map V) → has n ps ≡ false → remove n ps ≡ ps
  remove_absent n [] h = refl
  remove_absent n (p ∷ ps) h = let ih = remove_absent n ps in grind (arith, nat_tests)

  pub remove_inserted : (n : ℕ) (v : V) (ps : Map V) → has n ps ≡ false → remove n (insert n v ps) ≡ ps
  remove_inserted n v [] h = grind (arith, nat_tests)
  remove_inserted n v (p ∷ ps) h = let ih = remove_inserted n v ps in let r = remove_absent n ps in grind (arith, nat_tests)

  pub none_left : (n : ℕ) (ps : Map V) → length ps ≤ 0 → has n ps ≡ false
  none_left n [] l = refl
  none_left n (p ∷ ps) l = absurd (omega arith)
