-- A tag in front of a type is passed over.
use Rattle.std.proofs.Common.{◌≡◌, ℕ, ◌≤◌, ◌<◌, true, false, List, [], ◌∷◌, length, drop, Ok, Err, refl, rules, arith}
use Rattle.std.proofs.lemmas.Bool.Decides.{nat_tests}
use Rattle.capture.specs.declared.datagram.Skip.{Skip}
use Rattle.capture.specs.declared.datagram.Skip.TheVariants.{Truncated}
use Rattle.capture.specs.Ether.{behind, tagged, untagged, typed_in}

-- a whole tag
pub tag_passed : (xs : List ℕ) → tagged xs ≡ true → 4 ≤ length xs → untagged xs ≡ untagged (drop 4 xs)
unfolding untagged
tag_passed (a ∷ (b ∷ (c ∷ (d ∷ rest)))) t l = rw t refl
tag_passed (a ∷ (b ∷ (c ∷ []))) t l = absurd (omega (arith, l))
tag_passed (a ∷ (b ∷ [])) t l = absurd (omega (arith, l))
tag_passed (a ∷ []) t l = absurd (omega (arith, l))
tag_passed [] t l = absurd (omega (arith, l))

-- a tag that is cut off
pub tag_cut : (xs : List ℕ) → tagged xs ≡ true → length xs < 4 → untagged xs ≡ Err Truncated
unfolding untagged
tag_cut (a ∷ (b ∷ (c ∷ (d ∷ rest)))) t l = absurd (omega (arith, l))
tag_cut (a ∷ (b ∷ (c ∷ []))) t l = rw t refl
tag_cut (a ∷ (b ∷ [])) t l = rw t refl
tag_cut (a ∷ []) t l = refl
tag_cut [] t l = refl

-- no tag
pub no_tag : (xs : List ℕ) → tagged xs ≡ false → untagged xs ≡ typed_in xs
unfolding untagged
no_tag (a ∷ (b ∷ (c ∷ (d ∷ rest)))) t = rw t (search rules)
no_tag (a ∷ (b ∷ (c ∷ []))) t = rw t refl
no_tag (a ∷ (b ∷ [])) t = rw t refl
no_tag (a ∷ []) t = refl
no_tag [] t = refl

-- bytes that are refused are fewer
pub behind_refused : (n : ℕ) (xs : List ℕ) (s : Skip) → behind n xs Ok ≡ Err s → (length xs < n) × (s ≡ Truncated)
behind_refused n xs s e = (grind (arith, nat_tests, e), grind (arith, nat_tests, e))
