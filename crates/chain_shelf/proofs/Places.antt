-- Where a number stands in the chain of packets.
use Rattle.std.proofs.Common.{◌≡◌, ℕ, suc, ◌+◌, ◌<◌, ◌≤◌, Bool, false, cond, eqb, ltb, List, [], ◌∷◌, ◌++◌, Some, None, Option, refl, ap, arith}
use Rattle.std.proofs.lemmas.Bool.Decides.{nat_tests}
use Rattle.chain_shelf.specs.Records.{Mem, number, under}
use Rattle.shelf.specs.Store.{insert, remove, has, lookup, above, Up}
use Rattle.chain_shelf.specs.Chain.{pack, layout, packets}
use Rattle.shelf.proofs.Kept.{has_first, up_has}
use Rattle.chain_shelf.proofs.Trails.{under_none}

-- the packets that are left of the chain, from the first whose number is not below k
abbrev pub rest : Mem → ℕ → List ℕ → List ℕ
rest m k [] = []
rest m k (h ∷ hs) = cond (ltb (number m h) k) (rest m k hs) (h ∷ hs)

pub place : (m : Mem) (k : ℕ) (hs : List ℕ) → under m k hs ++ rest m k hs ≡ hs
place m k [] = refl
place m k (h ∷ hs) = let e = place m k hs in grind (arith, nat_tests)

-- the first ones below k go on from those below j
pub under_on : (m : Mem) (j k : ℕ) (hs : List ℕ) → j ≤ k → under m k hs ≡ under m j hs ++ under m k (rest m j hs)
under_on m j k [] l = refl
under_on m j k (h ∷ hs) l = let e = under_on m j k hs l in grind (arith, nat_tests)

-- of what is left from k on none is below j
pub under_rest : (m : Mem) (j k : ℕ) (hs : List ℕ) → j ≤ k → under m j (rest m k hs) ≡ []
under_rest m j k [] l = refl
under_rest m j k (h ∷ hs) l = let e = under_rest m j k hs l in grind (arith, nat_tests)

-- packets of which none is first below k come in behind, or go
pub under_over : (m : Mem) (k : ℕ) (A B : List ℕ) → under m k B ≡ [] → under m k (A ++ B) ≡ under m k A
under_over m k [] B n = n
under_over m k (h ∷ A) B n = let e = under_over m k A B n in grind (arith, nat_tests)

-- the same packets have the same numbers
pub under_same : (m w : Mem) (k : ℕ) (hs : List ℕ) → layout w hs ≡ layout m hs → under w k hs ≡ under m k hs
under_same m w k [] e = refl
under_same m w k (h ∷ hs) e =
    let p : pack w h ≡ pack m h = cc in
    let n : number w h ≡ number m h = ap (λ x. x.0) p in
    let i = under_same m w k hs (cc) in
    grind (arith, nat_tests)

under_up : (m : Mem) (j a : ℕ) (hs : List ℕ) → Up a (packets (layout m hs)) → j ≤ a → under m j hs ≡ []
under_up m j a [] u l = refl
under_up m j a (h ∷ hs) u l = under_none m j h hs (omega (arith, u.0))

-- behind the packet of the number k none is below j
pub under_behind : (m : Mem) (j k a : ℕ) (hs : List ℕ) (h : ℕ) (B : List ℕ) → Up a (packets (layout m hs)) → rest m k hs ≡ h ∷ B → number m h ≡ k → j ≤ k → under m j B ≡ []
under_behind m j k a [] h B u e n l = absurd (let z : ◌≡◌ {A = ℕ} 0 1 = cc in omega arith)
under_behind m j k a (x ∷ hs) h B u e n l =
    let i = under_behind m j k (suc (number m x)) hs h B u.2 in
    let f = under_up m j (suc (number m x)) hs u.2 in
    grind (arith, nat_tests)

pub insert_place : (m : Mem) (k : ℕ) (p : List ℕ) (hs : List ℕ) → has (packets (layout m hs)) k ≡ false
    → insert k p (packets (layout m hs)) ≡ packets (layout m (under m k hs)) ++ (k, p) ∷ packets (layout m (rest m k hs))
insert_place m k p [] a = refl
insert_place m k p (h ∷ hs) a =
    let f = has_first (number m h, (pack m h).1) (packets (layout m hs)) k a in
    let n : k ≡ number m h → ⊥ = f.0 in
    let e = insert_place m k p hs f.1 in
    grind (arith, nat_tests)

pub remove_place : (m : Mem) (k : ℕ) (hs : List ℕ) (h : ℕ) (B : List ℕ) → rest m k hs ≡ h ∷ B → number m h ≡ k
    → remove k (packets (layout m hs)) ≡ packets (layout m (under m k hs)) ++ packets (layout m B)
remove_place m k [] h B e n = absurd (let z : ◌≡◌ {A = ℕ} 0 1 = cc in omega arith)
remove_place m k (x ∷ hs) h B e n = let i = remove_place m k hs h B in grind (arith, nat_tests)

pub lookup_place : (m : Mem) (k : ℕ) (hs : List ℕ) (h : ℕ) (B : List ℕ) → rest m k hs ≡ h ∷ B → number m h ≡ k → lookup (packets (layout m hs)) k ≡ Some (pack m h).1
lookup_place m k [] h B e n = absurd (let z : ◌≡◌ {A = ℕ} 0 1 = cc in omega arith)
lookup_place m k (x ∷ hs) h B e n = let i = lookup_place m k hs h B in grind (arith, nat_tests)

-- whether the first has the number
abbrev pub at_first : Mem → ℕ → List ℕ → Bool
at_first m k [] = false
at_first m k (h ∷ hs) = eqb k (number m h)

pub has_place : (m : Mem) (k a : ℕ) (hs : List ℕ) → Up a (packets (layout m hs)) → has (packets (layout m hs)) k ≡ at_first m k (rest m k hs)
has_place m k a [] u = refl
has_place m k a (x ∷ hs) u =
    let i = has_place m k (suc (number m x)) hs u.2 in
    let f = λ (l : k < suc (number m x)). up_has (suc (number m x)) k (packets (layout m hs)) u.2 l in
    grind (arith, nat_tests)

abbrev pub first_above : Mem → List ℕ → Option ℕ
first_above m [] = None
first_above m (h ∷ hs) = Some (number m h)

pub above_place : (m : Mem) (k : ℕ) (hs : List ℕ) → above (packets (layout m hs)) k ≡ first_above m (rest m (k + 1) hs)
above_place m k [] = refl
above_place m k (x ∷ hs) = let i = above_place m k hs in grind (arith, nat_tests)
