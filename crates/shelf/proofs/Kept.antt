-- Laws of insert, remove, lookup, above and units.
use Rattle.std.proofs.Common.{◌≡◌, ℕ, suc, ◌+◌, ◌^◌, ◌<◌, ◌≤◌, true, false, cond, eqb, ltb, List, [], ◌∷◌, length, is_some, Some, None, Option, refl, arith, MatchOption}
use Rattle.std.proofs.lemmas.Bool.{cond_both, ltb-true, ltb-false}
use Rattle.std.proofs.lemmas.Bool.Decides.{nat_tests}
use Rattle.shelf.specs.Store.{Packets, insert, remove, has, units, lookup, above, Up, Sized}
use Rattle.shelf.specs.Laws.{HeldIsAMap}

pub has_insert : (k : ℕ) (p : List ℕ) (h : Packets) (j : ℕ) → has (insert k p h) j ≡ cond (eqb j k) true (has h j)
has_insert k p [] j = refl
has_insert k p (x ∷ h) j = let e = has_insert k p h j in grind (arith, nat_tests)

pub units_insert : (f : ℕ → ℕ) (k : ℕ) (p : List ℕ) (h : Packets) → units f (insert k p h) ≡ f (length p) + units f h
units_insert f k p [] = refl
units_insert f k p (x ∷ h) =
    cond_both (ltb k x.0) ((k, p) ∷ x ∷ h) (x ∷ insert k p h)
    (λ m. units f m ≡ f (length p) + (f (length x.1) + units f h))
    (λ _. refl)
    (λ _. let e = units_insert f k p h in omega arith)

pub units_remove : (f : ℕ → ℕ) (k : ℕ) (h : Packets) (p : List ℕ) → lookup h k ≡ Some p → f (length p) + units f (remove k h) ≡ units f h
units_remove f k [] p e = absurd (let z : ◌≡◌ {A = ℕ} 0 1 = cc in omega arith)
units_remove f k (x ∷ h) p e = let i = units_remove f k h p in grind (arith, nat_tests)

pub insert_swap : (k n : ℕ) (p q : List ℕ) (h : Packets) → (k ≡ n → ⊥) → insert n q (insert k p h) ≡ insert k p (insert n q h)
insert_swap k n p q [] ne = grind (arith, nat_tests)
insert_swap k n p q (x ∷ h) ne = let e = insert_swap k n p q h ne in grind (arith, nat_tests)

pub remove_insert : (k : ℕ) (p : List ℕ) (h : Packets) → has h k ≡ false → remove k (insert k p h) ≡ h
remove_insert k p [] a = grind (arith, nat_tests)
remove_insert k p (x ∷ h) a = let e = remove_insert k p h in grind (arith, nat_tests)

pub lookup_insert : (k : ℕ) (p : List ℕ) (h : Packets) (j : ℕ) → has h k ≡ false → lookup (insert k p h) j ≡ cond (eqb j k) (Some p) (lookup h j)
lookup_insert k p [] j a = refl
lookup_insert k p (x ∷ h) j a = let e = lookup_insert k p h j in grind (arith, nat_tests)

pub lookup_none : (h : Packets) (k : ℕ) → has h k ≡ false → lookup h k ≡ None
lookup_none [] k a = refl
lookup_none (x ∷ h) k a = let e = lookup_none h k in grind (arith, nat_tests)

pub remove_none : (h : Packets) (k : ℕ) → has h k ≡ false → remove k h ≡ h
remove_none [] k a = refl
remove_none (x ∷ h) k a = let e = remove_none h k in grind (arith, nat_tests)

pub has_first : (x : ℕ × List ℕ) (h : Packets) (k : ℕ) → has (x ∷ h) k ≡ false → (k ≡ x.0 → ⊥) × (has h k ≡ false)
has_first x h k a = (λ e. grind (arith, nat_tests), grind (arith, nat_tests))

pub has_lookup : (h : Packets) (k : ℕ) → has h k ≡ is_some (lookup h k)
has_lookup [] k = refl
has_lookup (x ∷ h) k = let e = has_lookup h k in grind (arith, nat_tests)

pub up_weak : (a b : ℕ) (h : Packets) → Up a h → b ≤ a → Up b h
up_weak a b [] u l = tt
up_weak a b (x ∷ h) u l = (omega (arith, u.0), u.1, u.2)

pub up_has : (a k : ℕ) (h : Packets) → Up a h → k < a → has h k ≡ false
up_has a k [] u l = refl
up_has a k (x ∷ h) u l = let e = up_has (suc x.0) k h u.2 (omega (arith, u.0)) in let f = u.0 in grind (arith, nat_tests)

pub up_insert : (b k : ℕ) (p : List ℕ) (h : Packets) → b ≤ k → k < 2 ^ 32 → Up b h → has h k ≡ false → Up b (insert k p h)
up_insert b k p [] l w u a = (l, w, tt)
up_insert b k p (x ∷ h) l w u a =
    let f = has_first x h k a in
    cond_both (ltb k x.0) ((k, p) ∷ x ∷ h) (x ∷ insert k p h) (Up b)
    (λ t. (l, w, (omega (arith, ltb-true k x.0 t), u.1, u.2)))
    (λ t. (u.0, u.1, up_insert (suc x.0) k p h (let g = ltb-false k x.0 t in let n : k ≡ x.0 → ⊥ = f.0 in omega arith) w u.2 f.1))

pub up_remove : (b k : ℕ) (h : Packets) → Up b h → Up b (remove k h)
up_remove b k [] u = tt
up_remove b k (x ∷ h) u =
    cond_both (eqb k x.0) h (x ∷ remove k h) (Up b)
    (λ _. up_weak (suc x.0) b h u.2 (omega (arith, u.0)))
    (λ _. (u.0, u.1, up_remove (suc x.0) k h u.2))

pub sized_insert : (k : ℕ) (p : List ℕ) (h : Packets) → 16 ≤ length p → length p ≤ 1500 → Sized h → Sized (insert k p h)
sized_insert k p [] a b s = (a, b, tt)
sized_insert k p (x ∷ h) a b s =
    cond_both (ltb k x.0) ((k, p) ∷ x ∷ h) (x ∷ insert k p h) Sized
    (λ _. (a, b, s)) (λ _. (s.0, s.1, sized_insert k p h a b s.2))

pub sized_remove : (k : ℕ) (h : Packets) → Sized h → Sized (remove k h)
sized_remove k [] s = tt
sized_remove k (x ∷ h) s =
    cond_both (eqb k x.0) h (x ∷ remove k h) Sized
    (λ _. s.2) (λ _. (s.0, s.1, sized_remove k h s.2))

pub insert_below : (b n : ℕ) (q : List ℕ) (h : Packets) → n < b → Up b h → insert n q h ≡ (n, q) ∷ h
insert_below b n q [] l r = refl
insert_below b n q (x ∷ h) l r = let f = r.0 in grind (arith, nat_tests)

pub remove_other : (b k n : ℕ) (q : List ℕ) (h : Packets) → Up b h → (k ≡ n → ⊥) → remove k (insert n q h) ≡ insert n q (remove k h)
remove_other b k n q [] r ne = grind (arith, nat_tests)
remove_other b k n q (x ∷ h) r ne =
    let e = remove_other (suc x.0) k n q h r.2 ne in
    let d = λ (l : n < suc x.0). insert_below (suc x.0) n q h l r.2 in
    grind (arith, nat_tests)

pub lookup_remove : (b k : ℕ) (h : Packets) (j : ℕ) → Up b h → lookup (remove k h) j ≡ cond (eqb j k) None (lookup h j)
lookup_remove b k [] j u = grind (arith, nat_tests)
lookup_remove b k (x ∷ h) j u =
    let e = lookup_remove (suc x.0) k h j u.2 in
    let n = lookup_none h x.0 (up_has (suc x.0) x.0 h u.2 (omega arith)) in
    grind (arith, nat_tests)

up_least : (b : ℕ) (h : Packets) → Up b h → (j : ℕ) → has h j ≡ true → b ≤ j
up_least b [] u j a = absurd (let z : ◌≡◌ {A = ℕ} 0 1 = grind (arith, nat_tests) in omega arith)
up_least b (x ∷ h) u j a = let i = up_least (suc x.0) h u.2 j in let l = u.0 in grind (arith, nat_tests)

-- what `above` answers, at any answer
Answers : Packets → ℕ → Option ℕ → Type 0
Answers h k o = MatchOption o
    ((j : ℕ) → has h j ≡ true → j ≤ k)
    (λ m. (k < m) × (has h m ≡ true) × ((j : ℕ) → k < j → has h j ≡ true → m ≤ j))

answers_more : (x : ℕ × List ℕ) (h : Packets) (k : ℕ) → x.0 ≤ k → (o : Option ℕ) → Answers h k o → Answers (x ∷ h) k o
unfolding Answers
answers_more x h k l None a = λ j e. let i = a j in grind (arith, nat_tests)
answers_more x h k l (Some m) a = (a.0, (let i = a.0 in let e = a.1 in grind (arith, nat_tests)), λ j g e. let i = a.2 j g in grind (arith, nat_tests))

above_least : (b k : ℕ) (h : Packets) → Up b h → Answers h k (above h k)
unfolding Answers
above_least b k [] u = λ j a. absurd (let z : ◌≡◌ {A = ℕ} 0 1 = grind (arith, nat_tests) in omega arith)
above_least b k (x ∷ h) u =
    cond_both (ltb k x.0) (Some x.0) (above h k) (Answers (x ∷ h) k)
    (λ t. (ltb-true k x.0 t, grind (arith, nat_tests), λ j g a. up_least x.0 (x ∷ h) (omega arith, u.1, u.2) j a))
    (λ t. answers_more x h k (ltb-false k x.0 t) (above h k) (above_least (suc x.0) k h u.2))

pub held_is_a_map : HeldIsAMap
unfolding Answers
held_is_a_map h u = record {
  held = has_lookup h;
  inserted = λ k j p a. lookup_insert k p h j a;
  removed = λ k j. lookup_remove 0 k h j u;
  least = λ k. above_least 0 k h u;
  units_inserted = λ f k p. units_insert f k p h;
  units_removed = λ f k p e. units_remove f k h p e;
}
