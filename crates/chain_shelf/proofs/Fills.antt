-- Bytes that are written or read through a chain of records.
use Rattle.std.specs.Prelude.{◌≡◌, ℕ, suc, ◌-◌, ◌<◌, ◌≤◌, min, ◌⊎◌, List, ◌∷◌, ◌++◌, length, take, drop, ◌≢◌, refl}
use Rattle.std.proofs.Common.{sym, ◌∙◌, ap, subst, append-nil, inl, ⊎_elim, arith}
use Rattle.std.proofs.Math.Path.{fun_ext}
use borrow.Rule.Slice.PartMut.{put_mid}
use Rattle.std.proofs.lemmas.List.{take-append-drop, take_at, drop_all, length-drop}
use Rattle.std.proofs.lemmas.Bool.{eq-eqb, ne_eqb}
use Rattle.chain_shelf.specs.Records.{Mem, cut, link, span, walk, gather, hit, cnt, Apart, Inside}
use Rattle.chain_shelf.proofs.Cuts.{cut_same}

pub hit_same : (q : ℕ) → hit q q ≡ 1
hit_same q = let e = eq-eqb q q refl in simp e

pub hit_not : (q x : ℕ) → (q ≢ x) → hit q x ≡ 0
hit_not q x n = let e = ne_eqb q x n in simp e

pub cnt_first : (r : ℕ) (xs : List ℕ) → 0 < cnt r (r ∷ xs)
cnt_first r xs = let e = hit_same r in omega arith

-- the first of records that lie apart is not among the others
pub apart_first : (r : ℕ) (xs : List ℕ) → Apart (r ∷ xs) → cnt r xs ≡ 0
apart_first r xs a = let e = hit_same r in let l = a r in omega arith

pub apart_rest : (r : ℕ) (xs : List ℕ) → Apart (r ∷ xs) → Apart xs
apart_rest r xs a q = let l = a q in omega arith

pub inside_rest : (R r : ℕ) (xs : List ℕ) → Inside R (r ∷ xs) → Inside R xs
inside_rest R r xs i q l = i q (omega arith)

pub span_one : (o n : ℕ) → n ≤ 64 - o → span o n ≡ 1
span_one o n l = omega arith

pub span_more : (o n : ℕ) → 2 ≤ o → o < 64 → 64 - o < n → span o n ≡ suc (span 2 (n - (64 - o)))
span_more o n a b l = omega arith

pub gather_one : (m : Mem) (r o n : ℕ) → n ≤ 64 - o → gather m (span o n) r o n ≡ cut m r o n
gather_one m r o n l =
    let e : min n (64 - o) ≡ n = omega arith in
    ap (λ f. gather m f r o n) (span_one o n l) ∙ append-nil (cut m r o (min n (64 - o))) ∙ ap (cut m r o) e

pub gather_more : (m : Mem) (r o n : ℕ) → 2 ≤ o → o < 64 → 64 - o < n → gather m (span o n) r o n ≡ cut m r o (64 - o) ++ gather m (span 2 (n - (64 - o))) (link m r) 2 (n - (64 - o))
gather_more m r o n a b l =
    let e : min n (64 - o) ≡ 64 - o = omega arith in
    ap (λ f. gather m f r o n) (span_more o n a b l) ∙ ap (λ k. cut m r o k ++ gather m (span 2 (n - (64 - o))) (link m r) 2 (n - (64 - o))) e

-- a write that begins at 2 or later leaves the links
pub links_kept : (m w : Mem) → ((s q : ℕ) → q < 2 → w s q ≡ m s q) → link w ≡ link m
links_kept m w h = fun_ext (λ s. let a = h s 0 (omega arith) in let b = h s 1 (omega arith) in cc)

-- after a part in the first record (v), and the n' bytes behind it (w), from the record a on
module _ (m v w : Mem) (r o n n' a : ℕ) (p : List ℕ) (lo : 2 ≤ o) (hi : o < 64) (l : 64 - o < n) (k : n' ≡ n - (64 - o)) (x : a ≡ link v r)
    (once : Apart (walk (link m) (span o n) r))
    (first : (s q : ℕ) → q < 64 → (s ≡ r → o ≤ q → ⊥) → v s q ≡ m s q) where
  links : link v ≡ link m
  links = links_kept m v (λ s q i. first s q (omega arith) (λ _ j. omega arith))

  pub walk_more : walk (link m) (span o n) r ≡ r ∷ walk (link v) (span 2 n') a
  walk_more = ap (λ f. walk (link m) f r) (span_more o n lo hi l ∙ ap (λ t. suc (span 2 t)) (sym k)) ∙ ap (λ g. r ∷ walk g (span 2 n') (g r)) (sym links) ∙ ap (λ t. r ∷ walk (link v) (span 2 n') t) (sym x)

  out : cnt r (walk (link v) (span 2 n') a) ≡ 0
  out = apart_first r (walk (link v) (span 2 n') a) (subst Apart walk_more once)

  module _ (later : (s q : ℕ) → q < 64 → (0 < cnt s (walk (link v) (span 2 n') a) → (q < 2) ⊎ ((s ≡ a) × (q < 2))) → w s q ≡ v s q) where
    pub fill_data : cut v r o (64 - o) ≡ take (64 - o) p → gather w (span 2 n') a 2 n' ≡ drop (64 - o) p → gather w (span o n) r o n ≡ p
    fill_data there d =
        let e : cut w r o (64 - o) ≡ cut v r o (64 - o) = cut_same v w r o (64 - o) (λ q i j. later r q (omega arith) (λ y. absurd (omega (arith, out)))) in
        let f : link w r ≡ a = ap (λ g. g r) (links_kept v w (λ s q i. later s q (omega arith) (λ _. inl i))) ∙ sym x in
        gather_more w r o n lo hi l
        ∙ ap (λ t. t ++ gather w (span 2 (n - (64 - o))) (link w r) 2 (n - (64 - o))) (e ∙ there)
        ∙ ap (λ y. take (64 - o) p ++ gather w (span 2 (n - (64 - o))) y 2 (n - (64 - o))) f
        ∙ ap (λ y. take (64 - o) p ++ gather w (span 2 y) a 2 y) (sym k)
        ∙ ap (λ t. take (64 - o) p ++ t) d
        ∙ take-append-drop (64 - o) p

    pub fill_others : (s q : ℕ) → q < 64 → (0 < cnt s (walk (link m) (span o n) r) → (q < 2) ⊎ ((s ≡ r) × (q < o))) → w s q ≡ m s q
    fill_others s q i h =
        let W = walk (link v) (span 2 n') a in
        let g : 0 < cnt s (r ∷ W) → (q < 2) ⊎ ((s ≡ r) × (q < o)) = subst (λ xs. 0 < cnt s xs → (q < 2) ⊎ ((s ≡ r) × (q < o))) walk_more h in
        later s q i (λ y. ⊎_elim (λ z. inl z) (λ z. absurd (omega (arith, out, ap (λ t. cnt t W) z.0))) (g (omega arith)))
        ∙ first s q i (λ e j. ⊎_elim (λ z. omega arith) (λ z. omega (arith, z.1)) (g (omega (arith, ap (λ t. hit t r) e, hit_same r))))

-- the same for a chain that is only read
pub walk_next : (m : Mem) (r o n n' a : ℕ) → 2 ≤ o → o < 64 → 64 - o < n → n' ≡ n - (64 - o) → a ≡ link m r → walk (link m) (span o n) r ≡ r ∷ walk (link m) (span 2 n') a
walk_next m r o n n' a lo hi l k x = ap (λ f. walk (link m) f r) (span_more o n lo hi l) ∙ ap (λ t. r ∷ walk (link m) (span 2 t) (link m r)) (sym k) ∙ ap (λ t. r ∷ walk (link m) (span 2 n') t) (sym x)

pub gather_next : (m : Mem) (r o n n' a : ℕ) → 2 ≤ o → o < 64 → 64 - o < n → n' ≡ n - (64 - o) → a ≡ link m r → gather m (span o n) r o n ≡ cut m r o (64 - o) ++ gather m (span 2 n') a 2 n'
gather_next m r o n n' a lo hi l k x = gather_more m r o n lo hi l ∙ ap (λ t. cut m r o (64 - o) ++ gather m (span 2 t) (link m r) 2 t) (sym k) ∙ ap (λ t. cut m r o (64 - o) ++ gather m (span 2 n') t 2 n') (sym x)

-- the end of a buffer is written through a part of it
pub behind : (x y z : List ℕ) (n : ℕ) → length x ≡ n → put_mid n (length (x ++ y) - n) (x ++ y) z ≡ x ++ z
behind x y z n e =
    let f : length (drop n (x ++ y)) ≤ length (x ++ y) - n = simp length-drop (omega arith) in
    ap (λ t. t ++ (z ++ drop (length (x ++ y) - n) (drop n (x ++ y)))) (take_at x y n e)
    ∙ ap (λ t. x ++ (z ++ t)) (drop_all (length (x ++ y) - n) (drop n (x ++ y)) f)
    ∙ ap (λ t. x ++ t) (append-nil z)
