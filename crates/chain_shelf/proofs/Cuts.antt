-- Parts of records.
use Rattle.std.specs.Prelude.{◌≡◌, ℕ, zero, suc, ◌+◌, ◌*◌, ◌<◌, ◌≤◌, List, [], ◌∷◌, length, take, drop, slice_index, refl}
use Rattle.std.proofs.Common.{sym, ◌∙◌, ap, arith}
use Rattle.std.proofs.lemmas.List.{length-take-le, length-drop, get_or-take, get_or-drop}
use Rattle.chain_shelf.specs.Records.{Mem, mem, cut}

pub cut_from : (m : Mem) (r o : ℕ) (ys : List ℕ) → ((k : ℕ) → k < length ys → m r (o + k) ≡ slice_index ys k) → cut m r o (length ys) ≡ ys
cut_from m r o [] h = refl
cut_from m r o (y ∷ ys) h =
    let z : o + 0 ≡ o = omega arith in
    let e : m r o ≡ y = sym (ap (m r) z) ∙ h 0 (omega arith) in
    let i = cut_from m r (o + 1) ys (λ k l. let a : (o + 1) + k ≡ o + suc k = omega arith in ap (m r) a ∙ h (suc k) (omega arith)) in
    cc

pub cut_is : (b : List ℕ) (r o n : ℕ) → 64 * r + o + n ≤ length b → cut (mem b) r o n ≡ take n (drop (64 * r + o) b)
cut_is b r o n l =
    let ys = take n (drop (64 * r + o) b) in
    let f : n ≤ length (drop (64 * r + o) b) = simp length-drop (omega arith) in
    let e : length ys ≡ n = length-take-le n (drop (64 * r + o) b) f in
    sym (ap (cut (mem b) r o) e)
    ∙ cut_from (mem b) r o ys
    (λ k q. let a : k < n = omega arith in
    let g : 64 * r + (o + k) ≡ 64 * r + o + k = omega arith in
    ap (λ i. slice_index b i) g ∙ sym (get_or-take n (drop (64 * r + o) b) k 0 a ∙ get_or-drop (64 * r + o) b k 0))

pub cut_same : (m w : Mem) (r o n : ℕ) → ((q : ℕ) → o ≤ q → q < o + n → w r q ≡ m r q) → cut w r o n ≡ cut m r o n
cut_same m w r o zero h = refl
cut_same m w r o (suc n) h =
    let e = h o (omega arith) (omega arith) in
    let i = cut_same m w r (o + 1) n (λ q a l. h q (omega arith) (omega arith)) in
    cc

pub cut_length : (m : Mem) (r o n : ℕ) → length (cut m r o n) ≡ n
cut_length m r o zero = refl
cut_length m r o (suc n) = ap suc (cut_length m r (o + 1) n)
