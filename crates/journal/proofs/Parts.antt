-- The last part of joined lists.
use Rattle.std.proofs.Common.{◌≡◌, ℕ, ◌+◌, ◌-◌, ◌≤◌, min, List, ◌++◌, length, take, drop, refl, ap, sym, ◌∙◌, arith, rules, inl, inr, length-append, length-drop}
use Rattle.std.specs.List.{copy_within}
use Rattle.std.proofs.lemmas.Bool.{cases_lt}
use Rattle.std.proofs.lemmas.List.{drop-drop, drop-append-le, drop_at, length-take, drop-take, take_at, same_lists, places}
use Rattle.std.proofs.Math.Seq.{drop-append-add}
use Rattle.journal.specs.Tails.{last_part}

-- what a cut of the first list loses is not in the last part
pub last_first : (n : ℕ) (xs ys : List ℕ) → last_part n (last_part n xs ++ ys) ≡ last_part n (xs ++ ys)
unfolding last_part
last_first n xs ys =
    let k = length xs - n in
    let l : length (drop k (xs ++ ys)) ≡ length xs + length ys - k = length-drop k (xs ++ ys) ∙ ap (λ (m : ℕ). m - k) (length-append xs ys) in
    let e : k + (length (drop k (xs ++ ys)) - n) ≡ length (xs ++ ys) - n = omega (arith, l, length-append xs ys) in
    ap (last_part n) (sym (drop-append-le k xs ys (omega arith)))
    ∙ (drop-drop (length (drop k (xs ++ ys)) - n) k (xs ++ ys) ∙ ap (λ (m : ℕ). drop m (xs ++ ys)) e)

-- nor is what a cut of the second loses
last_second : (n : ℕ) (xs ys : List ℕ) → last_part n (xs ++ last_part n ys) ≡ last_part n (xs ++ ys)
unfolding last_part
last_second n xs ys =
    let k = length ys - n in
    let l = length-append xs (drop k ys) in
    let d = length-drop k ys in
    elim (cases_lt n (length ys)) [
      | inl s ↦
          let a : length (xs ++ drop k ys) - n ≡ length xs = omega (arith, l, d) in
          let b : length (xs ++ ys) - n ≡ length xs + k = omega (arith, length-append xs ys) in
          ap (λ (m : ℕ). drop m (xs ++ drop k ys)) a ∙ (drop_at xs (drop k ys) (length xs) refl
          ∙ (sym (drop-append-add xs ys k) ∙ ap (λ (m : ℕ). drop m (xs ++ ys)) (sym b)))
      | inr m ↦
          let z : k ≡ 0 = omega arith in
          ap (λ (i : ℕ). last_part n (xs ++ drop i ys)) z
    ]

-- the last part of a last part is all of it
pub last_last : (n : ℕ) (xs : List ℕ) → last_part n (last_part n xs) ≡ last_part n xs
unfolding last_part
last_last n xs =
    let l = length-drop (length xs - n) xs in
    let z : length (last_part n xs) - n ≡ 0 = omega (arith, l) in
    ap (λ (i : ℕ). drop i (last_part n xs)) z

-- it has no more bytes than there is room for
pub last_few : (n : ℕ) (xs : List ℕ) → length (last_part n xs) ≤ n
unfolding last_part
last_few n xs = omega (arith, length-drop (length xs - n) xs)

-- the last n bytes of a last part of n or more, where n of them were put behind others
pub last_put : (n r : ℕ) (xs ys : List ℕ) → n ≡ length ys → n ≤ r → last_part n (last_part r (xs ++ ys)) ≡ ys
unfolding last_part
last_put n r xs ys e h =
    let l = length-append xs ys in
    let k = length (xs ++ ys) - r in
    let d = length-drop k (xs ++ ys) in
    let s : k + (length (drop k (xs ++ ys)) - n) ≡ length xs = omega (arith, l, d) in
    drop-drop (length (drop k (xs ++ ys)) - n) k (xs ++ ys) ∙ (ap (λ (m : ℕ). drop m (xs ++ ys)) s ∙ drop_at xs ys (length xs) refl)

-- the last part of two lists is that of their last parts
pub last_joined : (n : ℕ) (xs ys : List ℕ) → last_part n (xs ++ ys) ≡ last_part n (last_part n xs ++ last_part n ys)
last_joined n xs ys = sym (last_first n xs ys) ∙ sym (last_second n (last_part n xs) ys)

-- the last of the bytes in use, moved to the front
pub moved : (n u : ℕ) (bs : List ℕ) → n ≤ u → u ≤ length bs → last_part n (take u bs) ≡ take n (copy_within bs (u - n) u 0)
unfolding last_part
moved n u bs h k =
    let i = u - n in
    let l : i ≡ length (take u bs) - n = omega (arith, length-take u bs) in
    let d = length-drop i bs in
    let t : take n (copy_within bs i u 0) ≡ take (u - i) (drop i bs) =
    take_at (take (u - i) (drop i bs)) (drop (0 + (u - i)) bs) n (omega (arith, length-take (u - i) (drop i bs), d)) in
    let w : take (u - i) (drop i bs) ≡ last_part n (take u bs) =
    sym (drop-take i (u - i) bs)
    ∙ (ap (λ (m : ℕ). drop i (take m bs)) (omega arith) ∙ ap (λ (m : ℕ). drop m (take u bs)) l) in
    sym (t ∙ w)

-- as many of the bytes as are in use
pub first_bytes : (used : ℕ) (bs : List ℕ) → take (min used (length bs)) bs ≡ take used bs
first_bytes used bs = same_lists _ _ (search (rules, places)) (λ k d l. grind (arith, places))
