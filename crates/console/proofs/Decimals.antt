-- Nine digits with zeros in front are the digits at nine places.
use Rattle.std.proofs.Common.{◌≡◌, ℕ, zero, suc, ◌+◌, ◌-◌, ◌*◌, ◌/◌, ◌%◌, ◌^◌, ◌<◌, ◌≤◌, false, List, [], ◌∷◌, ◌++◌, length, map, replicate, decimal, refl, ap, sym, ◌∙◌, arith, inl, inr, append_assoc, append-nil, length-append}
use Rattle.std.specs.Fmt.{padded_integral, format_spec, char_count}
use Rattle.std.proofs.lemmas.Bool.{cases_lt}
use Rattle.std.proofs.lemmas.Fmt.{decimal_digit, decimal_step}
use Rattle.std.proofs.Math.Nat.{div-div-eq-div-mul, pow-succ'}
use Rattle.console.specs.Texts.{places_from, decimals}

-- the last k places
abbrev last : ℕ → List ℕ
last zero = []
last (suc k) = map (λ p. 10 * p) (last k) ++ 1 ∷ []

-- a digit less
one_less : (n : ℕ) (ps : List ℕ) → places_from n (map (λ p. 10 * p) ps ++ 1 ∷ []) ≡ places_from (n / 10) ps ++ (48 + n % 10) ∷ []
one_less n [] = let e : n / 1 ≡ n = omega arith in ap (λ (m : ℕ). (48 + m % 10) ∷ []) e
one_less n (p ∷ ps) =
    ap (λ (m : ℕ). (48 + m % 10) ∷ places_from n (map (λ q. 10 * q) ps ++ 1 ∷ [])) (sym (div-div-eq-div-mul n 10 p))
    ∙ ap (λ (ds : List ℕ). (48 + n / 10 / p % 10) ∷ ds) (one_less n ps)

zeros_more : (k d : ℕ) → replicate k d ++ d ∷ [] ≡ replicate (suc k) d
zeros_more zero d = refl
zeros_more (suc k) d = ap (λ (ds : List ℕ). d ∷ ds) (zeros_more k d)

zeros : (k : ℕ) → places_from 0 (last k) ≡ replicate k 48
zeros zero = refl
zeros (suc k) = one_less 0 (last k) ∙ (ap (λ (ds : List ℕ). ds ++ 48 ∷ []) (zeros k) ∙ zeros_more k 48)

positive : (k n : ℕ) → n < 10 ^ suc k → 10 ≤ n → 0 < k
positive zero n h m = absurd (omega arith)
positive (suc k) n h m = omega arith

padded_by : (k n : ℕ) → n < 10 ^ k → n < 2 ^ 64 → 0 < k → replicate (k - length (decimal n)) 48 ++ decimal n ≡ places_from n (last k)
padded_by zero n h b l = absurd (omega arith)
padded_by (suc k) n h b l =
    elim (cases_lt n 10) [
      | inl s ↦
          let d = decimal_digit n s in
          let z : n / 10 ≡ 0 = omega arith in
          let m : n % 10 ≡ n = omega arith in
          let r : suc k - 1 ≡ k = omega arith in
          ap (λ (ds : List ℕ). replicate (suc k - length ds) 48 ++ ds) d
          ∙ (ap (λ (j : ℕ). replicate j 48 ++ (48 + n) ∷ []) r
          ∙ sym (one_less n (last k) ∙ (ap (λ (j : ℕ). places_from j (last k) ++ (48 + n % 10) ∷ []) z ∙ (ap (λ (ds : List ℕ). ds ++ (48 + n % 10) ∷ []) (zeros k) ∙ ap (λ (j : ℕ). replicate k 48 ++ (48 + j) ∷ []) m))))
      | inr m ↦
          let d = decimal_step n m b in
          let ds = decimal (n / 10) in
          let g : 10 ^ suc k ≡ 10 * 10 ^ k = pow-succ' 10 k in
          let i = padded_by k (n / 10) (omega arith) (omega arith) (positive k n h m) in
          let r : suc k - (length ds + 1) ≡ k - length ds = omega arith in
          ap (λ (es : List ℕ). replicate (suc k - length es) 48 ++ es) d
          ∙ (ap (λ (j : ℕ). replicate (suc k - j) 48 ++ (ds ++ (48 + n % 10) ∷ [])) (length-append ds ((48 + n % 10) ∷ []))
          ∙ (ap (λ (j : ℕ). replicate j 48 ++ (ds ++ (48 + n % 10) ∷ [])) r
          ∙ (sym (append_assoc (replicate (k - length ds) 48) ds ((48 + n % 10) ∷ []))
          ∙ (ap (λ (es : List ℕ). es ++ (48 + n % 10) ∷ []) i ∙ sym (one_less n (last k))))))
    ]

below : (n : ℕ) → n < 1000000000 → padded_integral (format_spec 32 0 4 9 (2 ^ 64 - 1)) false [] (decimal n) ≡ places_from n decimals
unfolding padded_integral char_count
below n h =
    let e = padded_by 9 n h (omega arith) (omega arith) in
    let l = length (decimal n) in
    let z : 9 - l - 0 - 0 ≡ 9 - l = omega arith in
    ap (λ (j : ℕ). replicate j 48 ++ (decimal n ++ [])) z ∙ (ap (λ (ds : List ℕ). replicate (9 - l) 48 ++ ds) (append-nil (decimal n)) ∙ e)

pub nine : (n : ℕ) → padded_integral (format_spec 32 0 4 9 (2 ^ 64 - 1)) false [] (decimal (n % 1000000000)) ≡ places_from n decimals
nine n =
    let a : n % 1000000000 / 100000000 % 10 ≡ n / 100000000 % 10 = omega arith in
    let b : n % 1000000000 / 10000000 % 10 ≡ n / 10000000 % 10 = omega arith in
    let c : n % 1000000000 / 1000000 % 10 ≡ n / 1000000 % 10 = omega arith in
    let d : n % 1000000000 / 100000 % 10 ≡ n / 100000 % 10 = omega arith in
    let e : n % 1000000000 / 10000 % 10 ≡ n / 10000 % 10 = omega arith in
    let f : n % 1000000000 / 1000 % 10 ≡ n / 1000 % 10 = omega arith in
    let g : n % 1000000000 / 100 % 10 ≡ n / 100 % 10 = omega arith in
    let h : n % 1000000000 / 10 % 10 ≡ n / 10 % 10 = omega arith in
    let i : n % 1000000000 / 1 % 10 ≡ n / 1 % 10 = omega arith in
    below (n % 1000000000) (omega arith) ∙ simp (a, b, c, d, e, f, g, h, i)
