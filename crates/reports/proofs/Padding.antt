-- A number with blanks in front.
use Rattle.std.proofs.Common.{◌≡◌, ℕ, zero, suc, ◌-◌, ◌^◌, false, List, [], ◌∷◌, length, replicate, decimal, refl, ap, arith, append-nil}
use Rattle.std.specs.List.{repeat}
use Rattle.std.specs.Fmt.{padded_integral, format_spec, char_count}
use Rattle.std.proofs.Math.Utf8.{encode}
use Rattle.std.proofs.lemmas.Str.{encode_ascii}
use Rattle.reports.specs.Lines.{right}

blanks : (n : ℕ) → repeat {A = ℕ} n (32 ∷ []) ≡ replicate n 32
blanks zero = refl
blanks (suc n) = ap (λ (bs : List ℕ). 32 ∷ bs) (blanks n)

pub right_decimal : (w n : ℕ) → padded_integral (format_spec 32 3 0 w (2 ^ 64 - 1)) false [] (decimal n) ≡ right w (decimal n)
unfolding padded_integral char_count
right_decimal w n =
    let l = length (decimal n) in
    let p : w - l - 0 - 0 ≡ w - l = omega arith in
    let z : (w - l) - (w - l) ≡ 0 = omega arith in
    let e : encode 32 ≡ 32 ∷ [] = encode_ascii 32 (omega arith) in
    simp (append-nil, p, z, e, blanks)
