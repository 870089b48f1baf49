-- What the library's parse says of a word, in the words of `number_in`.
use Rattle.std.proofs.Common.{◌≡◌, ℕ, ◌^◌, ◌<◌, Bool, true, false, ◌&&◌, ltb, List, [], ◌∷◌, length, get_or, Some, None, Ok, Err, IsUtf8, Decides, Result, sym, ap, ◌∙◌, ⊎_elim, arith}
use Rattle.std.specs.Str.Parse.{digits_value, ParsesUnsigned}
use Rattle.std.specs.Result.{OkIff, result_ok}
use Rattle.std.specs.Str.{all_ascii_digits}
use Rattle.std.proofs.lemmas.Bool.{cond-true, cond-false, cases_Bool}
use Rattle.std.proofs.lemmas.Bool.Decides.{Decides-and, Decides-ltb, nat_tests}
use Rattle.std.proofs.lemmas.Str.{IsUtf8-from_ascii}
use Rattle.std.proofs.lemmas.Fmt.{IsAscii-from_digits}
use Rattle.std.proofs.lemmas.Str.Parse.{IsNumeralModel, numerals_by_value, tells_all_ascii_digits, parse_plain}
use Rattle.script.specs.Words.{begins}
use Rattle.script.specs.Numbers.{number_in}

pub own : IsNumeralModel (λ ds. all_ascii_digits ds ≡ true) (digits_value 10)
own = numerals_by_value _ tells_all_ascii_digits

abbrev written : ℕ → List ℕ → Bool
written k w = all_ascii_digits w && (ltb 0 (length w) && ltb (digits_value 10 w) (2 ^ k))

written_decides : (k : ℕ) (w : List ℕ) → Decides (written k w) ((all_ascii_digits w ≡ true) × ((0 < length w) × (digits_value 10 w < 2 ^ k)))
written_decides k w =
    Decides-and (all_ascii_digits w) (ltb 0 (length w) && ltb (digits_value 10 w) (2 ^ k)) (λ e. e, λ e. e)
    (Decides-and (ltb 0 (length w)) (ltb (digits_value 10 w) (2 ^ k)) (Decides-ltb 0 (length w)) (Decides-ltb (digits_value 10 w) (2 ^ k)))

pub number_some : (k : ℕ) (w : List ℕ) → all_ascii_digits w ≡ true → 0 < length w → digits_value 10 w < 2 ^ k → number_in k w ≡ Some (digits_value 10 w)
number_some k w a b c = cond-true (written k w) _ _ ((written_decides k w).1 (a, (b, c)))

pub number_none : (k : ℕ) (w : List ℕ) → (all_ascii_digits w ≡ true → 0 < length w → digits_value 10 w < 2 ^ k → ⊥) → number_in k w ≡ None
number_none k w n =
    ⊎_elim (λ e. let p = (written_decides k w).0 e in absurd (n p.0 p.1.0 p.1.1)) (λ e. cond-false (written k w) _ _ e) (cases_Bool (written k w))

pub number_parsed : {E : Type 0} (k : ℕ) (w : List ℕ) (r : Result ℕ E) → OkIff r ((all_ascii_digits w ≡ true) × (0 < length w) × (digits_value 10 w < 2 ^ k)) (digits_value 10 w) → result_ok r ≡ number_in k w
number_parsed k w (Ok x) h = ap Some h.1 ∙ sym (number_some k w h.0.0 h.0.1 h.0.2)
number_parsed k w (Err e) h = sym (number_none k w (λ a b c. h (a, b, c)))

pub no_plus : (w : List ℕ) → begins 43 w ≡ false → get_or w 0 0 ≡ 43 → ⊥
no_plus [] e h = omega arith
no_plus (b ∷ bs) e h = grind (arith, nat_tests)

pub number_no_text : (k : ℕ) (w : List ℕ) → (IsUtf8 w → ⊥) → None ≡ number_in k w
number_no_text k w n = sym (number_none k w (λ a b c. n (IsUtf8-from_ascii w (IsAscii-from_digits w (own.to w a)))))

pub number_read : {E : Type 0} (k : ℕ) (w t : List ℕ) (r : Result ℕ E) → t ≡ w → begins 43 w ≡ false → ParsesUnsigned k 10 t r → result_ok r ≡ number_in k w
number_read k w t r e n h = number_parsed k w r (parse_plain own k w r (rw e at h) (no_plus w n))
