-- What the library's decoding says of a word, in the words of `hex_bytes`.
use Rattle.std.proofs.Common.{◌≡◌, ℕ, ◌+◌, ◌*◌, ◌%◌, Bool, true, false, ◌&&◌, List, [], ◌∷◌, length, Some, None, Ok, Err, Option, Result, ◌⊎◌, refl, ap, sym, ◌∙◌, arith, inl, inr, eqb, cond, subst}
use Rattle.std.specs.Result.{result_ok, IsErrAnd}
use Rattle.std.specs.List.{list_all}
use Rattle.std.specs.Char.{is_ascii_hexdigit}
use Rattle.std.proofs.lemmas.Bool.{eqb-true}
use Rattle.std.proofs.lemmas.Bool.Decides.{nat_tests}
use Rattle.hex.specs.declared.error.FromHexError.{FromHexError}
use Rattle.hex.specs.declared.error.FromHexError.TheVariants as hex
use Rattle.hex.specs.Hex.{hex_digit_value, digit_or_error, decode_pairs, decode_of, ◌>>=◌}
use Rattle.script.specs.Hex.{nibble, in_front, hex_bytes}
use Rattle.script.specs.declared.error.ParseError.{ParseError}
use Rattle.script.specs.Faults.{Reads, hex_fault}

digit : (b : ℕ) → nibble b ≡ hex_digit_value b
digit b = grind (arith, nat_tests)

-- two digits in front of what is decoded behind them
in_front_is : (h l i j : ℕ) (x y : Option ℕ) (r : Result (List ℕ) FromHexError) →
    result_ok ((digit_or_error h i x >>= (λ a. digit_or_error l j y >>= (λ b. Ok (a * 16 + b)))) >>= (λ byte. r >>= (λ bytes. Ok (byte ∷ bytes)))) ≡ in_front x y (result_ok r)
in_front_is h l i j None y r = refl
in_front_is h l i j (Some a) None r = refl
in_front_is h l i j (Some a) (Some b) (Ok bytes) = refl
in_front_is h l i j (Some a) (Some b) (Err e) = refl

pairs_are : (i : ℕ) (ds : List ℕ) → result_ok (decode_pairs i ds) ≡ hex_bytes ds
unfolding decode_pairs
pairs_are i [] = refl
pairs_are i (d ∷ []) = refl
pairs_are i (h ∷ (l ∷ ds)) =
    in_front_is h l i (i + 1) (hex_digit_value h) (hex_digit_value l) (decode_pairs (i + 2) ds)
    ∙ simp (digit, pairs_are (i + 2) ds)

none_behind : (x y : Option ℕ) → in_front x y None ≡ None
none_behind None y = refl
none_behind (Some a) None = refl
none_behind (Some a) (Some b) = refl

no_digit : (b : ℕ) → is_ascii_hexdigit b ≡ false → nibble b ≡ None
no_digit b e = grind (arith, nat_tests)

none_second : (x : Option ℕ) (bs : Option (List ℕ)) → None ≡ in_front x None bs
none_second None bs = refl
none_second (Some a) bs = refl

no_digits_by : (h l : ℕ) (bs : Option (List ℕ)) (t u v : Bool) → is_ascii_hexdigit h ≡ t → is_ascii_hexdigit l ≡ u → (t && (u && v)) ≡ false → (v ≡ false → None ≡ bs) → None ≡ in_front (nibble h) (nibble l) bs
no_digits_by h l bs false u v e f n r = rw (no_digit h e) refl
no_digits_by h l bs true false v e f n r = rw (no_digit l f) (none_second (nibble h) bs)
no_digits_by h l bs true true v e f n r = rw (← r n) (sym (none_behind (nibble h) (nibble l)))

-- a word with a byte that is no digit writes no bytes
pub no_digits : (ds : List ℕ) → list_all is_ascii_hexdigit ds ≡ false → None ≡ hex_bytes ds
no_digits [] e = cc
no_digits (d ∷ []) e = refl
no_digits (h ∷ (l ∷ ds)) e =
    no_digits_by h l (hex_bytes ds) (is_ascii_hexdigit h) (is_ascii_hexdigit l) (list_all is_ascii_hexdigit ds) refl refl e (no_digits ds)

-- an odd count of digits writes no bytes
odd_none : (ds : List ℕ) → length ds % 2 ≡ 1 → hex_bytes ds ≡ None
odd_none [] e = absurd (omega arith)
odd_none (d ∷ []) e = refl
odd_none (h ∷ (l ∷ ds)) e = simp (odd_none ds (omega arith)) (none_behind (nibble h) (nibble l))

decoded_by : (ds : List ℕ) (t : Bool) → eqb (length ds % 2) 1 ≡ t → result_ok (cond t (Err hex.OddLength) (decode_pairs 0 ds)) ≡ hex_bytes ds
decoded_by ds true e = sym (odd_none ds (eqb-true (length ds % 2) 1 e))
decoded_by ds false e = pairs_are 0 ds

decoded : (ds : List ℕ) → result_ok (decode_of ds) ≡ hex_bytes ds
decoded ds = decoded_by ds (eqb (length ds % 2) 1) refl

pub decoded_ok : (ds bs : List ℕ) → decode_of ds ≡ Ok bs → Some bs ≡ hex_bytes ds
decoded_ok ds bs e = sym (ap result_ok e) ∙ decoded ds

unread : {T : Type 0} (ds : List ℕ) (e : FromHexError) (f : T → List ℕ) → ◌⊎◌ (e ≡ hex.OutOfMemory) (decode_of ds ≡ Err e) → Reads f (Err (hex_fault e)) (hex_bytes ds)
unread ds hex.OutOfMemory f h = tt
unread ds hex.OddLength f (inr h) = sym (ap result_ok h) ∙ decoded ds
unread ds hex.OddLength f (inl h) = cc
unread ds hex.InvalidStringLength f (inr h) = sym (ap result_ok h) ∙ decoded ds
unread ds hex.InvalidStringLength f (inl h) = cc
unread ds (hex.InvalidHexCharacter c i) f (inr h) = sym (ap result_ok h) ∙ decoded ds
unread ds (hex.InvalidHexCharacter c i) f (inl h) = cc

pub decoded_err : {T : Type 0} (ds : List ℕ) (e : FromHexError) (f : T → List ℕ) (r : Result T ParseError) → IsErrAnd r (λ fault. fault ≡ hex_fault e) → ◌⊎◌ (e ≡ hex.OutOfMemory) (decode_of ds ≡ Err e) → Reads f r (hex_bytes ds)
decoded_err ds e f (Ok x) i h = absurd i
decoded_err {T} ds e f (Err fault) i h = let P : ParseError → Type 0 = λ x. Reads f (Err x) (hex_bytes ds) in subst P (sym i) (unread ds e f h)
