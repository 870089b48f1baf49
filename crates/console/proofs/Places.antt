-- The first word of a line, by the places of its first letter and of the blank behind it.
use Rattle.std.proofs.Common.{◌≡◌, ℕ, suc, ◌+◌, ◌<◌, ◌≤◌, Bool, true, false, not, List, [], ◌∷◌, length, take, drop, drop_of_length-le, length-drop, Some, None, Option, cond, position, refl, ap, sym, ◌∙◌, arith, ltb}
use Rattle.std.specs.List.{position_or_len}
use Rattle.std.specs.Option.{unwrap_or}
use Rattle.std.proofs.lemmas.List.Sums.{prefix_len-le-length}
use Rattle.std.proofs.lemmas.Bool.{ltb-true, ltb-false}
use Rattle.console.specs.Words.{blank, skip_blanks, word_length, cut_word, next_word}

one_more : (n : ℕ) → 1 + n ≡ suc n
one_more n = omega arith

abbrev start : List ℕ → ℕ
start l = position_or_len (λ c. not (blank c)) l

skip_one : (b : ℕ) (bs : List ℕ) (t : Bool) → blank b ≡ t → skip_blanks bs ≡ drop (start bs) bs → skip_blanks (b ∷ bs) ≡ drop (start (b ∷ bs)) (b ∷ bs)
skip_one b bs true e h = simp e (simp one_more h)
skip_one b bs false e h = simp e

skip_is : (l : List ℕ) → skip_blanks l ≡ drop (start l) l
skip_is [] = refl
skip_is (b ∷ bs) = skip_one b bs (blank b) refl (skip_is bs)

length_one : (b : ℕ) (bs : List ℕ) (t : Bool) → blank b ≡ t → word_length bs ≡ position_or_len blank bs → word_length (b ∷ bs) ≡ position_or_len blank (b ∷ bs)
length_one b bs true e h = simp e
length_one b bs false e h = simp e (simp one_more (ap (λ n. suc n) h))

length_is : (l : List ℕ) → word_length l ≡ position_or_len blank l
length_is [] = refl
length_is (b ∷ bs) = length_one b bs (blank b) refl (length_is bs)

-- a place, or the length
place_or : (n m : ℕ) (t : Bool) → ltb n m ≡ t → n ≤ m → unwrap_or (cond t (Some n) None) m ≡ n
place_or n m true e h = refl
place_or n m false e h = let f = ltb-false n m e in omega arith

pub word_ends : (l : List ℕ) → word_length l ≡ unwrap_or (position blank l) (length l)
word_ends l =
    let n = position_or_len blank l in
    length_is l ∙ sym (place_or n (length l) (ltb n (length l)) refl (prefix_len-le-length _ l))

cut_some : (m : List ℕ) → 0 < length m → cut_word m ≡ Some (take (word_length m) m, drop (word_length m) m)
cut_some [] h = absurd (omega arith)
cut_some (b ∷ bs) h = refl

-- the word at a place, if there is one
abbrev at_place : List ℕ → Option ℕ → Option (List ℕ × List ℕ)
at_place l None = None
at_place l (Some i) = Some (take (word_length (drop i l)) (drop i l), drop (word_length (drop i l)) (drop i l))

cut_at : (l : List ℕ) (n : ℕ) (t : Bool) → ltb n (length l) ≡ t → cut_word (drop n l) ≡ at_place l (cond t (Some n) None)
cut_at l n true e = let h = ltb-true n (length l) e in cut_some (drop n l) (simp length-drop (omega arith))
cut_at l n false e = ap cut_word (drop_of_length-le l (ltb-false n (length l) e))

pub word_at : (l : List ℕ) → next_word l ≡ at_place l (position (λ b. not (blank b)) l)
word_at l = ap cut_word (skip_is l) ∙ cut_at l (start l) (ltb (start l) (length l)) refl
