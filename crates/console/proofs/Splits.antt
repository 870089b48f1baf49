-- The first word and what stands behind it, in the words of `words_in`.
use Rattle.std.proofs.Common.{◌≡◌, ℕ, Bool, true, false, List, [], ◌∷◌, take, drop, sym, refl, ap, ◌∙◌}
use Rattle.console.specs.Words.{blank, skip_blanks, word_length, cut_word, next_word, joined, words_in, words_of}

skip_one : (b : ℕ) (bs : List ℕ) (t : Bool) → blank b ≡ t → words_in (skip_blanks bs) ≡ words_in bs → words_in (skip_blanks (b ∷ bs)) ≡ words_in (b ∷ bs)
skip_one b bs true e h = simp e h
skip_one b bs false e h = simp e

words_skip : (l : List ℕ) → words_in (skip_blanks l) ≡ words_in l
words_skip [] = refl
words_skip (b ∷ bs) = skip_one b bs (blank b) refl (words_skip bs)

-- the word in front, and the words behind it
abbrev cut : List ℕ → List (List ℕ)
cut l = take (word_length l) l ∷ words_in (drop (word_length l) l)

-- a line that begins with a byte that is no blank has the word there in front
cut_more : (b c : ℕ) (cs : List ℕ) (t : Bool) → blank b ≡ false → blank c ≡ t → (blank c ≡ false → words_in (c ∷ cs) ≡ cut (c ∷ cs)) → words_in (b ∷ (c ∷ cs)) ≡ cut (b ∷ (c ∷ cs))
cut_more b c cs true e f h = simp e (simp f refl)
cut_more b c cs false e f h = simp e (simp f (ap (joined b) (simp f at (h f))))

words_cut : (b : ℕ) (bs : List ℕ) → blank b ≡ false → words_in (b ∷ bs) ≡ cut (b ∷ bs)
words_cut b [] e = simp e
words_cut b (c ∷ cs) e = cut_more b c cs (blank c) e refl (words_cut c cs)

cut_one : (b : ℕ) (bs : List ℕ) (t : Bool) → blank b ≡ t → words_of (cut_word (skip_blanks bs)) ≡ words_in (skip_blanks bs) → words_of (cut_word (skip_blanks (b ∷ bs))) ≡ words_in (skip_blanks (b ∷ bs))
cut_one b bs true e h = simp e h
cut_one b bs false e h = let k = simp e at (words_cut b bs e) in simp e (sym k)

unblanked : (l : List ℕ) → words_of (cut_word (skip_blanks l)) ≡ words_in (skip_blanks l)
unblanked [] = refl
unblanked (b ∷ bs) = cut_one b bs (blank b) refl (unblanked bs)

pub words_next : (l : List ℕ) → words_of (next_word l) ≡ words_in l
words_next l = unblanked l ∙ words_skip l
