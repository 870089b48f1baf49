-- The words of a line, parted by blanks.
use Rattle.std.specs.Prelude.{ℕ, suc, Bool, cond, ◌||◌, List, [], ◌∷◌, take, drop, Some, None, Option, ◌==◌}
use Rattle.std.specs.Borrow.{Bor}

-- a space, a tab or a carriage return
abbrev pub blank : ℕ → Bool
blank b = b == 32 || (b == 9 || b == 13)

-- a line from its first byte on that is no blank
abbrev pub skip_blanks : List ℕ → List ℕ
skip_blanks [] = []
skip_blanks (b ∷ bs) = cond (blank b) (skip_blanks bs) (b ∷ bs)

-- the bytes before the first blank
abbrev pub word_length : List ℕ → ℕ
word_length [] = 0
word_length (b ∷ bs) = cond (blank b) 0 (suc (word_length bs))

abbrev pub cut_word : List ℕ → Option (List ℕ × List ℕ)
cut_word [] = None
cut_word (b ∷ bs) = Some (take (word_length (b ∷ bs)) (b ∷ bs), drop (word_length (b ∷ bs)) (b ∷ bs))

-- the first word, and what stands behind it
abbrev pub next_word : List ℕ → Option (List ℕ × List ℕ)
next_word bs = cut_word (skip_blanks bs)

-- what the code's parts of the line hold
abbrev pub told_words : Option (Bor (List ℕ) × Bor (List ℕ)) → Option (List ℕ × List ℕ)
told_words None = None
told_words (Some x) = Some (x.0.now, x.1.now)

-- a byte in front of the first of some words
abbrev pub joined : ℕ → List (List ℕ) → List (List ℕ)
joined b [] = (b ∷ []) ∷ []
joined b (w ∷ ws) = (b ∷ w) ∷ ws

-- a byte that is no blank, before a line with these words: it begins a word, or goes on with the first
abbrev pub put_before : ℕ → List ℕ → List (List ℕ) → List (List ℕ)
put_before b [] ws = (b ∷ []) ∷ ws
put_before b (c ∷ cs) ws = cond (blank c) ((b ∷ []) ∷ ws) (joined b ws)

-- all words of a line
abbrev pub words_in : List ℕ → List (List ℕ)
words_in [] = []
words_in (b ∷ bs) = cond (blank b) (words_in bs) (put_before b bs (words_in bs))

-- the words that the first word and what stands behind it come to
abbrev pub words_of : Option (List ℕ × List ℕ) → List (List ℕ)
words_of None = []
words_of (Some x) = x.0 ∷ words_in x.1
