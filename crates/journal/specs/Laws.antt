-- Laws of a text that is told in pieces.
use Rattle.std.specs.Prelude.{◌≡◌, ℕ, ◌+◌, cond, ◌&&◌, List, [], ◌∷◌, ◌++◌, length, Some, None, Option, nat_le, nat_lt}
use Rattle.std.specs.List.{flat_map}
use Rattle.sink.specs.Events.{Event}
use Rattle.journal.specs.Tails.{Kept, top, said, since}

-- two pieces are told as one
abbrev pub PiecesJoin : Type 0
PiecesJoin = (a b : List ℕ) (t : Kept) → said b (said a t) ≡ said (a ++ b) t

-- steps of a text, oldest first
abbrev pub all_told : {X : Type 0} → (X → Kept → Kept) → List X → Kept → Kept
all_told step [] t = t
all_told step (x ∷ xs) t = all_told step xs (step x t)

-- exactly these bytes, where they are no more than there is room for and the count does not stop at its top
abbrev pub exactly : List ℕ → Kept → Option (List ℕ)
exactly bytes t = cond (nat_le (length bytes) t.room && nat_lt (t.told + length bytes) top) (Some bytes) None

-- what was told since a count is exactly the pieces behind it
abbrev pub PiecesStand : Type 0
PiecesStand = (ps : List (List ℕ)) (t : Kept) → since t.told (all_told said ps t) ≡ exactly (flat_map (λ p. p) ps) t

-- what was told since a count is exactly the rows of the events behind it, in their order
abbrev pub RowsStand : (Event → List ℕ) → (Event → Kept → Kept) → Type 0
RowsStand row step = (es : List Event) (t : Kept) → since t.told (all_told step es t) ≡ exactly (flat_map row es) t
