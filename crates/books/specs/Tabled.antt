-- The books that the rows of three tables hold.
use Rattle.std.specs.Prelude.{ℕ, zero, suc, ◌/◌, false, List, [], ◌∷◌, length, take, drop}
use Rattle.std.specs.List.{AllByRecursion, AllByRecursion-prop}
use Rattle.book_model.specs.declared.level.Level.{Level}
use Rattle.book_model.specs.Entering.{Known}
use Rattle.book_model.specs.Laws.{Ordered, Ordered-prop}
use Rattle.books.specs.declared.book.Book.{Book}
use Rattle.books.specs.declared.book.BookRow.{BookRow}

-- a book's row, with the rows for its levels
abbrev pub known : Book → List Level → List Level → Known
known b xs ys = record { whole = b.whole; touched = b.touched; buys = take b.buys xs; sells = take b.sells ys }

-- the default of a read
abbrev pub blank : BookRow
blank = record { book = record { whole = false; touched = 0; buys = 0; sells = 0 } }

-- n parts of xs, each of d elements
abbrev pub parts : {X : Type 0} → ℕ → ℕ → List X → List (List X)
parts d zero xs = []
parts d (suc n) xs = take d xs ∷ parts d n (drop d xs)

-- the parts of d elements that xs has room for
abbrev pub cut : {X : Type 0} → ℕ → List X → List (List X)
cut d xs = parts d (length xs / d) xs

-- each book with the rows for its levels
abbrev pub each_known : List BookRow → List (List Level) → List (List Level) → List Known
each_known (b ∷ bs) (x ∷ xs) (y ∷ ys) = known b.book x y ∷ each_known bs xs ys
each_known [] xs ys = []
each_known (b ∷ bs) [] ys = []
each_known (b ∷ bs) (x ∷ xs) [] = []

-- the books of three tables, at a depth: as many as all three have room for
abbrev pub tabled : ℕ → List BookRow → List Level → List Level → List Known
tabled d bs xs ys = each_known bs (cut d xs) (cut d ys)

-- both sides of each book are in order
abbrev pub AllOrdered : List Known → Type 0
AllOrdered bs = AllByRecursion Ordered bs

-- that they are has one proof at most
pub AllOrdered-prop : (bs : List Known) → IsProp (AllOrdered bs)
AllOrdered-prop bs = AllByRecursion-prop Ordered Ordered-prop bs
