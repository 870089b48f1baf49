-- The lines of the books that a day leaves, and how many of the books are whole.
use Rattle.std.specs.Prelude.{ℕ, ◌+◌, Bool, true, false, not, List, [], ◌∷◌, ◌++◌, Some, None, codes, decimal, Option}
use Rattle.wire.specs.declared.point.Side.{Side}
use Rattle.wire.specs.declared.point.Side.TheVariants.{Buy, Sell}
use Rattle.wire.specs.Texts.{side_text}
use Rattle.book_model.specs.declared.level.Level.{Level}
use Rattle.book_model.specs.Entering.{Known}
use Rattle.book_model.specs.Keepers.{book_of}
use Rattle.console.specs.Texts.{price_text}
use Rattle.replies.specs.Reads.{whole_text}
use Rattle.reports.specs.Each.{each_to, count_to}

-- a level: index, state, side, place, price, volume and count of orders
abbrev pub level_row : ℕ → Bool → Side → ℕ → Level → List ℕ
level_row i whole side place l =
    decimal i ++ (codes "," ++ (whole_text whole ++ (codes "," ++ (side_text side ++ (codes "," ++ (decimal place ++
    (codes "," ++ (price_text l.price ++ (codes "," ++ (decimal l.volume ++ (codes "," ++ (decimal l.orders ++ codes "\n"))))))))))))

-- the levels of a side in their order, the first at a place
abbrev pub side_rows : ℕ → Bool → Side → ℕ → List Level → List ℕ
side_rows i whole side place [] = []
side_rows i whole side place (l ∷ ls) = level_row i whole side place l ++ side_rows i whole side (place + 1) ls

-- a book with no level
abbrev pub empty_row : ℕ → Bool → List ℕ
empty_row i whole = decimal i ++ (codes "," ++ (whole_text whole ++ codes ",,,,,\n"))

-- a book by its levels, buys first and the best first; their places count from 1
abbrev pub levels_rows : ℕ → Bool → List Level → List Level → List ℕ
levels_rows i whole [] [] = empty_row i whole
levels_rows i whole (b ∷ bs) ss = side_rows i whole Buy 1 (b ∷ bs) ++ side_rows i whole Sell 1 ss
levels_rows i whole [] (s ∷ ss) = side_rows i whole Sell 1 (s ∷ ss)

-- nothing where there is no such book
abbrev pub book_rows : ℕ → Option Known → List ℕ
book_rows i None = []
book_rows i (Some b) = levels_rows i b.whole b.buys b.sells

-- the books with the indexes from 1 to a count
abbrev pub day_book_text : ℕ → List Known → List ℕ
day_book_text count bs = each_to count (λ i. book_rows i (book_of i bs))

-- there is such a book, and it is whole; or is not
abbrev pub same : Bool → Bool → Bool
same true b = b
same false b = not b

abbrev pub has_state : Bool → Option Known → Bool
has_state whole None = false
has_state whole (Some b) = same whole b.whole

-- how many of the books with the indexes from 1 to a count are whole, or are not
abbrev pub count_state : Bool → ℕ → List Known → ℕ
count_state whole count bs = count_to count (λ i. has_state whole (book_of i bs))
