-- The text of books and of rows, each line ended.
use Rattle.std.specs.Prelude.{ℕ, Bool, true, false, List, ◌++◌, Some, None, codes, decimal, Option}
use Rattle.std.specs.List.{flat_map}
use Rattle.wire.specs.declared.point.Side.{Side}
use Rattle.wire.specs.declared.point.Side.TheVariants.{Buy, Sell}
use Rattle.book_model.specs.declared.level.Level.{Level}
use Rattle.books.specs.declared.book.Book.{Book}
use Rattle.book_model.specs.Entering.{Known}
use Rattle.books.specs.Keepers.{shown, levels_shown}
use Rattle.console.specs.Texts.{priced_level_text}

abbrev pub whole_text : Bool → List ℕ
whole_text true = codes "whole"
whole_text false = codes "partial"

-- a book in one line
abbrev pub heading : ℕ → Book → List ℕ
heading i b =
    codes "book " ++ (decimal i ++ (codes " " ++ (whole_text b.whole ++ (codes " touched=" ++ (decimal b.touched ++
    (codes " buys=" ++ (decimal b.buys ++ (codes " sells=" ++ decimal b.sells))))))))

-- a line for each level of a side, in their order
abbrev pub levels_text : Side → List Level → List ℕ
levels_text side ls = flat_map (λ l. priced_level_text side l.price l.volume l.orders ++ codes "\n") ls

-- a book with its levels, buys first; `none` where there is no such book
abbrev pub shown_text : ℕ → Option Known → Option Book → List ℕ
shown_text i k None = codes "book " ++ (decimal i ++ codes " none\n")
shown_text i k (Some b) =
    heading i b ++ (codes "\n" ++ (levels_text Buy (levels_shown Buy k) ++ levels_text Sell (levels_shown Sell k)))

abbrev pub book_text : ℕ → Option Known → List ℕ
book_text i k = shown_text i k (shown k)

-- the executed volume of an index
abbrev pub row_text : ℕ → Option ℕ → List ℕ
row_text i None = codes "row " ++ (decimal i ++ codes " none\n")
row_text i (Some x) = codes "row " ++ (decimal i ++ (codes " executed=" ++ (decimal x ++ codes "\n")))
