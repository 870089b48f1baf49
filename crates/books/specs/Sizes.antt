-- The sizes of a keeper's tables.
use Rattle.std.specs.Prelude.{ℕ, ◌*◌, Bool, ◌&&◌, List, length, ◌==◌, nat_le}
use Rattle.book_model.specs.declared.level.Level.{Level}
use Rattle.books.specs.declared.book.BookRow.{BookRow}
use Rattle.books.specs.declared.tables.TheConstants.{MOST_BOOKS, MOST_DEPTH}

-- tables of 1 to MOST_BOOKS books, and for each book 1 to MOST_DEPTH levels a side
abbrev pub tables_fit : List BookRow → List Level → List Level → ℕ → Bool
tables_fit books buys sells depth =
    nat_le 1 (length books) && nat_le (length books) MOST_BOOKS && nat_le 1 depth && nat_le depth MOST_DEPTH && length buys == length books * depth && length sells == length books * depth
