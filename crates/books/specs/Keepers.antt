-- What a keeper's tables hold, what the code's keeper stands for, and what is read of it.
use Rattle.std.specs.Prelude.{◌≡◌, ℕ, suc, ◌+◌, ◌*◌, ◌<◌, ◌≤◌, min, Bool, cond, List, [], length, take, drop, replicate, Some, None, Option, slice_index_or}
use Rattle.wire.specs.declared.point.Side.{Side}
use Rattle.common.specs.Texts.{refused_text}
use Rattle.book_model.specs.declared.level.Level.{Level}
use Rattle.book_model.specs.Entering.{Known, unknown, levels}
use Rattle.book_model.specs.Keepers.{Kept, changed_at, book_of}
use Rattle.books.specs.declared.book.Book.{Book}
use Rattle.books.specs.declared.book.BookRow.{BookRow}
use Rattle.books.specs.declared.fault.TableFault.{TableFault}
use Rattle.books.specs.declared.fault.TableFault.TheVariants.{Sizes}
use Rattle.books.specs.declared.tables.Tables.{Tables}
use Rattle.books.specs.declared.tables.RefusedTables.{RefusedTables}
use Rattle.books.specs.declared.keeper.BookKeeper.{BookKeeper}
use Rattle.books.specs.Tabled.{known, blank, tabled}

-- the number of a refusal
abbrev pub fault_number : TableFault → ℕ
fault_number Sizes = 22

-- a refusal as it is printed
abbrev pub table_fault_text : TableFault → List ℕ
table_fault_text f = refused_text (fault_number f)

-- the books of tables that were checked
abbrev pub tables_known : Tables → List Known
tables_known t = tabled t.depth t.books.now t.buys.now t.sells.now

-- tables hold the books bs, at the depth of other tables
pub record Becomes (old new : Tables) (bs : List Known) : Type 0 where
  pub depth : new.depth ≡ old.depth
  pub books : tables_known new ≡ bs

-- tables that passed the check: n books of which nothing is known, at the depth d, and the levels as they were lent
pub record Checked (t : Tables) (n d : ℕ) (xs ys : List Level) : Type 0 where
  pub depth : t.depth ≡ d
  pub books : tables_known t ≡ replicate n unknown
  pub buys : t.buys.now ≡ xs
  pub sells : t.sells.now ≡ ys

-- tables that were refused: all three are as they were lent
pub record GivenBack (r : RefusedTables) (bs : List BookRow) (xs ys : List Level) : Type 0 where
  pub books : r.books.now ≡ bs
  pub buys : r.buys.now ≡ xs
  pub sells : r.sells.now ≡ ys

-- books of which nothing is known, or else these
abbrev pub unless_stale : Bool → List Known → List Known
unless_stale stale bs = cond stale (replicate (length bs) unknown) bs

-- the meaning of a keeper's value: while it is stale, nothing is known of any book
abbrev pub keeper_means : BookKeeper → Kept
keeper_means k = record { depth = k.tables.depth; mark = k.mark; books = unless_stale k.stale (tables_known k.tables) }

-- a book as it is shown: with the counts of its levels
abbrev pub shown : Option Known → Option Book
shown None = None
shown (Some b) = Some (record { whole = b.whole; touched = b.touched; buys = length b.buys; sells = length b.sells })

-- the levels of one side, none where there is no book
abbrev pub levels_shown : Side → Option Known → List Level
levels_shown s None = []
levels_shown s (Some b) = levels s b

-- no book has the number n
pub record Nowhere (bs : List Known) (n : ℕ) : Type 0 where
  pub same : (f : Known → Known) → changed_at n f bs ≡ bs
  pub unseen : book_of n bs ≡ None

-- the book with the number n is at i, and all three tables have its rows
pub record Spot (t : Tables) (n i : ℕ) : Type 0 where
  pub next : n ≡ suc i
  pub among : i < length (tables_known t)
  pub in_books : i < length t.books.now
  pub end_buys : i * t.depth + t.depth ≤ length t.buys.now
  pub end_sells : i * t.depth + t.depth ≤ length t.sells.now
  pub shows : book_of n (tables_known t) ≡ Some (known (slice_index_or t.books.now i blank).book (take t.depth (drop (i * t.depth) t.buys.now)) (take t.depth (drop (i * t.depth) t.sells.now)))
  pub counts : shown (book_of n (tables_known t)) ≡ Some (record { whole = (slice_index_or t.books.now i blank).book.whole; touched = (slice_index_or t.books.now i blank).book.touched; buys = min (slice_index_or t.books.now i blank).book.buys t.depth; sells = min (slice_index_or t.books.now i blank).book.sells t.depth })
