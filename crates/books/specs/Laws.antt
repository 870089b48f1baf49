-- Some sizes of a keeper's tables.
use Rattle.std.specs.Prelude.{◌≡◌, ℕ, Bool, true, false, replicate}
use Rattle.book_model.specs.declared.level.Level.{Level}
use Rattle.books.specs.Sizes.{tables_fit}
use Rattle.books.specs.Tabled.{blank}

-- a level of no volume
abbrev pub flat : Level
flat = record { price = 0; volume = 0; orders = 0 }

-- whether a keeper has tables of so many books, buy levels and sell levels, at a depth
abbrev pub sized : ℕ → ℕ → ℕ → ℕ → Bool
sized books buys sells depth = tables_fit (replicate books blank) (replicate buys flat) (replicate sells flat) depth

-- some sizes, on both sides of each bound
pub record SizesWorked : Type 0 where
  pub one : sized 1 1 1 1 ≡ true
  pub no_book : sized 0 0 0 1 ≡ false
  pub most_books : sized 1024 1024 1024 1 ≡ true
  pub more_books : sized 1025 1025 1025 1 ≡ false
  pub no_level : sized 1 0 0 0 ≡ false
  pub most_levels : sized 1 4096 4096 4096 ≡ true
  pub more_levels : sized 1 4097 4097 4097 ≡ false
  pub few_buys : sized 2 5 6 3 ≡ false
  pub few_sells : sized 2 6 5 3 ≡ false
