-- How much memory a setup takes.
use Rattle.std.specs.Prelude.{ℕ, ◌+◌, ◌*◌, min, Bool, true, cond, ◌&&◌, nat_le}
use Rattle.shelf.specs.Store.{Store}
use Rattle.slot_shelf.specs.Slots.{empty_store}
use Rattle.chain_shelf.specs.declared.region.TheConstants.{RECORD, MOST_RECORDS}
use Rattle.chain_shelf.specs.Chain.{fresh}
use Rattle.chain_shelf.specs.Regions.{fit}
use Rattle.books.specs.declared.tables.TheConstants.{MOST_BOOKS, MOST_DEPTH}
use Rattle.script.specs.declared.setup.Setup.{Setup}
use Rattle.script.specs.declared.setup.ShelfKind.{ShelfKind}
use Rattle.script.specs.declared.setup.ShelfKind.TheVariants.{Slots, Chain}
use Rattle.session.specs.declared.sizes.Sizes.{Sizes}

-- the bytes of a region: records of 64 bytes, and of more than 65,535, which no region has, one more than that
abbrev pub region_bytes : ℕ → ℕ
region_bytes records = min records (MOST_RECORDS + 1) * RECORD

-- the shelf of a setup: empty slots, or an empty chain where a region has that size
abbrev pub shelf_fits : ShelfKind → Bool
shelf_fits Slots = true
shelf_fits (Chain n) = fit (region_bytes n)

abbrev pub shelf_store : ShelfKind → Store
shelf_store Slots = empty_store
shelf_store (Chain n) = fresh (region_bytes n)

-- tables that no keeper has are not made: no book is made of them, which no keeper has either
abbrev pub tables_made : Setup → Bool
tables_made s = nat_le s.books MOST_BOOKS && nat_le s.depth MOST_DEPTH

-- books, levels of a side of them all, and rows; there are 65,536 indices, so no tally uses more rows
abbrev pub sizes_of : Setup → Sizes
sizes_of s =
    cond (tables_made s)
    (record { books = s.books; levels = s.books * s.depth; depth = s.depth; rows = min s.rows 65536 })
    (record { books = 0; levels = 0; depth = 0; rows = 0 })
