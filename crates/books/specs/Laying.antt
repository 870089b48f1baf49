-- Points that are laid down one behind the other.
use Rattle.std.specs.Prelude.{◌≡◌, ℕ, suc, ◌-◌, Bool, true, not, ◌&&◌, List, ◌∷◌, length, ◌==◌, Some, None, Option}
use Rattle.std.specs.List.{slice_get}
use Rattle.wire.specs.declared.point.Side.{Side}
use Rattle.book_model.specs.declared.level.Level.{Level}
use Rattle.book_model.specs.Levels.{before}
use Rattle.book_model.specs.declared.level.Point.{Point}
use Rattle.books.specs.declared.tables.Tables.{Tables}
use Rattle.book_model.specs.Entering.{filled}
use Rattle.book_model.specs.Keepers.{changed_at}
use Rattle.books.specs.Keepers.{tables_known}

-- whether a level comes after another, if there is one
abbrev pub after : Side → Level → Option Level → Bool
after s l None = true
after s l (Some x) = before s x.price l.price

-- whether a level goes behind all levels of a side: it has a volume, and the last of them comes before it
abbrev pub behind : Side → Level → List Level → Bool
behind s l xs = not (l.volume == 0) && after s l (slice_get xs (length xs - 1))

-- points of which the first one is taken out already
abbrev pub pending : {P : Type 0} → Option P → List P → List P
pending None ps = ps
pending (Some p) ps = p ∷ ps

-- the points qs make of the book at i in new tables what the points ps make of it in old ones
pub record Leaves (old new : Tables) (i : ℕ) (ps qs : List Point) : Type 0 where
  pub depth : new.depth ≡ old.depth
  pub told : changed_at (suc i) (filled old.depth qs) (tables_known new) ≡ changed_at (suc i) (filled old.depth ps) (tables_known old)
