-- A book as it is known, and what the points of a message make of it.
use Rattle.std.specs.Prelude.{ℕ, Bool, true, false, cond, List, [], ◌∷◌, map, length, nat_le}
use Rattle.wire.specs.declared.point.Side.{Side}
use Rattle.wire.specs.declared.point.Side.TheVariants.{Buy, Sell}
use Rattle.wire.specs.declared.point.PricePoint.{PricePoint}
use Rattle.wire.specs.Points.{points_in_full, points_in_delta}
use Rattle.book_model.specs.declared.level.Level.{Level}
use Rattle.book_model.specs.declared.level.Point.{Point}
use Rattle.book_model.specs.declared.start.Start.{Start}
use Rattle.book_model.specs.declared.start.Start.TheVariants as start
use Rattle.book_model.specs.Levels.{price_of, before, changed, named}

-- A book: whole where all that was told of it since its last full update is known, the number of the data that last touched it
-- since the last loss or restart, and the levels of its two sides.
pub record Known : Type 0 where
  pub whole : Bool
  pub touched : ℕ
  pub buys : List Level
  pub sells : List Level

-- a book with no level
abbrev pub emptied : Bool → ℕ → Known
emptied w t = record { whole = w; touched = t; buys = []; sells = [] }

-- a book of which nothing is known
abbrev pub unknown : Known
unknown = emptied false 0

-- the levels of one side
abbrev pub levels : Side → Known → List Level
levels Buy b = b.buys
levels Sell b = b.sells

-- a book with other levels on one side
abbrev pub with_levels : Side → List Level → Known → Known
with_levels Buy xs b = record { whole = b.whole; touched = b.touched; buys = xs; sells = b.sells }
with_levels Sell xs b = record { whole = b.whole; touched = b.touched; buys = b.buys; sells = xs }

-- a book that data with the number n touches
abbrev pub touched_at : ℕ → Known → Known
touched_at n b = record { whole = b.whole; touched = n; buys = b.buys; sells = b.sells }

-- a level told to a side, however many there are then
abbrev pub put : Side → Level → Known → Known
put s l b = with_levels s (changed price_of (before s) l (levels s b)) b

-- points in order, however many levels there are
abbrev pub put_all : List Point → Known → Known
put_all [] b = b
put_all (p ∷ ps) b = put_all ps (put p.side p.level b)

-- the same in a side of at most d levels: one more, and the book is empty and not whole
abbrev pub limited : ℕ → Side → Level → Known → Known
limited d s l b = cond (nat_le (length (levels s (put s l b))) d) (put s l b) (emptied false b.touched)

-- points in order while the book is whole
abbrev pub filled : ℕ → List Point → Known → Known
filled d [] b = b
filled d (p ∷ ps) b = cond b.whole (filled d ps (limited d p.side p.level b)) b

-- points as they are told, at the scale of the message: `level` is the level that a point names
abbrev pub points_of : {P : Type 0} → (P → PricePoint) → ℕ → List P → List Point
points_of level scale ps = map (λ p. named scale (level p)) ps

-- the points of a full update, at the scale of the message
abbrev pub full_points : ℕ → List ℕ → List Point
full_points scale bs = points_of (λ p. p) scale (points_in_full bs)

-- the points of a delta, at the scale of the message
abbrev pub delta_points : ℕ → List ℕ → List Point
delta_points scale bs = points_of (λ p. p.level) scale (points_in_delta bs)

-- a book as a message with points begins
abbrev pub begun : Start → Known → Known
begun (start.Full n) b = emptied true n
begun (start.Delta n) b = touched_at n b
begun (start.Refresh n) b = emptied true b.touched

-- whether a message is taken: not one out of a refresh that is older than the book's last touch
abbrev pub taken : Start → Known → Bool
taken (start.Full n) b = true
taken (start.Delta n) b = true
taken (start.Refresh n) b = nat_le b.touched n

-- a message with points
abbrev pub told : ℕ → Start → List Point → Known → Known
told d s ps b = cond (taken s b) (filled d ps (begun s b)) b
