-- What always holds of a keeper, whatever it is told.
use Rattle.std.specs.Prelude.{◌≡◌, ℕ, suc, ◌<◌, ◌≤◌, Bool, true, false, cond, ◌&&◌, List, [], ◌∷◌, length, Some, None, Option, IsSomeAnd, ◌==◌}
use Rattle.std.specs.List.{AllByRecursion}
use Rattle.std.specs.Option.{option_or}
use Rattle.wire.specs.declared.point.Side.{Side}
use Rattle.wire.specs.declared.point.Side.TheVariants.{Buy, Sell}
use Rattle.wire.specs.Reading.{full, delta}
use Rattle.std.specs.Coded.{Π_prop}
use Rattle.rank.specs.Rows.{Sorted, Sorted-prop, kept}
use Rattle.sink.specs.Events.{Event, data_of, refresh_of}
use Rattle.book_model.specs.declared.level.Level.{Level}
use Rattle.book_model.specs.declared.level.Point.{Point}
use Rattle.book_model.specs.Levels.{price_of, before}
use Rattle.book_model.specs.Entering.{Known, emptied, touched_at, levels, put, put_all, full_points, delta_points}
use Rattle.book_model.specs.Keepers.{Kept, fresh, keeper_step, book_of}

-- both sides of a book are in order: each level strictly before the next
abbrev pub Ordered : Known → Type 0
Ordered b = (s : Side) → Sorted price_of (before s) (levels s b)

-- that they are has one proof at most
pub Ordered-prop : (b : Known) → IsProp (Ordered b)
Ordered-prop b = Π_prop (λ s. Sorted-prop price_of (before s) (levels s b))

-- a side in order: each level strictly before the next, and at most d of them
pub record Laddered (d : ℕ) (b : Known) (s : Side) : Type 0 where
  pub sorted : Sorted price_of (before s) (levels s b)
  pub few : length (levels s b) ≤ d

-- both sides of a book are so
abbrev pub BothLaddered : ℕ → Known → Type 0
BothLaddered d b = (s : Side) → Laddered d b s

-- both sides of each book are so
pub record InOrder (k : Kept) : Type 0 where
  pub all : AllByRecursion (BothLaddered k.depth) k.books

-- no point of a message makes a side longer than d levels
abbrev pub PointsFit : ℕ → List Point → Known → Type 0
PointsFit d [] b = Unit {0}
PointsFit d (p ∷ ps) b = (length (levels p.side (put p.side p.level b)) ≤ d) × PointsFit d ps (put p.side p.level b)

-- the level of a price on a side of a book, if there is one
abbrev pub level_at : Side → ℕ → Known → Option Level
level_at s price b = kept price_of (before s) price (levels s b)

-- whether two sides are the same
abbrev pub same_side : Side → Side → Bool
same_side Buy Buy = true
same_side Buy Sell = false
same_side Sell Buy = false
same_side Sell Sell = true

-- the level of the last point that names a price on a side, if there is one
abbrev pub last_named : Side → ℕ → List Point → Option Level
last_named s price [] = None
last_named s price (p ∷ ps) = option_or (last_named s price ps) (cond (same_side s p.side && price == p.level.price) (Some p.level) None)

-- the level of a price after points: that of the last point that names it, none where its volume is 0, and the level of before where no point does
abbrev pub level_after : Option Level → Option Level → Option Level
level_after None before = before
level_after (Some l) before = cond (l.volume == 0) None (Some l)

-- A book after points: on each side each price has the level of the last point that names it, or none where its volume is 0; where no point names it, it has what it had.
-- Whether the book is whole and what touched it last stay the same.
pub record AfterPoints (ps : List Point) (old new : Known) : Type 0 where
  pub whole : new.whole ≡ old.whole
  pub touched : new.touched ≡ old.touched
  pub each : (s : Side) (price : ℕ) → level_at s price new ≡ level_after (last_named s price ps) (level_at s price old)

-- A keeper is in order at its start, and each event leaves one in order that was so. A full update whose points fit makes its book whole, with those points and no others,
-- and so does a refresh that is not older than the loss mark and the book. A delta whose points fit leaves a whole book whole, with those points and else what it had.
pub record Keeping : Type 0 where
  pub begins : (d n : ℕ) → InOrder (fresh d n)
  pub order : (e : Event) (k : Kept) → InOrder k → InOrder (keeper_step e k)
  pub full_known : (n i s : ℕ) (ps : List ℕ) (k : Kept) → i < length k.books → PointsFit k.depth (full_points s ps) (emptied true n)
      → book_of (suc i) (keeper_step (data_of n (full (suc i) s ps)) k).books ≡ Some (put_all (full_points s ps) (emptied true n))
  pub refresh_known : (n i s : ℕ) (ps : List ℕ) (k : Kept) (b : Known) → book_of (suc i) k.books ≡ Some b → k.mark ≤ n → b.touched ≤ n → PointsFit k.depth (full_points s ps) (emptied true b.touched)
      → book_of (suc i) (keeper_step (refresh_of n (full (suc i) s ps)) k).books ≡ Some (put_all (full_points s ps) (emptied true b.touched))
  pub whole : (ps : List Point) (n : ℕ) → (put_all ps (emptied true n)).whole ≡ true
  pub full_levels : (n i s : ℕ) (ps : List ℕ) (k : Kept) → i < length k.books → PointsFit k.depth (full_points s ps) (emptied true n)
      → IsSomeAnd (book_of (suc i) (keeper_step (data_of n (full (suc i) s ps)) k).books) (AfterPoints (full_points s ps) (emptied true n))
  pub refresh_levels : (n i s : ℕ) (ps : List ℕ) (k : Kept) (b : Known) → book_of (suc i) k.books ≡ Some b → k.mark ≤ n → b.touched ≤ n → PointsFit k.depth (full_points s ps) (emptied true b.touched)
      → IsSomeAnd (book_of (suc i) (keeper_step (refresh_of n (full (suc i) s ps)) k).books) (AfterPoints (full_points s ps) (emptied true b.touched))
  pub delta_levels : (n i s : ℕ) (ps : List ℕ) (k : Kept) (b : Known) → InOrder k → book_of (suc i) k.books ≡ Some b → b.whole ≡ true → PointsFit k.depth (delta_points s ps) (touched_at n b)
      → IsSomeAnd (book_of (suc i) (keeper_step (data_of n (delta (suc i) s ps)) k).books) (AfterPoints (delta_points s ps) (touched_at n b))
