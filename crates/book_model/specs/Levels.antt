-- The levels of one side of a book, in the order of their prices in billionths.
use Rattle.std.specs.Prelude.{ℕ, Bool, cond, List, ◌==◌, nat_lt}
use Rattle.rank.specs.Rows.{inserted, without}
use Rattle.wire.specs.declared.point.Side.{Side}
use Rattle.wire.specs.declared.point.Side.TheVariants.{Buy, Sell}
use Rattle.wire.specs.declared.point.PricePoint.{PricePoint}
use Rattle.wire.specs.Prices.{price}
use Rattle.book_model.specs.declared.level.Level.{Level}
use Rattle.book_model.specs.declared.level.Point.{Point}

-- a level's key
abbrev pub price_of : Level → ℕ
price_of l = l.price

-- buys have the higher price first, sells the lower
abbrev pub before : Side → ℕ → ℕ → Bool
before Buy a b = nat_lt b a
before Sell a b = nat_lt a b

-- one side after a level is told: a level of volume 0 removes the one of its price, another takes its place or is added
abbrev pub changed : (Level → ℕ) → (ℕ → ℕ → Bool) → Level → List Level → List Level
changed key before l xs = cond (l.volume == 0) (without key before (key l) xs) (inserted key before l xs)

-- the side and the level that a packet's point names, at the scale of its message
abbrev pub named : ℕ → PricePoint → Point
named scale p = record { side = p.side; level = record { price = price p.numerator scale; volume = p.volume; orders = p.orders } }
