-- The two sides of a book.
use Rattle.std.proofs.Common.{◌≡◌, ℕ, Bool, true, false, eqb, leb, List, length, refl}
use Rattle.std.proofs.lemmas.Bool.{cond_both}
use Rattle.wire.specs.declared.point.Side.{Side}
use Rattle.wire.specs.declared.point.Side.TheVariants.{Buy, Sell}
use Rattle.rank.specs.Keys.{turned}
use Rattle.rank.specs.Rows.{Sorted}
use Rattle.rank.specs.Laws.{RowLaws}
use Rattle.rank.proofs.Lookups.{laws}
use Rattle.rank.proofs.Numbers.{rising_one, rising_transitive}
use Rattle.book_model.specs.declared.level.Level.{Level}
use Rattle.book_model.specs.declared.start.Start.{Start}
use Rattle.book_model.specs.declared.start.Start.TheVariants as start
use Rattle.book_model.specs.Levels.{price_of, before, changed}
use Rattle.book_model.specs.Entering.{Known, emptied, levels, with_levels, put, limited, begun}
use Rattle.book_model.specs.Laws.{Ordered}

-- the laws of the order of each side
pub side_laws : (s : Side) → RowLaws price_of (before s)
side_laws Buy = laws price_of (before Buy) (λ a b. turned (rising_one a b)) (λ a b c p q. rising_transitive c b a q p)
side_laws Sell = laws price_of (before Sell) rising_one rising_transitive

pub levels_with : (s : Side) (xs : List Level) (k : Known) → levels s (with_levels s xs k) ≡ xs
levels_with Buy xs k = refl
levels_with Sell xs k = refl

pub with_with : (s : Side) (xs ys : List Level) (k : Known) → with_levels s ys (with_levels s xs k) ≡ with_levels s ys k
with_with Buy xs ys k = refl
with_with Sell xs ys k = refl

pub whole_with : (s : Side) (xs : List Level) (k : Known) → (with_levels s xs k).whole ≡ k.whole
whole_with Buy xs k = refl
whole_with Sell xs k = refl

pub touched_with : (s : Side) (xs : List Level) (k : Known) → (with_levels s xs k).touched ≡ k.touched
touched_with Buy xs k = refl
touched_with Sell xs k = refl

-- sides in order stay so
pub changed_sorted : (s : Side) (l : Level) (xs : List Level) → Sorted price_of (before s) xs → Sorted price_of (before s) (changed price_of (before s) l xs)
changed_sorted s l xs o = cond_both (eqb l.volume 0) _ _ (Sorted price_of (before s)) (λ _. (side_laws s).without_sorted l.price xs o) (λ _. (side_laws s).inserted_sorted l xs o)

pub none_sorted : (w : Bool) (t : ℕ) → Ordered (emptied w t)
none_sorted w t Buy = tt
none_sorted w t Sell = tt

pub with_sorted : (s : Side) (xs : List Level) (b : Known) → Sorted price_of (before s) xs → Ordered b → Ordered (with_levels s xs b)
with_sorted Buy xs b x o Buy = x
with_sorted Buy xs b x o Sell = o Sell
with_sorted Sell xs b x o Buy = o Buy
with_sorted Sell xs b x o Sell = x

pub put_sorted : (s : Side) (l : Level) (b : Known) → Ordered b → Ordered (put s l b)
put_sorted s l b o = with_sorted s (changed price_of (before s) l (levels s b)) b (changed_sorted s l (levels s b) (o s)) o

pub limited_sorted : (d : ℕ) (s : Side) (l : Level) (b : Known) → Ordered b → Ordered (limited d s l b)
limited_sorted d s l b o = cond_both (leb (length (levels s (put s l b))) d) _ _ Ordered (λ _. put_sorted s l b o) (λ _. none_sorted false b.touched)

pub begun_sorted : (s : Start) (b : Known) → Ordered b → Ordered (begun s b)
begun_sorted (start.Full n) b o s = none_sorted true n s
begun_sorted (start.Delta n) b o Buy = o Buy
begun_sorted (start.Delta n) b o Sell = o Sell
begun_sorted (start.Refresh n) b o s = none_sorted true b.touched s
