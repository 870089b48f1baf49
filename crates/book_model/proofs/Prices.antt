-- What each price of a book in order has after points.
use Rattle.std.proofs.Common.{◌≡◌, ℕ, true, false, cond, ◌&&◌, eqb, List, [], ◌∷◌, Some, None, Option, sym, ap, ◌∙◌, refl, ⊎_elim}
use Rattle.std.specs.Option.{option_or}
use Rattle.std.proofs.lemmas.Bool.{cond_both, cases_eq, eq-eqb, ne_eqb}
use Rattle.wire.specs.declared.point.Side.{Side}
use Rattle.wire.specs.declared.point.Side.TheVariants.{Buy, Sell}
use Rattle.rank.specs.Rows.{Sorted, inserted, without, kept}
use Rattle.book_model.specs.declared.level.Level.{Level}
use Rattle.book_model.specs.declared.level.Point.{Point}
use Rattle.book_model.specs.Levels.{price_of, before, changed}
use Rattle.book_model.specs.Entering.{Known, put, put_all}
use Rattle.book_model.specs.Laws.{Ordered, level_at, same_side, last_named, level_after}
use Rattle.book_model.proofs.Sides.{side_laws, put_sorted}

-- one point and then those behind it, and all at once
both_after : (o p was : Option Level) → level_after o (level_after p was) ≡ level_after (option_or o p) was
both_after None p was = refl
both_after (Some l) p was = refl

-- a price of a side after a level is told to it
module _ (s : Side) (price : ℕ) (l : Level) (xs : List Level) (o : Sorted price_of (before s) xs) where
  here : price ≡ l.price → kept price_of (before s) price (changed price_of (before s) l xs) ≡ cond (eqb l.volume 0) None (Some l)
  here e =
      ap (λ k. kept price_of (before s) k (changed price_of (before s) l xs)) e
      ∙ elim (eqb l.volume 0) as (λ b. kept price_of (before s) l.price (cond b (without price_of (before s) l.price xs) (inserted price_of (before s) l xs)) ≡ cond b None (Some l)) [
        | true ↦ (side_laws s).without_gone l.price xs o
        | false ↦ (side_laws s).inserted_there l xs
      ]

  there : (price ≡ l.price → ⊥) → kept price_of (before s) price (changed price_of (before s) l xs) ≡ kept price_of (before s) price xs
  there n =
      cond_both (eqb l.volume 0) _ _ (λ ys. kept price_of (before s) price ys ≡ kept price_of (before s) price xs)
      (λ _. (side_laws s).without_others l.price price xs n o)
      (λ _. (side_laws s).inserted_others l price xs n)

  price_after : kept price_of (before s) price (changed price_of (before s) l xs) ≡ level_after (cond (eqb price l.price) (Some l) None) (kept price_of (before s) price xs)
  price_after =
      let was = kept price_of (before s) price xs in
      ⊎_elim
      (λ e. here e ∙ sym (ap (λ b. level_after (cond b (Some l) None) was) (eq-eqb price l.price e)))
      (λ n. there n ∙ sym (ap (λ b. level_after (cond b (Some l) None) was) (ne_eqb price l.price n)))
      (cases_eq price l.price)

put_after : (s t : Side) (price : ℕ) (l : Level) (b : Known) → Ordered b → level_at s price (put t l b) ≡ level_after (cond (same_side s t && eqb price l.price) (Some l) None) (level_at s price b)
put_after Buy Buy price l b o = price_after Buy price l b.buys (o Buy)
put_after Buy Sell price l b o = refl
put_after Sell Buy price l b o = refl
put_after Sell Sell price l b o = price_after Sell price l b.sells (o Sell)

-- a price of a side after all points
pub all_after : (ps : List Point) (b : Known) → Ordered b → (s : Side) (price : ℕ) → level_at s price (put_all ps b) ≡ level_after (last_named s price ps) (level_at s price b)
all_after [] b o s price = refl
all_after (p ∷ ps) b o s price =
    all_after ps (put p.side p.level b) (put_sorted p.side p.level b o) s price
    ∙ ap (level_after (last_named s price ps)) (put_after s p.side price p.level b o)
    ∙ both_after (last_named s price ps) _ (level_at s price b)
