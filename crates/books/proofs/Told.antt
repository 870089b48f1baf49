-- The tables once a side of the book at i is written, and once its row is.
use Rattle.std.proofs.Common.{◌≡◌, ℕ, suc, ◌*◌, ◌<◌, true, false, List, [], length, get_or, take, drop, set, replicate, sym, refl, ap, ◌∙◌, subst}
use Rattle.std.proofs.lemmas.List.{set-get_or}
use borrow.Rule.Slice.PartMut.{put_mid}
use Rattle.wire.specs.declared.point.Side.{Side}
use Rattle.wire.specs.declared.point.Side.TheVariants.{Buy, Sell}
use Rattle.rank.specs.Rows.{Sorted}
use Rattle.ladder.specs.Tables.{Holds}
use Rattle.book_model.specs.declared.level.Level.{Level}
use Rattle.book_model.specs.Levels.{price_of, before, changed}
use Rattle.book_model.specs.declared.start.Start.{Start}
use Rattle.book_model.specs.Entering.{Known, unknown, with_levels, limited, begun}
use Rattle.book_model.specs.Keepers.{changed_at}
use Rattle.book_model.specs.Laws.{Ordered}
use Rattle.book_model.proofs.Sides.{none_sorted, with_sorted, limited_sorted, begun_sorted}
use Rattle.book_model.proofs.Books.{all_none, one_of, all_changed}
use Rattle.books.specs.declared.book.Book.{Book}
use Rattle.books.specs.declared.book.BookRow.{BookRow}
use Rattle.books.specs.declared.tables.Tables.{Tables}
use Rattle.books.specs.Sizes.{tables_fit}
use Rattle.books.specs.Tabled.{known, blank, tabled, AllOrdered}
use Rattle.books.specs.Keepers.{tables_known}
use Rattle.books.proofs.Limits.{entered, lost}
use Rattle.books.proofs.Rows.{part_long, end_buys, end_sells, blanked, room, there, book_is, buys_put, sells_put}

-- tables of which nothing is known
pub blank_ordered : (d : ℕ) (bs cs : List BookRow) (xs ys : List Level) → cs ≡ replicate (length bs) blank → AllOrdered (tabled d cs xs ys)
blank_ordered d bs cs xs ys e = subst AllOrdered (sym (blanked d bs cs xs ys e)) (all_none Ordered (none_sorted false 0) _)

pub blank_known : (d : ℕ) (bs cs : List BookRow) (xs ys : List Level) → tables_fit bs xs ys d ≡ true → cs ≡ replicate (length bs) blank → tabled d cs xs ys ≡ replicate (length bs) unknown
blank_known d bs cs xs ys fits e = blanked d bs cs xs ys e ∙ ap (λ n. replicate n unknown) (room bs xs ys d fits)

-- tables in which one book of others is changed
pub limited_ordered : (t : Tables) (i : ℕ) (s : Side) (l : Level) (bs : List Known) → bs ≡ changed_at (suc i) (limited t.depth s l) (tables_known t) → AllOrdered bs
limited_ordered t i s l bs e = subst AllOrdered (sym e) (all_changed Ordered (none_sorted false 0) (suc i) (limited t.depth s l) (tables_known t) (limited_sorted t.depth s l) t.ordered)

pub laid_ordered : (t : Tables) (i : ℕ) (s : Side) (xs : List Level) (bs : List Known) → Sorted price_of (before s) xs → bs ≡ changed_at (suc i) (with_levels s xs) (tables_known t) → AllOrdered bs
laid_ordered t i s xs bs x e = subst AllOrdered (sym e) (all_changed Ordered (none_sorted false 0) (suc i) (with_levels s xs) (tables_known t) (λ b. with_sorted s xs b x) t.ordered)

pub begun_ordered : (t : Tables) (i : ℕ) (s : Start) (bs : List Known) → bs ≡ changed_at (suc i) (begun s) (tables_known t) → AllOrdered bs
begun_ordered t i s bs e = subst AllOrdered (sym e) (all_changed Ordered (none_sorted false 0) (suc i) (begun s) (tables_known t) (begun_sorted s) t.ordered)

module _ (t : Tables) (i : ℕ) (h : i < length t.books.now) (from w : ℕ) (at : from ≡ i * t.depth) (wide : w ≡ t.depth) where
  part : (xs : List Level) → take w (drop from xs) ≡ take t.depth (drop (i * t.depth) xs)
  part xs = ap (λ w. take w (drop from xs)) wide ∙ ap (λ n. take t.depth (drop n xs)) at

  pub buys_long : length (take w (drop from t.buys.now)) ≡ t.depth
  buys_long = ap length (part t.buys.now) ∙ part_long t.depth i t.buys.now (end_buys t.depth t.books.now t.buys.now t.sells.now i (there t i h))

  pub sells_long : length (take w (drop from t.sells.now)) ≡ t.depth
  sells_long = ap length (part t.sells.now) ∙ part_long t.depth i t.sells.now (end_sells t.depth t.books.now t.buys.now t.sells.now i (there t i h))

  -- the used rows of each side are in order
  pub buys_sorted : Sorted price_of (before Buy) (take (get_or t.books.now i blank).book.buys (take w (drop from t.buys.now)))
  buys_sorted =
      subst (Sorted price_of (before Buy)) (ap (λ k. k.buys) (book_is t i h blank) ∙ ap (take (get_or t.books.now i blank).book.buys) (sym (part t.buys.now)))
      (one_of Ordered (none_sorted false 0) (tables_known t) i t.ordered Buy)

  pub sells_sorted : Sorted price_of (before Sell) (take (get_or t.books.now i blank).book.sells (take w (drop from t.sells.now)))
  sells_sorted =
      subst (Sorted price_of (before Sell)) (ap (λ k. k.sells) (book_is t i h blank) ∙ ap (take (get_or t.books.now i blank).book.sells) (sym (part t.sells.now)))
      (one_of Ordered (none_sorted false 0) (tables_known t) i t.ordered Sell)

  -- a level is told to a side, which has room for it
  pub buys_told : (l : Level) (us : List Level) (used : ℕ) → length us ≡ length (take w (drop from t.buys.now)) → Holds us used (changed price_of (before Buy) l (take (get_or t.books.now i blank).book.buys (take w (drop from t.buys.now))))
      → tabled t.depth (set t.books.now i (record { book = record { whole = (get_or t.books.now i blank).book.whole; touched = (get_or t.books.now i blank).book.touched; buys = used; sells = (get_or t.books.now i blank).book.sells } })) (put_mid from w t.buys.now us) t.sells.now
      ≡ changed_at (suc i) (limited t.depth Buy l) (tables_known t)
  buys_told l us used long holds =
      let b = (get_or t.books.now i blank).book in
      let xs = take w (drop from t.buys.now) in
      let now : Book = record { whole = b.whole; touched = b.touched; buys = used; sells = b.sells } in
      buys_put t i h (record { book = now }) blank from w us (limited t.depth Buy l) at wide long
      (λ zs. entered t.depth Buy l (known b xs zs) (known now us zs) us used (length xs) buys_long long holds refl)

  pub sells_told : (l : Level) (us : List Level) (used : ℕ) → length us ≡ length (take w (drop from t.sells.now)) → Holds us used (changed price_of (before Sell) l (take (get_or t.books.now i blank).book.sells (take w (drop from t.sells.now))))
      → tabled t.depth (set t.books.now i (record { book = record { whole = (get_or t.books.now i blank).book.whole; touched = (get_or t.books.now i blank).book.touched; buys = (get_or t.books.now i blank).book.buys; sells = used } })) t.buys.now (put_mid from w t.sells.now us)
      ≡ changed_at (suc i) (limited t.depth Sell l) (tables_known t)
  sells_told l us used long holds =
      let b = (get_or t.books.now i blank).book in
      let xs = take w (drop from t.sells.now) in
      let now : Book = record { whole = b.whole; touched = b.touched; buys = b.buys; sells = used } in
      sells_put t i h (record { book = now }) blank from w us (limited t.depth Sell l) at wide long
      (λ zs. entered t.depth Sell l (known b zs xs) (known now zs us) us used (length xs) sells_long long holds refl)

  -- a level is told to a side that has no room for it
  pub buys_lost : (l : Level) (us : List Level) (now : Book) → now ≡ record { whole = false; touched = (get_or t.books.now i blank).book.touched; buys = 0; sells = 0 }
      → length us ≡ length (take w (drop from t.buys.now)) → length (take w (drop from t.buys.now)) < length (changed price_of (before Buy) l (take (get_or t.books.now i blank).book.buys (take w (drop from t.buys.now))))
      → tabled t.depth (set t.books.now i (record { book = now })) (put_mid from w t.buys.now us) t.sells.now ≡ changed_at (suc i) (limited t.depth Buy l) (tables_known t)
  buys_lost l us now e long full =
      let b = (get_or t.books.now i blank).book in
      let xs = take w (drop from t.buys.now) in
      buys_put t i h (record { book = now }) blank from w us (limited t.depth Buy l) at wide long
      (λ zs. lost t.depth Buy l (known b xs zs) (known now us zs) (length xs) buys_long full (ap (λ b. known b us zs) e))

  pub sells_lost : (l : Level) (us : List Level) (now : Book) → now ≡ record { whole = false; touched = (get_or t.books.now i blank).book.touched; buys = 0; sells = 0 }
      → length us ≡ length (take w (drop from t.sells.now)) → length (take w (drop from t.sells.now)) < length (changed price_of (before Sell) l (take (get_or t.books.now i blank).book.sells (take w (drop from t.sells.now))))
      → tabled t.depth (set t.books.now i (record { book = now })) t.buys.now (put_mid from w t.sells.now us) ≡ changed_at (suc i) (limited t.depth Sell l) (tables_known t)
  sells_lost l us now e long full =
      let b = (get_or t.books.now i blank).book in
      let xs = take w (drop from t.sells.now) in
      sells_put t i h (record { book = now }) blank from w us (limited t.depth Sell l) at wide long
      (λ zs. lost t.depth Sell l (known b zs xs) (known now zs us) (length xs) sells_long full (ap (λ b. known b zs us) e))

  -- rows are laid down on a side
  pub buys_laid : (s : Side) (us : List Level) (used : ℕ) → s ≡ Buy → length us ≡ length (take w (drop from t.buys.now))
      → tabled t.depth (set t.books.now i (record { book = record { whole = (get_or t.books.now i blank).book.whole; touched = (get_or t.books.now i blank).book.touched; buys = used; sells = (get_or t.books.now i blank).book.sells } })) (put_mid from w t.buys.now us) t.sells.now
      ≡ changed_at (suc i) (with_levels s (take used us)) (tables_known t)
  buys_laid s us used e long =
      buys_put t i h _ blank from w us (with_levels s (take used us)) at wide long
      (λ zs. ap (λ s. with_levels s (take used us) (known (get_or t.books.now i blank).book (take w (drop from t.buys.now)) zs)) (sym e))

  pub sells_laid : (s : Side) (us : List Level) (used : ℕ) → s ≡ Sell → length us ≡ length (take w (drop from t.sells.now))
      → tabled t.depth (set t.books.now i (record { book = record { whole = (get_or t.books.now i blank).book.whole; touched = (get_or t.books.now i blank).book.touched; buys = (get_or t.books.now i blank).book.buys; sells = used } })) t.buys.now (put_mid from w t.sells.now us)
      ≡ changed_at (suc i) (with_levels s (take used us)) (tables_known t)
  sells_laid s us used e long =
      sells_put t i h _ blank from w us (with_levels s (take used us)) at wide long
      (λ zs. ap (λ s. with_levels s (take used us) (known (get_or t.books.now i blank).book zs (take w (drop from t.sells.now)))) (sym e))

  -- rows are written of a side that has none in use
  pub buys_unused : (us : List Level) → (get_or t.books.now i blank).book.buys ≡ 0 → length us ≡ length (take w (drop from t.buys.now))
      → AllOrdered (tabled t.depth t.books.now (put_mid from w t.buys.now us) t.sells.now)
  buys_unused us none long =
      let b = (get_or t.books.now i blank).book in
      let same : set t.books.now i (record { book = record { whole = b.whole; touched = b.touched; buys = 0; sells = b.sells } }) ≡ t.books.now =
      ap (λ n. set t.books.now i (record { book = record { whole = b.whole; touched = b.touched; buys = n; sells = b.sells } })) (sym none) ∙ set-get_or t.books.now i blank in
      subst (λ bs. AllOrdered (tabled t.depth bs (put_mid from w t.buys.now us) t.sells.now)) same (laid_ordered t i Buy [] _ tt (buys_laid Buy us 0 refl long))

  pub sells_unused : (us : List Level) → (get_or t.books.now i blank).book.sells ≡ 0 → length us ≡ length (take w (drop from t.sells.now))
      → AllOrdered (tabled t.depth t.books.now t.buys.now (put_mid from w t.sells.now us))
  sells_unused us none long =
      let b = (get_or t.books.now i blank).book in
      let same : set t.books.now i (record { book = record { whole = b.whole; touched = b.touched; buys = b.buys; sells = 0 } }) ≡ t.books.now =
      ap (λ n. set t.books.now i (record { book = record { whole = b.whole; touched = b.touched; buys = b.buys; sells = n } })) (sym none) ∙ set-get_or t.books.now i blank in
      subst (λ bs. AllOrdered (tabled t.depth bs t.buys.now (put_mid from w t.sells.now us))) same (laid_ordered t i Sell [] _ tt (sells_laid Sell us 0 refl long))
