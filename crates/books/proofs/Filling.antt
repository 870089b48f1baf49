-- The points of a message, one after another, told to the book at i.
use Rattle.std.proofs.Common.{◌≡◌, ℕ, suc, ◌<◌, true, false, List, [], ◌∷◌, length, get_or, set, sym, refl, ap, ◌∙◌, arith}
use Rattle.std.proofs.lemmas.List.{set-set, set-get_or, get_or-set_same, length-set}
use Rattle.book_model.specs.declared.level.Point.{Point}
use Rattle.books.specs.declared.tables.Tables.{Tables}
use Rattle.book_model.specs.Entering.{Known, unknown, limited, filled, taken, begun, told}
use Rattle.book_model.specs.Keepers.{changed_at}
use Rattle.books.specs.Tabled.{known, blank, tabled}
use Rattle.books.specs.Keepers.{tables_known, Spot}
use Rattle.books.specs.Laying.{Leaves}
use Rattle.std.proofs.lemmas.Bool.{cond-true, cond-false}
use Rattle.book_model.specs.declared.level.Level.{Level}
use Rattle.books.specs.declared.book.Book.{Book}
use Rattle.book_model.specs.declared.start.Start.{Start}
use Rattle.books.proofs.Rows.{rooms, book_is, row_put}

-- points do nothing to a book that is not whole
not_whole : (d : ℕ) (ps : List Point) (b : Known) → b.whole ≡ false → filled d ps b ≡ b
not_whole d [] b e = refl
not_whole d (p ∷ ps) b e = rw e refl

-- a change that leaves the book at i as it is
kept : (ks : List Known) (i : ℕ) (f : Known → Known) → f (get_or ks i unknown) ≡ get_or ks i unknown → changed_at (suc i) f ks ≡ ks
kept ks i f e = ap (set ks i) e ∙ set-get_or ks i unknown

-- a place among the books stays one
pub among : (t u : Tables) (i : ℕ) (a b : Known) → set (tables_known t) i a ≡ set (tables_known u) i b → i < length u.books.now → i < length t.books.now
among t u i a b e h = omega (arith, h, rooms t, rooms u, length-set (tables_known t) i a, length-set (tables_known u) i b, ap length e)

module _ (t : Tables) (i : ℕ) (h : i < length t.books.now) where
  pub stops : (ps : List Point) → (get_or t.books.now i blank).book.whole ≡ false → changed_at (suc i) (filled t.depth ps) (tables_known t) ≡ tables_known t
  stops ps e = kept (tables_known t) i (filled t.depth ps) (not_whole t.depth ps _ (ap (λ b. b.whole) (book_is t i h blank) ∙ e))

  pub goes_on : (u : Tables) (p : Point) (ps : List Point) → (get_or t.books.now i blank).book.whole ≡ true → tables_known u ≡ changed_at (suc i) (limited t.depth p.side p.level) (tables_known t)
      → changed_at (suc i) (filled t.depth ps) (tables_known u) ≡ changed_at (suc i) (filled t.depth (p ∷ ps)) (tables_known t)
  goes_on u p ps w e =
      let ks = tables_known t in
      let k = get_or ks i unknown in
      let next = limited t.depth p.side p.level k in
      let whole : k.whole ≡ true = ap (λ b. b.whole) (book_is t i h blank) ∙ w in
      let lt : i < length ks = omega (arith, h, rooms t) in
      ap (changed_at (suc i) (filled t.depth ps)) e
      ∙ set-set ks i next _
      ∙ ap (set ks i) (ap (filled t.depth ps) (get_or-set_same ks i next unknown lt) ∙ sym (rw whole refl))

  -- a change of the book after which the points qs do what ps did before
  pub leaves : (u : Tables) (f : Known → Known) (ps qs : List Point) → u.depth ≡ t.depth → tables_known u ≡ changed_at (suc i) f (tables_known t)
      → filled t.depth ps (get_or (tables_known t) i unknown) ≡ filled t.depth qs (f (get_or (tables_known t) i unknown)) → Leaves t u i ps qs
  leaves u f ps qs d e q =
      let ks = tables_known t in
      let k = get_or ks i unknown in
      let lt : i < length ks = omega (arith, h, rooms t) in
      record {
        depth = d;
        told = ap (changed_at (suc i) (filled t.depth qs)) e ∙ set-set ks i (f k) _ ∙ ap (set ks i) (ap (filled t.depth qs) (get_or-set_same ks i (f k) unknown lt) ∙ sym q);
      }

-- a place among the books stays one
pub leaves_among : (t u : Tables) (i : ℕ) (ps qs : List Point) → Leaves t u i ps qs → i < length t.books.now → i < length u.books.now
leaves_among t u i ps qs l h = among u t i _ _ l.told h

-- one change after another
pub leaves_both : (t u v : Tables) (i : ℕ) (ps qs rs : List Point) → Leaves t u i ps qs → Leaves u v i qs rs → Leaves t v i ps rs
leaves_both t u v i ps qs rs a b =
    record {
      depth = b.depth ∙ a.depth;
      told = ap (λ d. changed_at (suc i) (filled d rs) (tables_known v)) (sym a.depth) ∙ b.told ∙ ap (λ d. changed_at (suc i) (filled d qs) (tables_known u)) a.depth ∙ a.told;
    }

-- a message to the book with the number n, which is at i, with its row as it was
module _ (t : Tables) (n i : ℕ) (spot : Spot t n i) (s : Start) (ps : List Point) where
  lt : i < length t.books.now
  lt = spot.in_books

  to : (f : Known → Known) → changed_at n f (tables_known t) ≡ changed_at (suc i) f (tables_known t)
  to f = ap (λ n. changed_at n f (tables_known t)) spot.next

  pub untaken : ((xs ys : List Level) → taken s (known (get_or t.books.now i blank).book xs ys) ≡ false) → tables_known t ≡ changed_at n (told t.depth s ps) (tables_known t)
  untaken e = sym (to (told t.depth s ps) ∙ kept (tables_known t) i (told t.depth s ps) (cond-false _ _ _ (ap (taken s) (book_is t i lt blank) ∙ e _ _)))

  pub tells : (b : Book) → ((xs ys : List Level) → (taken s (known (get_or t.books.now i blank).book xs ys) ≡ true) × (known b xs ys ≡ begun s (known (get_or t.books.now i blank).book xs ys)))
      → changed_at (suc i) (filled t.depth ps) (tabled t.depth (set t.books.now i (record { book = b })) t.buys.now t.sells.now) ≡ changed_at n (told t.depth s ps) (tables_known t)
  tells b e =
      let ks = tables_known t in
      let k = get_or ks i unknown in
      let taken : taken s k ≡ true = ap (taken s) (book_is t i lt blank) ∙ (e _ _).0 in
      ap (changed_at (suc i) (filled t.depth ps)) (row_put t i lt (record { book = b }) blank (begun s) (λ xs ys. (e xs ys).1))
      ∙ set-set ks i (begun s k) _
      ∙ ap (set ks i) (ap (filled t.depth ps) (get_or-set_same ks i (begun s k) unknown spot.among) ∙ sym (cond-true _ _ _ taken))
      ∙ sym (to (told t.depth s ps))
