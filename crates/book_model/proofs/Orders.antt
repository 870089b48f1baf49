-- The laws of a keeper.
use Rattle.std.proofs.Common.{◌≡◌, ℕ, zero, suc, ◌<◌, ◌≤◌, Bool, true, false, leb, List, [], ◌∷◌, length, get_or, set, Some, Option, IsSomeAnd, sym, refl, ap, ◌∙◌, subst, arith}
use Rattle.std.specs.List.{slice_get}
use Rattle.std.proofs.lemmas.Bool.{cond_both, cond-true, leb-true, le-leb}
use Rattle.wire.specs.declared.point.Side.{Side}
use Rattle.wire.specs.declared.point.Side.TheVariants.{Buy, Sell}
use Rattle.wire.specs.Reading.{reset, unavailable, mapping, full, delta}
use Rattle.sink.specs.Events.{Event, data_of, loss_of, refresh_of, restart_of}
use Rattle.book_model.specs.declared.level.Level.{Level}
use Rattle.book_model.specs.declared.level.Point.{Point}
use Rattle.book_model.specs.declared.start.Start.{Start}
use Rattle.book_model.specs.declared.start.Start.TheVariants as start
use Rattle.book_model.specs.Levels.{price_of, before, changed}
use Rattle.book_model.specs.Entering.{Known, unknown, emptied, touched_at, levels, put, put_all, limited, filled, begun, taken, told, full_points, delta_points}
use Rattle.book_model.specs.Keepers.{Kept, keeper_step, heard, book_of}
use Rattle.book_model.specs.Laws.{Ordered, BothLaddered, InOrder, PointsFit, AfterPoints, Keeping}
use Rattle.book_model.proofs.Sides.{whole_with, touched_with, changed_sorted, none_sorted, begun_sorted}
use Rattle.book_model.proofs.Books.{all_none, one_of, all_changed}
use Rattle.book_model.proofs.Prices.{all_after}

none : (d : ℕ) (w : Bool) (t : ℕ) → BothLaddered d (emptied w t)
none d w t Buy = record { sorted = tt; few = omega arith }
none d w t Sell = record { sorted = tt; few = omega arith }

-- what a put leaves
put_whole : (s : Side) (l : Level) (b : Known) → (put s l b).whole ≡ b.whole
put_whole s l b = whole_with s (changed price_of (before s) l (levels s b)) b

all_whole : (ps : List Point) (b : Known) → (put_all ps b).whole ≡ b.whole
all_whole [] b = refl
all_whole (p ∷ ps) b = all_whole ps (put p.side p.level b) ∙ put_whole p.side p.level b

all_touched : (ps : List Point) (b : Known) → (put_all ps b).touched ≡ b.touched
all_touched [] b = refl
all_touched (p ∷ ps) b = all_touched ps (put p.side p.level b) ∙ touched_with p.side (changed price_of (before p.side) p.level (levels p.side b)) b

-- points that fit
filled_fit : (d : ℕ) (ps : List Point) (b : Known) → b.whole ≡ true → PointsFit d ps b → filled d ps b ≡ put_all ps b
filled_fit d [] b w f = refl
filled_fit d (p ∷ ps) b w f =
    let next = put p.side p.level b in
    let one : limited d p.side p.level b ≡ next = rw (le-leb (length (levels p.side next)) d f.0) refl in
    cond-true b.whole _ _ w ∙ ap (filled d ps) one ∙ filled_fit d ps next (put_whole p.side p.level b ∙ w) f.1

nth_set : {X : Type 0} (xs : List X) (i : ℕ) (y : X) → i < length xs → slice_get (set xs i y) i ≡ Some y
nth_set [] i y h = absurd (omega arith)
nth_set (x ∷ xs) zero y h = refl
nth_set (x ∷ xs) (suc i) y h = nth_set xs i y (omega arith)

nth_some : {X : Type 0} (xs : List X) (i : ℕ) (d y : X) → slice_get xs i ≡ Some y → (i < length xs) × (get_or xs i d ≡ y)
nth_some [] i d y e = let z : ◌≡◌ {A = ℕ} 0 1 = cc in absurd (omega arith)
nth_some (x ∷ xs) zero d y e = (omega arith, cc)
nth_some (x ∷ xs) (suc i) d y e = let h = nth_some xs i d y e in (omega (arith, h.0), h.1)

-- a message that is taken by a book, whose points fit
heard_fit : (i : ℕ) (s : Start) (ps : List Point) (k : Kept) (b : Known) → book_of (suc i) k.books ≡ Some b → taken s b ≡ true → (begun s b).whole ≡ true → PointsFit k.depth ps (begun s b)
    → book_of (suc i) (heard (suc i) s ps k).books ≡ Some (put_all ps (begun s b))
heard_fit i s ps k b e t w f =
    let at = nth_some k.books i unknown b e in
    nth_set k.books i _ at.0
    ∙ ap (λ b. Some (told k.depth s ps b)) at.1
    ∙ ap (λ b. Some b) (cond-true (taken s b) _ _ t ∙ filled_fit k.depth ps (begun s b) w f)

is_some_and : {X : Type 0} (P : X → Type 0) (o : Option X) (x : X) → o ≡ Some x → P x → IsSomeAnd o P
is_some_and P o x e p = subst (λ o. IsSomeAnd o P) (sym e) p

module _ (d : ℕ) where
  put_ordered : (s : Side) (l : Level) (b : Known) → length (levels s (put s l b)) ≤ d → BothLaddered d b → BothLaddered d (put s l b)
  put_ordered Buy l b h o Buy = record { sorted = changed_sorted Buy l b.buys (o Buy).sorted; few = h }
  put_ordered Buy l b h o Sell = record { sorted = (o Sell).sorted; few = (o Sell).few }
  put_ordered Sell l b h o Buy = record { sorted = (o Buy).sorted; few = (o Buy).few }
  put_ordered Sell l b h o Sell = record { sorted = changed_sorted Sell l b.sells (o Sell).sorted; few = h }

  limited_ordered : (s : Side) (l : Level) (b : Known) → BothLaddered d b → BothLaddered d (limited d s l b)
  limited_ordered s l b o =
      cond_both (leb (length (levels s (put s l b))) d) _ _ (BothLaddered d) (λ e. put_ordered s l b (leb-true _ d e) o) (λ _. none d false b.touched)

  filled_ordered : (ps : List Point) (b : Known) → BothLaddered d b → BothLaddered d (filled d ps b)
  filled_ordered [] b o = o
  filled_ordered (p ∷ ps) b o = cond_both b.whole _ _ (BothLaddered d) (λ _. filled_ordered ps _ (limited_ordered p.side p.level b o)) (λ _. o)

  begun_ordered : (s : Start) (b : Known) → BothLaddered d b → BothLaddered d (begun s b)
  begun_ordered (start.Full n) b o s = none d true n s
  begun_ordered (start.Delta n) b o Buy = record { sorted = (o Buy).sorted; few = (o Buy).few }
  begun_ordered (start.Delta n) b o Sell = record { sorted = (o Sell).sorted; few = (o Sell).few }
  begun_ordered (start.Refresh n) b o s = none d true b.touched s

  told_ordered : (s : Start) (ps : List Point) (b : Known) → BothLaddered d b → BothLaddered d (told d s ps b)
  told_ordered s ps b o = cond_both (taken s b) _ _ (BothLaddered d) (λ _. filled_ordered ps (begun s b) (begun_ordered s b o)) (λ _. o)

heard_ordered : (i : ℕ) (s : Start) (ps : List Point) (k : Kept) → InOrder k → InOrder (heard i s ps k)
heard_ordered i s ps k o = record { all = all_changed (BothLaddered k.depth) (none k.depth false 0) i (told k.depth s ps) k.books (told_ordered k.depth s ps) o.all }

order : (e : Event) (k : Kept) → InOrder k → InOrder (keeper_step e k)
order (data_of n (full i s ps)) k o = heard_ordered i (start.Full n) (full_points s ps) k o
order (data_of n (delta i s ps)) k o = heard_ordered i (start.Delta n) (delta_points s ps) k o
order (data_of n (reset m)) k o = o
order (data_of n (unavailable b e)) k o = o
order (data_of n mapping) k o = o
order (loss_of n) k o = record { all = all_none (BothLaddered k.depth) (none k.depth false 0) (length k.books) }
order (refresh_of n (full i s ps)) k o = cond_both (leb k.mark n) _ _ InOrder (λ _. heard_ordered i (start.Refresh n) (full_points s ps) k o) (λ _. o)
order (refresh_of n (delta i s ps)) k o = o
order (refresh_of n (reset m)) k o = o
order (refresh_of n (unavailable b e)) k o = o
order (refresh_of n mapping) k o = o
order (restart_of n) k o = record { all = all_none (BothLaddered k.depth) (none k.depth false 0) (length k.books) }

after_all : (ps : List Point) (b : Known) → Ordered b → AfterPoints ps b (put_all ps b)
after_all ps b o = record { whole = all_whole ps b; touched = all_touched ps b; each = all_after ps b o }

full_is : (n i s : ℕ) (ps : List ℕ) (k : Kept) → i < length k.books → PointsFit k.depth (full_points s ps) (emptied true n)
    → book_of (suc i) (keeper_step (data_of n (full (suc i) s ps)) k).books ≡ Some (put_all (full_points s ps) (emptied true n))
full_is n i s ps k h f = nth_set k.books i _ h ∙ ap (λ b. Some b) (filled_fit k.depth (full_points s ps) (emptied true n) refl f)

refresh_is : (n i s : ℕ) (ps : List ℕ) (k : Kept) (b : Known) → book_of (suc i) k.books ≡ Some b → k.mark ≤ n → b.touched ≤ n → PointsFit k.depth (full_points s ps) (emptied true b.touched)
    → book_of (suc i) (keeper_step (refresh_of n (full (suc i) s ps)) k).books ≡ Some (put_all (full_points s ps) (emptied true b.touched))
refresh_is n i s ps k b e m t f =
    ap (λ k. book_of (suc i) k.books) (cond-true (leb k.mark n) (heard (suc i) (start.Refresh n) (full_points s ps) k) k (le-leb k.mark n m))
    ∙ heard_fit i (start.Refresh n) (full_points s ps) k b e (le-leb b.touched n t) refl f

pub keeps : Keeping
keeps =
    record {
      begins = λ d n. record { all = all_none (BothLaddered d) (none d false 0) n };
      order = order;
      full_known = full_is;
      refresh_known = refresh_is;
      whole = λ ps n. all_whole ps (emptied true n);
      full_levels = λ n i s ps k h f. is_some_and _ _ _ (full_is n i s ps k h f) (after_all (full_points s ps) (emptied true n) (none_sorted true n));
      refresh_levels = λ n i s ps k b e m t f. is_some_and _ _ _ (refresh_is n i s ps k b e m t f) (after_all (full_points s ps) (emptied true b.touched) (none_sorted true b.touched));
      delta_levels = λ n i s ps k b o e w f.
          let at = nth_some k.books i unknown b e in
          let both = subst (BothLaddered k.depth) at.1 (one_of (BothLaddered k.depth) (none k.depth false 0) k.books i o.all) in
          is_some_and _ _ _ (heard_fit i (start.Delta n) (delta_points s ps) k b e refl w f) (after_all (delta_points s ps) (touched_at n b) (begun_sorted (start.Delta n) b (λ s. (both s).sorted)));
    }
