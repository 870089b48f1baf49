-- A keeper along an order: its whole books are the stream's.
use Rattle.std.proofs.Common.{◌≡◌, ℕ, zero, suc, ◌+◌, ◌<◌, ◌≤◌, Bool, true, false, cond, leb, ◌⊎◌, List, [], ◌∷◌, length, get_or, set, replicate, Some, None, Option, sym, refl, ap, ◌∙◌, subst, ⊎_elim, arith}
use Rattle.std.specs.List.{slice_get}
use Rattle.std.proofs.lemmas.Bool.{cond_both, cases_lt, ne_eqb, eq-eqb, leb-true, both_ways}
use Rattle.wire.specs.declared.point.Side.{Side}
use Rattle.wire.specs.declared.point.Side.TheVariants.{Buy, Sell}
use Rattle.wire.specs.Reading.{Msg, reset, unavailable, mapping, full, delta}
use Rattle.sink.specs.Events.{data_of, refresh_of}
use Rattle.book_model.specs.declared.level.Level.{Level}
use Rattle.book_model.specs.Levels.{price_of, before, changed}
use Rattle.book_model.specs.Entering.{Known, unknown, emptied, touched_at, levels, put, put_all, limited, filled, full_points, delta_points}
use Rattle.book_model.specs.Keepers.{Kept, book_of, changed_at, forgotten, keeper_step}
use Rattle.book_model.proofs.Sides.{touched_with}
use Rattle.order.specs.Machine.{turn}
use Rattle.order.proofs.Plain.{never}
use Rattle.order.specs.Books.{Sides, no_levels, sides_of, whole_book, full_entered, delta_entered, sent}

-- levels of equal books stay equal
put_same : (s : Side) (l : Level) (b c : Known) → sides_of b ≡ sides_of c → sides_of (put s l b) ≡ sides_of (put s l c)
put_same Buy l b c e = λ i. record { buys = changed price_of (before Buy) l (e i).buys; sells = (e i).sells }
put_same Sell l b c e = λ i. record { buys = (e i).buys; sells = changed price_of (before Sell) l (e i).sells }

put_all_same : (ps : _) (b c : Known) → sides_of b ≡ sides_of c → sides_of (put_all ps b) ≡ sides_of (put_all ps c)
put_all_same [] b c e = e
put_all_same (p ∷ ps) b c e = put_all_same ps (put p.side p.level b) (put p.side p.level c) (put_same p.side p.level b c e)

limited_touched : (d : ℕ) (s : Side) (l : Level) (b : Known) → (limited d s l b).touched ≡ b.touched
limited_touched d s l b =
    cond_both (leb (length (levels s (put s l b))) d) (put s l b) (emptied false b.touched) (λ x. x.touched ≡ b.touched) (λ _. touched_with s (changed price_of (before s) l (levels s b)) b) (λ _. refl)

-- a book's touch stays as its points come in
filled_touched : (d : ℕ) (ps : _) (b : Known) → (filled d ps b).touched ≡ b.touched
filled_touched d [] b = refl
filled_touched d (p ∷ ps) b =
    cond_both b.whole (filled d ps (limited d p.side p.level b)) b (λ x. x.touched ≡ b.touched)
    (λ _. filled_touched d ps (limited d p.side p.level b) ∙ limited_touched d p.side p.level b) (λ _. refl)

-- a level that found room
limited_whole : (d : ℕ) (s : Side) (l : Level) (b : Known) → (limited d s l b).whole ≡ true → limited d s l b ≡ put s l b
limited_whole d s l b w = go (leb (length (levels s (put s l b))) d) w
  where
    go : (t : Bool) → (cond t (put s l b) (emptied false b.touched)).whole ≡ true → cond t (put s l b) (emptied false b.touched) ≡ put s l b
    go true w = refl
    go false w = absurd (never (cc))

-- a book that is whole after its points was whole before, and has all of them
filled_whole : (d : ℕ) (ps : _) (b : Known) → (filled d ps b).whole ≡ true → (b.whole ≡ true) × (filled d ps b ≡ put_all ps b)
filled_whole d [] b w = (w, refl)
filled_whole d (p ∷ ps) b w = go b.whole refl (filled_whole d ps (limited d p.side p.level b)) w
  where
    go : (t : Bool) → b.whole ≡ t
        → ((filled d ps (limited d p.side p.level b)).whole ≡ true → ((limited d p.side p.level b).whole ≡ true) × (filled d ps (limited d p.side p.level b) ≡ put_all ps (limited d p.side p.level b)))
        → (cond t (filled d ps (limited d p.side p.level b)) b).whole ≡ true
        → (b.whole ≡ true) × (cond t (filled d ps (limited d p.side p.level b)) b ≡ put_all ps (put p.side p.level b))
    go true e ih v = let r = ih v in (e, r.1 ∙ ap (put_all ps) (limited_whole d p.side p.level b r.0))
    go false e ih v = absurd (both_ways b.whole e v)

-- a change of one book
nth_all : (P Q : ℕ → Known → Type 0) (j : ℕ) (f : Known → Known) (bs : List Known)
    → ((i : ℕ) (b : Known) → slice_get bs i ≡ Some b → P i b) → ((i : ℕ) (b : Known) → (i ≡ j → ⊥) → P i b → Q i b) → ((b : Known) → P j b → Q j (f b))
    → (i : ℕ) (b : Known) → slice_get (set bs j (f (get_or bs j unknown))) i ≡ Some b → Q i b
nth_all P Q j f [] all other here i b e = absurd (never (cc))
nth_all P Q zero f (x ∷ bs) all other here zero b e = let q : f x ≡ b = cc in subst (λ y. Q zero y) q (here x (all zero x refl))
nth_all P Q zero f (x ∷ bs) all other here (suc i) b e = other (suc i) b (λ z. omega arith) (all (suc i) b e)
nth_all P Q (suc j) f (x ∷ bs) all other here zero b e = other zero b (λ z. omega arith) (all zero b e)
nth_all P Q (suc j) f (x ∷ bs) all other here (suc i) b e =
    nth_all (λ n. P (suc n)) (λ n. Q (suc n)) j f bs (λ n. all (suc n)) (λ n y ne. other (suc n) y (λ z. ne (omega arith))) here i b e

book_all : (P Q : ℕ → Known → Type 0) (j : ℕ) (f : Known → Known) (bs : List Known)
    → ((i : ℕ) (b : Known) → book_of i bs ≡ Some b → P i b) → ((i : ℕ) (b : Known) → (i ≡ j → ⊥) → P i b → Q i b) → ((b : Known) → P j b → Q j (f b))
    → (i : ℕ) (b : Known) → book_of i (changed_at j f bs) ≡ Some b → Q i b
book_all P Q zero f bs all other here zero b e = absurd (never (cc))
book_all P Q zero f bs all other here (suc i) b e = other (suc i) b (λ z. omega arith) (all (suc i) b e)
book_all P Q (suc j) f bs all other here zero b e = absurd (never (cc))
book_all P Q (suc j) f bs all other here (suc i) b e =
    nth_all (λ n. P (suc n)) (λ n. Q (suc n)) j f bs (λ n. all (suc n)) (λ n y ne. other (suc n) y (λ z. ne (omega arith))) here i b e

nth_forgotten : (k i : ℕ) (b : Known) → slice_get (replicate k unknown) i ≡ Some b → b ≡ unknown
nth_forgotten zero i b e = absurd (never (cc))
nth_forgotten (suc k) zero b e = cc
nth_forgotten (suc k) (suc i) b e = nth_forgotten k i b e

book_forgotten : (k i : ℕ) (b : Known) → book_of i (replicate k unknown) ≡ Some b → b ≡ unknown
book_forgotten k zero b e = absurd (never (cc))
book_forgotten k (suc i) b e = nth_forgotten k i b e

-- What holds of a book of index `i` after number `l`, where `S n i` is the stream's book after number `n`:
-- if whole, it is the stream's; and the stream's has not changed since the book was touched or all was forgotten.
pub record Good (S : ℕ → ℕ → Sides) (l mark i : ℕ) (b : Known) : Type 0 where
  pub right : b.whole ≡ true → sides_of b ≡ S l i
  pub still : (n : ℕ) → b.touched ≤ n → mark ≤ n → n ≤ l → S n i ≡ S l i

pub record Keeps (S : ℕ → ℕ → Sides) (s l : ℕ) (k : Kept) : Type 0 where
  pub marked : s ≤ k.mark + 1
  pub good : (i : ℕ) (b : Known) → book_of i k.books ≡ Some b → Good S l k.mark i b

module _ (S : ℕ → ℕ → Sides) where
  good_same : (l mark i : ℕ) (b : Known) → S (l + 1) i ≡ S l i → Good S l mark i b → Good S (l + 1) mark i b
  good_same l mark i b e g = record {
    right = λ w. g.right w ∙ sym e;
    still = λ n x y z. ⊎_elim
        (λ u. g.still n x y (omega arith) ∙ sym e)
        (λ u. let q : n ≡ l + 1 = omega arith in ap (λ j. S j i) q)
        (cases_lt n (l + 1));
  }

  -- a book touched at `l`, or forgotten at `l`
  good_touched : (l mark i : ℕ) (b : Known) → b.touched ≡ l → (b.whole ≡ true → sides_of b ≡ S l i) → Good S l mark i b
  good_touched l mark i b t r = record { right = r; still = λ n x y z. let q : n ≡ l = omega arith in ap (λ j. S j i) q }

  good_forgotten : (l i : ℕ) (b : Known) → b ≡ unknown → Good S l l i b
  good_forgotten l i b e = record {
    right = λ w. absurd (both_ways b.whole (ap (λ (x : Known). x.whole) e) w);
    still = λ n x y z. let q : n ≡ l = omega arith in ap (λ j. S j i) q;
  }

  pub kept_forgotten : (s l : ℕ) (k : Kept) → s ≤ l + 1 → Keeps S s l (forgotten l k)
  kept_forgotten s l k h = record { marked = h; good = λ i b e. good_forgotten l i b (book_forgotten (length k.books) i b e) }

  kept_same : (s l : ℕ) (k : Kept) → ((i : ℕ) → S (l + 1) i ≡ S l i) → Keeps S s l k → Keeps S s (l + 1) k
  kept_same s l k next kept = record { marked = kept.marked; good = λ i b e. good_same l k.mark i b (next i) (kept.good i b e) }

  kept_data : (s l : ℕ) (k : Kept) (m : Msg) → ((i : ℕ) → S (l + 1) i ≡ sent m i (S l i)) → Keeps S s l k → Keeps S s (l + 1) (keeper_step (data_of (l + 1) m) k)
  kept_data s l k (reset n) next kept = kept_same s l k next kept
  kept_data s l k (unavailable b e) next kept = kept_same s l k next kept
  kept_data s l k mapping next kept = kept_same s l k next kept
  kept_data s l k (full j c ps) next kept =
      let made = filled k.depth (full_points c ps) (emptied true (l + 1)) in
      record {
        marked = kept.marked;
        good = book_all (Good S l k.mark) (Good S (l + 1) k.mark) j (λ b. made) k.books kept.good
            (λ i b ne g. good_same l k.mark i b (next i ∙ ap (λ t. cond t (full_entered c ps) (S l i)) (ne_eqb i j ne)) g)
            (λ b g. good_touched (l + 1) k.mark j made (filled_touched k.depth (full_points c ps) (emptied true (l + 1)))
            (λ w.
            ap sides_of (filled_whole k.depth (full_points c ps) (emptied true (l + 1)) w).1
            ∙ put_all_same (full_points c ps) (emptied true (l + 1)) (whole_book no_levels) refl
            ∙ sym (next j ∙ ap (λ t. cond t (full_entered c ps) (S l j)) (eq-eqb j j refl))));
      }
  kept_data s l k (delta j c ps) next kept = record {
    marked = kept.marked;
    good = book_all (Good S l k.mark) (Good S (l + 1) k.mark) j (λ b. filled k.depth (delta_points c ps) (touched_at (l + 1) b)) k.books kept.good
        (λ i b ne g. good_same l k.mark i b (next i ∙ ap (λ t. cond t (delta_entered c ps (S l i)) (S l i)) (ne_eqb i j ne)) g)
        (λ b g. good_touched (l + 1) k.mark j (filled k.depth (delta_points c ps) (touched_at (l + 1) b)) (filled_touched k.depth (delta_points c ps) (touched_at (l + 1) b))
        (λ w.
        let r = filled_whole k.depth (delta_points c ps) (touched_at (l + 1) b) w in
        ap sides_of r.1
        ∙ put_all_same (delta_points c ps) (touched_at (l + 1) b) (whole_book (sides_of b)) refl
        ∙ ap (delta_entered c ps) (g.right r.0)
        ∙ sym (next j ∙ ap (λ t. cond t (delta_entered c ps (S l j)) (S l j)) (eq-eqb j j refl))));
  }

  pub kept_turn : (s l : ℕ) (k : Kept) (o : Option Msg) → s ≤ l + 1 → ((x : Msg) → o ≡ Some x → (i : ℕ) → S (l + 1) i ≡ sent x i (S l i)) → Keeps S s l k
      → Keeps S s (l + 1) (keeper_step (turn (l + 1) o) k)
  kept_turn s l k None h next kept = kept_forgotten s (l + 1) k (omega arith)
  kept_turn s l k (Some x) h next kept = kept_data s l k x (next x refl) kept

  pub kept_refresh : (s l : ℕ) (k : Kept) (n j c : ℕ) (ps : List ℕ) → n ≤ l → (n + 1 < s) ⊎ (full_entered c ps ≡ S n j) → Keeps S s l k
      → Keeps S s l (keeper_step (refresh_of n (full j c ps)) k)
  kept_refresh s l k n j c ps h true_to kept =
      let f : Known → Known = λ b. cond (leb b.touched n) (filled k.depth (full_points c ps) (emptied true b.touched)) b in
      cond_both (leb k.mark n) (record { depth = k.depth; mark = k.mark; books = changed_at j f k.books }) k (Keeps S s l)
      (λ e.
      let u = leb-true k.mark n e in
      let v = kept.marked in
      record {
        marked = kept.marked;
        good = book_all (Good S l k.mark) (Good S l k.mark) j f k.books kept.good
            (λ i b ne g. g)
            (λ b g. cond_both (leb b.touched n) (filled k.depth (full_points c ps) (emptied true b.touched)) b (Good S l k.mark j)
            (λ z.
            let t = leb-true b.touched n z in
            let q = filled_touched k.depth (full_points c ps) (emptied true b.touched) in
            record {
              right = λ w.
                  ap sides_of (filled_whole k.depth (full_points c ps) (emptied true b.touched) w).1
                  ∙ put_all_same (full_points c ps) (emptied true b.touched) (whole_book no_levels) refl
                  ∙ ⊎_elim (λ early. absurd (omega arith)) (λ same. same ∙ g.still n t u h) true_to;
              still = λ p x y z. g.still p (omega arith) y z;
            })
            (λ z. g));
      })
      (λ e. kept)
