-- A book among the others.
use Rattle.std.proofs.Common.{◌≡◌, ℕ, zero, suc, ◌+◌, ◌-◌, ◌*◌, ◌/◌, ◌<◌, ◌≤◌, min, List, [], ◌∷◌, length, get_or, take, drop, set, replicate, Some, true, false, ltb, sym, refl, ap, ◌∙◌, le-div_iff_mul-le, div-mul-le_self, arith, rules}
use borrow.Rule.Slice.PartMut.{put_mid}
use Rattle.std.proofs.lemmas.Option.{slice_get-get_or, slice_get_past}
use Rattle.std.proofs.lemmas.List.{same_lists, places, set_past, set-get_or, length-take, length-take-le, length-drop}
use Rattle.book_model.specs.declared.level.Level.{Level}
use Rattle.book_model.specs.Entering.{Known, unknown}
use Rattle.book_model.specs.Keepers.{changed_at, book_of}
use Rattle.books.specs.declared.book.BookRow.{BookRow}
use Rattle.books.specs.declared.tables.Tables.{Tables}
use Rattle.books.specs.declared.tables.TheConstants.{MOST_DEPTH}
use Rattle.std.specs.Prelude.{MatchOption}
use Rattle.std.specs.Bool.{then_some}
use Rattle.std.proofs.lemmas.Bool.{ltb-true, ltb-false}
use Rattle.books.specs.Sizes.{tables_fit}
use Rattle.books.specs.Tabled.{known, blank, cut, each_known, tabled}
use Rattle.books.specs.Keepers.{tables_known, shown, Spot, Nowhere}
use Rattle.books.proofs.Parts.{part_end, length_parts, parts_get, cut_put}

length_known : (bs : List BookRow) (xs : List (List Level)) (ys : List (List Level)) → length (each_known bs xs ys) ≡ min (min (length bs) (length xs)) (length ys)
length_known [] xs ys = omega arith
length_known (b ∷ bs) [] ys = omega arith
length_known (b ∷ bs) (x ∷ xs) [] = omega arith
length_known (b ∷ bs) (x ∷ xs) (y ∷ ys) = omega (arith, length_known bs xs ys)

known_set : (bs : List BookRow) (xs : List (List Level)) (ys : List (List Level)) (i : ℕ) (b : BookRow) (x : List Level) (y : List Level) → each_known (set bs i b) (set xs i x) (set ys i y) ≡ set (each_known bs xs ys) i (known b.book x y)
known_set [] xs ys i b x y = refl
known_set (c ∷ bs) [] ys zero b x y = refl
known_set (c ∷ bs) [] ys (suc i) b x y = refl
known_set (c ∷ bs) (z ∷ xs) [] zero b x y = refl
known_set (c ∷ bs) (z ∷ xs) [] (suc i) b x y = refl
known_set (c ∷ bs) (z ∷ xs) (w ∷ ys) zero b x y = refl
known_set (c ∷ bs) (z ∷ xs) (w ∷ ys) (suc i) b x y = ap (λ t. known c.book z w ∷ t) (known_set bs xs ys i b x y)

known_get : (bs : List BookRow) (xs : List (List Level)) (ys : List (List Level)) (i : ℕ) (v : Known) (d : BookRow) → i < length (each_known bs xs ys) → get_or (each_known bs xs ys) i v ≡ known (get_or bs i d).book (get_or xs i []) (get_or ys i [])
known_get [] xs ys i v d h = absurd (omega arith)
known_get (c ∷ bs) [] ys i v d h = absurd (omega arith)
known_get (c ∷ bs) (z ∷ xs) [] i v d h = absurd (omega arith)
known_get (c ∷ bs) (z ∷ xs) (y ∷ ys) zero v d h = refl
known_get (c ∷ bs) (z ∷ xs) (y ∷ ys) (suc i) v d h = known_get bs xs ys i v d (omega arith)

known_blank : (bs : List BookRow) (xs ys : List (List Level)) → each_known (replicate (length bs) blank) xs ys ≡ replicate (length (each_known bs xs ys)) unknown
known_blank [] xs ys = refl
known_blank (c ∷ bs) [] ys = refl
known_blank (c ∷ bs) (x ∷ xs) [] = refl
known_blank (c ∷ bs) (x ∷ xs) (y ∷ ys) = ap (λ t. unknown ∷ t) (known_blank bs xs ys)

-- the part i of a table is of d rows
pub part_long : {X : Type 0} (d i : ℕ) (xs : List X) → i * d + d ≤ length xs → length (take d (drop (i * d) xs)) ≡ d
part_long d i xs h = length-take-le d (drop (i * d) xs) (rw (length-drop (i * d) xs) (omega arith))

module _ (d : ℕ) (bs : List BookRow) (xs : List Level) (ys : List Level) where
  pub room_is : length (tabled d bs xs ys) ≡ min (min (length bs) (length xs / d)) (length ys / d)
  room_is = length_known bs (cut d xs) (cut d ys) ∙ omega (arith, length_parts d (length xs / d) xs, length_parts d (length ys / d) ys)

  module _ (i : ℕ) (h : i < length (tabled d bs xs ys)) where
    pub in_books : i < length bs
    in_books = omega (arith, room_is)

    in_buys : i < length xs / d
    in_buys = omega (arith, room_is)

    in_sells : i < length ys / d
    in_sells = omega (arith, room_is)

    pub end_buys : i * d + d ≤ length xs
    end_buys = omega (arith, part_end (length xs / d) i d in_buys, div-mul-le_self (length xs) d)

    pub end_sells : i * d + d ≤ length ys
    end_sells = omega (arith, part_end (length ys / d) i d in_sells, div-mul-le_self (length ys) d)

    pub get_known : (v : Known) (z : BookRow) → get_or (tabled d bs xs ys) i v ≡ known (get_or bs i z).book (take d (drop (i * d) xs)) (take d (drop (i * d) ys))
    get_known v z =
        known_get bs (cut d xs) (cut d ys) i v z h
        ∙ ap (λ x. known (get_or bs i z).book x (get_or (cut d ys) i [])) (parts_get d (length xs / d) i xs in_buys)
        ∙ ap (λ y. known (get_or bs i z).book (take d (drop (i * d) xs)) y) (parts_get d (length ys / d) i ys in_sells)

    -- the rows of the book as they are, put in their place
    same_buys : cut d xs ≡ set (cut d xs) i (take d (drop (i * d) xs))
    same_buys = sym (set-get_or (cut d xs) i []) ∙ ap (set (cut d xs) i) (parts_get d (length xs / d) i xs in_buys)

    same_sells : cut d ys ≡ set (cut d ys) i (take d (drop (i * d) ys))
    same_sells = sym (set-get_or (cut d ys) i []) ∙ ap (set (cut d ys) i) (parts_get d (length ys / d) i ys in_sells)

    put_known : (b : BookRow) (us vs : List (List Level)) (u v : List Level) → us ≡ set (cut d xs) i u → vs ≡ set (cut d ys) i v → each_known (set bs i b) us vs ≡ set (tabled d bs xs ys) i (known b.book u v)
    put_known b us vs u v ex ey =
        ap (λ c. each_known (set bs i b) c vs) ex
        ∙ ap (λ c. each_known (set bs i b) (set (cut d xs) i u) c) ey
        ∙ known_set bs (cut d xs) (cut d ys) i b u v

    -- a book's own row is written
    pub put_row : (b : BookRow) → tabled d (set bs i b) xs ys ≡ set (tabled d bs xs ys) i (known b.book (take d (drop (i * d) xs)) (take d (drop (i * d) ys)))
    put_row b = put_known b (cut d xs) (cut d ys) _ _ same_buys same_sells

    -- and the rows of its levels on one side
    pub put_buys : (b : BookRow) (w : ℕ) (us : List Level) → w ≡ d → length us ≡ d → tabled d (set bs i b) (put_mid (i * d) w xs us) ys ≡ set (tabled d bs xs ys) i (known b.book us (take d (drop (i * d) ys)))
    put_buys b w us wide e = put_known b _ (cut d ys) us _ (cut_put d i w xs us wide in_buys e) same_sells

    pub put_sells : (b : BookRow) (w : ℕ) (vs : List Level) → w ≡ d → length vs ≡ d → tabled d (set bs i b) xs (put_mid (i * d) w ys vs) ≡ set (tabled d bs xs ys) i (known b.book (take d (drop (i * d) xs)) vs)
    put_sells b w vs wide e = put_known b (cut d xs) _ _ vs same_buys (cut_put d i w ys vs wide in_sells e)

    seen : (n : ℕ) → n ≡ suc i → book_of n (tabled d bs xs ys) ≡ Some (known (get_or bs i blank).book (take d (drop (i * d) xs)) (take d (drop (i * d) ys)))
    seen n e = ap (λ n. book_of n (tabled d bs xs ys)) e ∙ slice_get-get_or (tabled d bs xs ys) i unknown h ∙ ap (λ b. Some b) (get_known unknown blank)

    side_count : (c : ℕ) (zs : List Level) → i * d + d ≤ length zs → length (take c (take d (drop (i * d) zs))) ≡ min c d
    side_count c zs e = length-take c (take d (drop (i * d) zs)) ∙ ap (λ n. min c n) (part_long d i zs e)

    counted : (n : ℕ) → n ≡ suc i → shown (book_of n (tabled d bs xs ys)) ≡ Some (record { whole = (get_or bs i blank).book.whole; touched = (get_or bs i blank).book.touched; buys = min (get_or bs i blank).book.buys d; sells = min (get_or bs i blank).book.sells d })
    counted n e =
        let b = (get_or bs i blank).book in
        ap shown (seen n e)
        ∙ ap (λ m. Some (record { whole = b.whole; touched = b.touched; buys = m; sells = length (take b.sells (take d (drop (i * d) ys))) })) (side_count b.buys xs end_buys)
        ∙ ap (λ m. Some (record { whole = b.whole; touched = b.touched; buys = min b.buys d; sells = m })) (side_count b.sells ys end_sells)

-- a book that is not there
pub past : (n : ℕ) (vs : List Known) → length vs ≤ n - 1 → Nowhere vs n
past zero vs h = record { same = λ f. refl; unseen = refl }
past (suc i) vs h = record { same = λ f. set_past vs i _ (omega arith); unseen = slice_get_past vs i (omega arith) }

-- the used rows of a side, of those that the book at i has
shown_is : {X : Type 0} (m w from c d at : ℕ) (xs : List X) → from ≡ at → w ≡ d → m ≡ min c d → take m (take w (drop from xs)) ≡ take c (take d (drop at xs))
shown_is m w from c d at xs a e f = same_lists _ _ (search (rules, places)) (λ k z l. grind (arith, places))

-- tables of which nothing is known
pub blanked : (d : ℕ) (bs cs : List BookRow) (xs ys : List Level) → cs ≡ replicate (length bs) blank → tabled d cs xs ys ≡ replicate (length (tabled d bs xs ys)) unknown
blanked d bs cs xs ys r = ap (λ cs. tabled d cs xs ys) r ∙ known_blank bs (cut d xs) (cut d ys)

pub spotted : (t : Tables) (n i : ℕ) → n ≡ suc i → i < length (tables_known t) → Spot t n i
spotted t n i e h =
    let d = t.depth in
    let bs = t.books.now in
    let xs = t.buys.now in
    let ys = t.sells.now in
    record {
      next = e;
      among = h;
      in_books = in_books d bs xs ys i h;
      end_buys = end_buys d bs xs ys i h;
      end_sells = end_sells d bs xs ys i h;
      shows = seen d bs xs ys i h n e;
      counts = counted d bs xs ys i h n e;
    }

-- tables of the sizes that are asked for have room for all books
all_fit : (d : ℕ) (bs : List BookRow) (xs ys : List Level) → 1 ≤ d → length xs ≡ length bs * d → length ys ≡ length bs * d → length (tabled d bs xs ys) ≡ length bs
all_fit d bs xs ys p ex ey =
    let pos : 0 < d = omega arith in
    let x : length bs ≤ length xs / d = (le-div_iff_mul-le {k = d} {x = length bs} {y = length xs} pos).1 (omega arith) in
    let y : length bs ≤ length ys / d = (le-div_iff_mul-le {k = d} {x = length bs} {y = length ys} pos).1 (omega arith) in
    omega (arith, room_is d bs xs ys)

-- what the test of the sizes says
module _ (bs : List BookRow) (xs ys : List Level) (d : ℕ) (h : tables_fit bs xs ys d ≡ true) where
  pub sizes : (1 ≤ d) × (d ≤ MOST_DEPTH) × (length xs ≡ length bs * d) × (length ys ≡ length bs * d)
  sizes = search rules

  pub room : length (tabled d bs xs ys) ≡ length bs
  room = all_fit d bs xs ys sizes.0 sizes.2 sizes.3

module _ (t : Tables) where
  pub rooms : length (tables_known t) ≡ length t.books.now
  rooms = room t.books.now t.buys.now t.sells.now t.depth t.fit

  pub there : (i : ℕ) → i < length t.books.now → i < length (tables_known t)
  there i h = omega (arith, rooms)

  pub spot_is : (n i : ℕ) → n ≡ suc i → MatchOption (then_some (ltb i (length t.books.now)) i) (Nowhere (tables_known t) n) (λ i. Spot t n i)
  spot_is n i e =
      elim (ltb i (length t.books.now)) as (λ b. ltb i (length t.books.now) ≡ b → MatchOption (then_some b i) (Nowhere (tables_known t) n) (λ i. Spot t n i)) [
        | true ↦ λ h. spotted t n i e (there i (ltb-true i _ h))
        | false ↦ λ h. past n (tables_known t) (omega (arith, rooms, ltb-false i _ h))
      ] refl

  module _ (i : ℕ) (h : i < length t.books.now) where
    -- the book at i
    pub book_is : (z : BookRow) → get_or (tables_known t) i unknown ≡ known (get_or t.books.now i z).book (take t.depth (drop (i * t.depth) t.buys.now)) (take t.depth (drop (i * t.depth) t.sells.now))
    book_is z = get_known t.depth t.books.now t.buys.now t.sells.now i (there i h) unknown z

    -- the book at i as its row is written
    pub row_put : (b z : BookRow) (f : Known → Known) → ((xs ys : List Level) → known b.book xs ys ≡ f (known (get_or t.books.now i z).book xs ys)) → tabled t.depth (set t.books.now i b) t.buys.now t.sells.now ≡ changed_at (suc i) f (tables_known t)
    row_put b z f e =
        put_row t.depth t.books.now t.buys.now t.sells.now i (there i h) b ∙ ap (set (tables_known t) i) (e _ _ ∙ ap f (sym (book_is z)))

    -- and as the rows of one side are written too
    pub buys_put : (b z : BookRow) (from w : ℕ) (us : List Level) (f : Known → Known) → from ≡ i * t.depth → w ≡ t.depth → length us ≡ length (take w (drop from t.buys.now))
        → ((ys : List Level) → known b.book us ys ≡ f (known (get_or t.books.now i z).book (take w (drop from t.buys.now)) ys))
        → tabled t.depth (set t.books.now i b) (put_mid from w t.buys.now us) t.sells.now ≡ changed_at (suc i) f (tables_known t)
    buys_put b z from w us f a c l e =
        let part : take w (drop from t.buys.now) ≡ take t.depth (drop (i * t.depth) t.buys.now) = ap (λ w. take w (drop from t.buys.now)) c ∙ ap (λ n. take t.depth (drop n t.buys.now)) a in
        let long = part_long t.depth i t.buys.now (end_buys t.depth t.books.now t.buys.now t.sells.now i (there i h)) in
        ap (λ n. tabled t.depth (set t.books.now i b) (put_mid n w t.buys.now us) t.sells.now) a
        ∙ put_buys t.depth t.books.now t.buys.now t.sells.now i (there i h) b w us c (l ∙ ap length part ∙ long)
        ∙ ap (set (tables_known t) i) (e _ ∙ ap (λ xs. f (known (get_or t.books.now i z).book xs (take t.depth (drop (i * t.depth) t.sells.now)))) part ∙ ap f (sym (book_is z)))

    pub sells_put : (b z : BookRow) (from w : ℕ) (us : List Level) (f : Known → Known) → from ≡ i * t.depth → w ≡ t.depth → length us ≡ length (take w (drop from t.sells.now))
        → ((xs : List Level) → known b.book xs us ≡ f (known (get_or t.books.now i z).book xs (take w (drop from t.sells.now))))
        → tabled t.depth (set t.books.now i b) t.buys.now (put_mid from w t.sells.now us) ≡ changed_at (suc i) f (tables_known t)
    sells_put b z from w us f a c l e =
        let part : take w (drop from t.sells.now) ≡ take t.depth (drop (i * t.depth) t.sells.now) = ap (λ w. take w (drop from t.sells.now)) c ∙ ap (λ n. take t.depth (drop n t.sells.now)) a in
        let long = part_long t.depth i t.sells.now (end_sells t.depth t.books.now t.buys.now t.sells.now i (there i h)) in
        ap (λ n. tabled t.depth (set t.books.now i b) t.buys.now (put_mid n w t.sells.now us)) a
        ∙ put_sells t.depth t.books.now t.buys.now t.sells.now i (there i h) b w us c (l ∙ ap length part ∙ long)
        ∙ ap (set (tables_known t) i) (e _ ∙ ap (λ ys. f (known (get_or t.books.now i z).book (take t.depth (drop (i * t.depth) t.buys.now)) ys)) part ∙ ap f (sym (book_is z)))

    pub buys_shown : (z : BookRow) (m w from : ℕ) → from ≡ i * t.depth → w ≡ t.depth → m ≡ min (get_or t.books.now i z).book.buys t.depth → take m (take w (drop from t.buys.now)) ≡ (get_or (tables_known t) i unknown).buys
    buys_shown z m w from a e f = shown_is m w from _ t.depth (i * t.depth) t.buys.now a e f ∙ sym (ap (λ k. k.buys) (book_is z))

    pub sells_shown : (z : BookRow) (m w from : ℕ) → from ≡ i * t.depth → w ≡ t.depth → m ≡ min (get_or t.books.now i z).book.sells t.depth → take m (take w (drop from t.sells.now)) ≡ (get_or (tables_known t) i unknown).sells
    sells_shown z m w from a e f = shown_is m w from _ t.depth (i * t.depth) t.sells.now a e f ∙ sym (ap (λ k. k.sells) (book_is z))
