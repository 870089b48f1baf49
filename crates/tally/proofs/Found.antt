-- What is made of a row that stands at a place, and where none does.
use Rattle.std.proofs.Common.{◌≡◌, ℕ, ◌+◌, ◌^◌, ◌<◌, ◌≤◌, List, length, get_or, take, set, Some, None, Option, unwrap_or, sym, ap, ◌∙◌, subst, arith}
use Rattle.std.specs.List.{slice_get}
use Rattle.std.specs.Option.{option_map}
use Rattle.std.proofs.lemmas.List.{get_or-take, length-take, length-set}
use Rattle.std.proofs.lemmas.Bool.{cond-true, le-leb}
use Rattle.std.proofs.lemmas.Option.{slice_get-get_or}
use Rattle.std.proofs.Math.Seq.{take-set-lt}
use Rattle.rank.specs.Rows.{Sorted, inserted, kept}
use Rattle.rank.specs.Laws.{RowLaws}
use Rattle.rank.proofs.Lookups.{laws}
use Rattle.rank.proofs.Numbers.{rising_one, rising_transitive}
use Rattle.ladder.specs.Tables.{There, Missing}
use Rattle.tally.specs.declared.row.Row.{Row}
use Rattle.tally.specs.declared.tally.Tally.{Tally}
use Rattle.tally.specs.Rows.{row_key, row_before, blank}
use Rattle.tally.specs.Tallies.{Counts, executed_of, capped64, row_of, summed, become, added}

-- what holds of rows in the order of their indexes
pub row_laws : RowLaws row_key row_before
row_laws = laws row_key row_before rising_one rising_transitive

module _ (rs : List Row) (used : ℕ) where
  -- a row among those that are used
  row_is : (at : ℕ) → at < length (take used rs) → slice_get (take used rs) at ≡ Some (get_or rs at blank)
  row_is at l =
      let few : at < used = omega (arith, length-take used rs) in
      slice_get-get_or (take used rs) at blank l ∙ ap (λ r. Some r) (get_or-take used rs at blank few)

  module _ (i at : ℕ) (h : There row_key row_before i (take used rs) at) where
    kept_is : kept row_key row_before i (take used rs) ≡ Some (get_or rs at blank)
    kept_is = sym h.row ∙ row_is at h.within

    pub there_executed : executed_of i (take used rs) ≡ Some (get_or rs at blank).executed
    there_executed = ap (option_map (λ (r : Row). r.executed)) kept_is

    -- a sum written over the row of its index
    pub written : (q x : ℕ) → x ≡ capped64 ((get_or rs at blank).executed + q) → take used (set rs at (row_of i x)) ≡ summed i q (take used rs)
    written q x e =
        let zs = take used rs in
        let few : at < used = omega (arith, h.within, length-take used rs) in
        let sum : x ≡ capped64 (unwrap_or (executed_of i zs) 0 + q) = e ∙ ap (λ (o : Option ℕ). capped64 (unwrap_or o 0 + q)) (sym there_executed) in
        take-set-lt used rs at (row_of i x) few
        ∙ ap (λ p. set zs p (row_of i x)) h.place
        ∙ row_laws.inserted_over (row_of i x) zs (λ (n : kept row_key row_before i zs ≡ None). let no : None ≡ Some (get_or rs at blank) = sym n ∙ kept_is in cc)
        ∙ ap (λ y. inserted row_key row_before (row_of i y) zs) sum

    -- it leaves the rows in order
    pub written_sorted : (q x : ℕ) → x ≡ capped64 ((get_or rs at blank).executed + q) → Sorted row_key row_before (take used rs) → Sorted row_key row_before (take used (set rs at (row_of i x)))
    written_sorted q x e s = subst (Sorted row_key row_before) (sym (written q x e)) (row_laws.inserted_sorted _ (take used rs) s)

    -- and misses nothing
    pub there_added : (q x : ℕ) (c : Counts) → c.rows ≡ take used rs → c.room ≡ length rs → x ≡ capped64 ((get_or rs at blank).executed + q)
        → record { room = length (set rs at (row_of i x)); rows = take used (set rs at (row_of i x)); missed = c.missed; losses = c.losses } ≡ added i q c
    there_added q x c a b e =
        let w : take used (set rs at (row_of i x)) ≡ summed i q c.rows = written q x e ∙ sym (ap (summed i q) a) in
        let l : length (summed i q c.rows) ≤ c.room = omega (arith, ap length w, length-take used (set rs at (row_of i x)), length-set rs at (row_of i x), b) in
        ap (λ n. record { room = n; rows = take used (set rs at (row_of i x)); missed = c.missed; losses = c.losses }) (length-set rs at (row_of i x) ∙ sym b)
        ∙ ap (λ ys. record { room = c.room; rows = ys; missed = c.missed; losses = c.losses }) w
        ∙ sym (cond-true _ _ _ (le-leb _ _ l))

-- where no row has the index, one with the quantity is inserted
pub missing_added : (i q at : ℕ) (c : Counts) → q < 2 ^ 64 → Missing row_key row_before i c.rows at → become (inserted row_key row_before (row_of i q) c.rows) c ≡ added i q c
missing_added i q at c l m =
    let e : q ≡ capped64 (0 + q) = omega arith in
    ap (λ x. become (inserted row_key row_before (row_of i x) c.rows) c)
    (e ∙ ap (λ (o : Option Row). capped64 (unwrap_or (option_map (λ (r : Row). r.executed) o) 0 + q)) (sym m.none))

-- a row of a tally that has the index, at any place
pub guessed : (t : Tally) (i at : ℕ) → at < t.used → (get_or t.rows.now at blank).index ≡ i → There row_key row_before i (take t.used t.rows.now) at
guessed t i at l e =
    let rs = t.rows.now in
    let within : at < length (take t.used rs) = omega (arith, length-take t.used rs, t.few) in
    let k = row_laws.kept_at (get_or rs at blank) at (take t.used rs) t.ordered (row_is rs t.used at within) in
    subst (λ j. There row_key row_before j (take t.used rs) at) e (record { within = within; place = k.0; row = row_is rs t.used at within ∙ sym k.1 })
