-- A tally stays in order, and an addition changes one volume.
use Rattle.std.proofs.Common.{◌≡◌, ℕ, suc, ◌+◌, ◌≤◌, true, false, cond, leb, List, [], ◌∷◌, length, Some, None, Option, unwrap_or, sym, refl, ap, ◌∙◌, arith}
use Rattle.std.proofs.lemmas.Bool.{cond_both, leb-true, le-leb, lt-leb, cond-true, cond-false}
use Rattle.std.proofs.lemmas.List.{length-set}
use Rattle.rank.specs.Rows.{placed, inserted, kept}
use Rattle.std.specs.Option.{option_map}
use Rattle.wire.specs.declared.point.DeltaPoint.{DeltaPoint}
use Rattle.wire.specs.declared.point.Reason.{Reason}
use Rattle.wire.specs.declared.point.Reason.TheVariants.{Order, Cancel, Execution, Multiple}
use Rattle.wire.specs.Points.{points_in_delta}
use Rattle.wire.specs.Reading.{Msg, reset, unavailable, mapping, full, delta}
use Rattle.sink.specs.Events.{data_of, loss_of, refresh_of, restart_of}
use Rattle.tally.specs.declared.row.Row.{Row}
use Rattle.tally.specs.Rows.{row_key, row_before}
use Rattle.tally.specs.Tallies.{Counts, executed_of, capped64, row_of, summed, added, by_reason, point_added, points_added, told}
use Rattle.tally.specs.Laws.{InOrder, KeepsOrder, AddsToOne}
use Rattle.tally.proofs.Found.{row_laws}

added_ordered : (i q : ℕ) (c : Counts) → InOrder c → InOrder (added i q c)
added_ordered i q c o =
    cond_both (leb (length (summed i q c.rows)) c.room) _ _ InOrder
    (λ t. record { sorted = row_laws.inserted_sorted _ c.rows o.sorted; few = leb-true _ _ t })
    (λ _. record { sorted = o.sorted; few = o.few })

reason_ordered : (r : Reason) (i q : ℕ) (c : Counts) → InOrder c → InOrder (by_reason r i q c)
reason_ordered Order i q c o = o
reason_ordered Cancel i q c o = o
reason_ordered Execution i q c o = added_ordered i q c o
reason_ordered Multiple i q c o = o

points_ordered : (i : ℕ) (ps : List DeltaPoint) (c : Counts) → InOrder c → InOrder (points_added i ps c)
points_ordered i [] c o = o
points_ordered i (p ∷ ps) c o = points_ordered i ps (point_added i p c) (reason_ordered p.reason i p.changed c o)

told_ordered : (m : Msg) (c : Counts) → InOrder c → InOrder (told m c)
told_ordered (reset n) c o = o
told_ordered (unavailable b e) c o = o
told_ordered mapping c o = o
told_ordered (full i s ps) c o = o
told_ordered (delta i s ps) c o = points_ordered i (points_in_delta ps) c o

pub keeps_order : KeepsOrder
keeps_order (data_of n m) c o = told_ordered m c o
keeps_order (loss_of n) c o = record { sorted = o.sorted; few = o.few }
keeps_order (refresh_of n m) c o = o
keeps_order (restart_of n) c o = o

-- a row that takes no other's place makes the rows one longer
longer : (r : Row) (rs : List Row) → kept row_key row_before (row_key r) rs ≡ None → length (inserted row_key row_before r rs) ≡ suc (length rs)
longer r [] n = refl
longer r (x ∷ xs) n =
    elim (row_before (row_key x) (row_key r)) as (λ b. cond b (kept row_key row_before (row_key r) xs) (cond (row_before (row_key r) (row_key x)) None (Some x)) ≡ None
    → length (cond b (x ∷ inserted row_key row_before r xs) (cond (row_before (row_key r) (row_key x)) (r ∷ (x ∷ xs)) (r ∷ xs))) ≡ suc (suc (length xs))) [
      | true ↦ λ n. ap suc (longer r xs n)
      | false ↦ elim (row_before (row_key r) (row_key x)) as (λ b. cond b None (Some x) ≡ None → length (cond b (r ∷ (x ∷ xs)) (r ∷ xs)) ≡ suc (suc (length xs))) [ true ↦ λ n. refl | false ↦ λ n. cc ]
    ] n

-- one that does leaves them as long
as_long : (r : Row) (rs : List Row) → (kept row_key row_before (row_key r) rs ≡ None → ⊥) → length (inserted row_key row_before r rs) ≡ length rs
as_long r rs n = sym (ap length (row_laws.inserted_over r rs n)) ∙ length-set rs (placed row_key row_before (row_key r) rs) r

-- an index has a volume where it has a row
no_row : (i : ℕ) (rs : List Row) → executed_of i rs ≡ None → kept row_key row_before i rs ≡ None
no_row i rs e = go (kept row_key row_before i rs) e
  where
    go : (o : Option Row) → option_map (λ (r : Row). r.executed) o ≡ None → o ≡ None
    go None e = refl
    go (Some r) e = cc

has_row : (i : ℕ) (rs : List Row) → (executed_of i rs ≡ None → ⊥) → kept row_key row_before i rs ≡ None → ⊥
has_row i rs n e = n (ap (option_map (λ (r : Row). r.executed)) e)

pub adds_to_one : AddsToOne
adds_to_one i q c o =
    let executed : Option Row → Option ℕ = option_map (λ (r : Row). r.executed) in
    let row = row_of i (capped64 (unwrap_or (executed_of i c.rows) 0 + q)) in
    let fits : length (summed i q c.rows) ≤ c.room → (added i q c).missed ≡ c.missed = λ l. ap (λ (d : Counts). d.missed) (cond-true (leb (length (summed i q c.rows)) c.room) _ _ (le-leb _ _ l)) in
    record {
      there = λ l.
          ap (λ (d : Counts). executed_of i d.rows) (cond-true (leb (length (summed i q c.rows)) c.room) _ _ (le-leb _ _ l))
          ∙ ap executed (row_laws.inserted_there row c.rows);
      others = λ j ne.
          cond_both (leb (length (summed i q c.rows)) c.room) _ _ (λ (d : Counts). executed_of j d.rows ≡ executed_of j c.rows)
          (λ _. ap executed (row_laws.inserted_others row j c.rows ne))
          (λ _. refl);
      missed = λ n full. cond-false (leb (length (summed i q c.rows)) c.room) _ _ (lt-leb _ _ (omega (arith, longer row c.rows (no_row i c.rows n), full)));
      has_row = λ n. fits (omega (arith, as_long row c.rows (has_row i c.rows n), o.few));
      has_room = λ l.
          elim (executed_of i c.rows) as (λ v. executed_of i c.rows ≡ v → (added i q c).missed ≡ c.missed) [
            | None ↦ λ e. fits (omega (arith, longer row c.rows (no_row i c.rows e), l))
            | Some x ↦ λ e. fits (omega (arith, as_long row c.rows (has_row i c.rows (λ n. let no : None ≡ Some x = sym n ∙ e in cc)), l))
          ] refl;
      losses = cond_both (leb (length (summed i q c.rows)) c.room) _ _ (λ (d : Counts). d.losses ≡ c.losses) (λ _. refl) (λ _. refl);
    }
