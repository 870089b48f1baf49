-- What flows through a channel goes as the machine goes.
use Rattle.std.proofs.Common.{◌≡◌, ℕ, zero, suc, ◌+◌, ◌-◌, ◌≤◌, Bool, true, false, cond, eqb, List, ◌∷◌, length, is_some, Some, sym, refl, ap, ◌∙◌, subst, arith}
use Rattle.std.proofs.lemmas.Bool.{cond-true, cond-false, cond_both, eqb-true, eqb-false}
use Rattle.wire.specs.Reading.{Msg}
use Rattle.shelf.specs.Store as on_shelf
use Rattle.sink.specs.Events.{Event, data_of}
use Rattle.order.specs.Maps.{lookup, has, remove, Rising}
use Rattle.order.specs.Machine.{Content, carries, declares, renews, nothing, content, took, Standing, turn, pass, passes, drain, drained, joins, does}
use Rattle.order.specs.Promise.{Allowed}
use Rattle.handover.specs.Flows.{Flow, data_as, message_of, hand, hands, handing, handed_on, hand_data, keep, takes}
use Rattle.order.specs.Machine.{led}
use Rattle.channel.specs.Follows.{Waits}
use Rattle.order.proofs.Maps.{none_left, length_removed, lookup_inserted, lookup_insert, remove_inserted}
use Rattle.order.proofs.Rises.{rising_insert, rising_remove}
use Rattle.channel.proofs.Shelved.{waits_lookup, waits_has, waits_length, waits_remove, waits_insert}

-- The machine: fuel past what waits changes nothing.
drain_same : (k j : ℕ) (s : Standing) → length s.waiting ≤ k → length s.waiting ≤ j → drain k s ≡ drain j s
drain_same zero zero s a b = refl
drain_same zero (suc j) s a b = sym (cond-false (has (s.last + 1) s.waiting) _ _ (none_left (s.last + 1) s.waiting a))
drain_same (suc k) zero s a b = cond-false (has (s.last + 1) s.waiting) _ _ (none_left (s.last + 1) s.waiting b)
drain_same (suc k) (suc j) s a b =
    go (has (s.last + 1) s.waiting) refl (λ e. let l = length_removed (s.last + 1) s.waiting e in drain_same k j (pass s) (omega arith) (omega arith))
  where
    go : (t : Bool) → has (s.last + 1) s.waiting ≡ t → (has (s.last + 1) s.waiting ≡ true → drain k (pass s) ≡ drain j (pass s))
        → cond t (drain k (pass s)) s ≡ cond t (drain j (pass s)) s
    go true e more = more e
    go false e more = refl

-- one turn of the draining, and its end
drained_more : (s : Standing) → has (s.last + 1) s.waiting ≡ true → drained (pass s) ≡ drained s
drained_more s e =
    let l = length_removed (s.last + 1) s.waiting e in
    drain_same (length (remove (s.last + 1) s.waiting)) (length s.waiting) (pass s) (omega arith) (omega arith)
    ∙ sym (cond-true (has (s.last + 1) s.waiting) _ _ e)
    ∙ drain_same (suc (length s.waiting)) (length s.waiting) s (omega arith) (omega arith)

drained_rest : (s : Standing) → has (s.last + 1) s.waiting ≡ false → drained s ≡ s
drained_rest s e = drain_same (length s.waiting) (suc (length s.waiting)) s (omega arith) (omega arith) ∙ cond-false (has (s.last + 1) s.waiting) _ _ e

-- the next number's message need not wait
next_joins : (m : Msg) (s : Standing) → has (s.last + 1) s.waiting ≡ false
    → drained (record { last = s.last + 1; waiting = s.waiting; order = data_of (s.last + 1) m ∷ s.order }) ≡ drained (joins (s.last + 1) m s)
next_joins m s free =
    let n = s.last + 1 in
    let found = lookup_inserted n m s.waiting in
    let gone = remove_inserted n m s.waiting free in
    ap drained (λ i. record { last = n; waiting = sym gone i; order = turn n (sym found i) ∷ s.order }) ∙ drained_more (joins n m s) (ap is_some found)

-- an early message waits
early_joins : (n : ℕ) (m : Msg) (s : Standing) → (n ≡ s.last + 1 → ⊥) → has (s.last + 1) s.waiting ≡ false → drained (joins n m s) ≡ joins n m s
early_joins n m s ne rest = drained_rest (joins n m s) (ap is_some (lookup_insert (s.last + 1) n m s.waiting (λ e. ne (sym e))) ∙ rest)

-- A flow and the machine: one last number, the sink led by the order, and what is held waits.
pub record Like {M : Type 0} (step : Event → M → M) (before : M) (f : Flow M) (s : Standing) : Type 0 where
  pub last : f.last ≡ s.last
  pub sink : f.sink ≡ led step s.order before
  pub waits : Waits f.shelf.held s.waiting
  pub rises : Rising s.waiting

module _ {M : Type 0} (step : Event → M → M) (before : M) where
  like_hand : (f : Flow M) (s : Standing) → Like step before f s → Like step before (hand step f) (pass s)
  like_hand f s a =
      let n = s.last + 1 in
      let e : f.last + 1 ≡ n = ap (λ k. k + 1) a.last in
      record {
        last = e;
        sink =
            ap (λ k. step (turn k (message_of (on_shelf.lookup f.shelf.held k))) f.sink) e
            ∙ ap (λ o. step (turn n o) f.sink) (waits_lookup n f.shelf.held s.waiting a.waits)
            ∙ ap (step (turn n (lookup n s.waiting))) a.sink;
        waits = subst (λ k. Waits (on_shelf.remove k f.shelf.held) (remove n s.waiting)) (sym e) (waits_remove n f.shelf.held s.waiting a.waits a.rises);
        rises = rising_remove n s.waiting a.rises;
      }

  like_hands : (k : ℕ) (f : Flow M) (s : Standing) → Like step before f s → Like step before (hands step k f) (passes k s)
  like_hands zero f s a = a
  like_hands (suc k) f s a = like_hands k (hand step f) (pass s) (like_hand f s a)

  like_handing : (k : ℕ) (f : Flow M) (s : Standing) → Like step before f s → Like step before (handing step k f) (drain k s)
  like_handing zero f s a = a
  like_handing (suc k) f s a =
      let e : f.last + 1 ≡ s.last + 1 = ap (λ j. j + 1) a.last in
      subst (λ b. Like step before (cond b (handing step k (hand step f)) f) (drain (suc k) s))
      (sym (ap (on_shelf.has f.shelf.held) e ∙ waits_has (s.last + 1) f.shelf.held s.waiting a.waits))
      (go (has (s.last + 1) s.waiting) (like_handing k (hand step f) (pass s) (like_hand f s a)))
    where
      go : (b : Bool) → Like step before (handing step k (hand step f)) (drain k (pass s))
          → Like step before (cond b (handing step k (hand step f)) f) (cond b (drain k (pass s)) s)
      go true ih = ih
      go false ih = a

  like_handed_on : (f : Flow M) (s : Standing) → Like step before f s → Like step before (handed_on step f) (drained s)
  like_handed_on f s a =
      subst (λ k. Like step before (handing step k f) (drained s)) (sym (waits_length f.shelf.held s.waiting a.waits)) (like_handing (length s.waiting) f s a)

  like_next : (n : ℕ) (m : Msg) (f : Flow M) (s : Standing) → Like step before f s → n ≡ s.last + 1
      → Like step before (hand_data step n m f) (record { last = s.last + 1; waiting = s.waiting; order = data_of (s.last + 1) m ∷ s.order })
  like_next n m f s a e = record {
    last = e;
    sink = ap (λ k. step (data_of k m) f.sink) e ∙ ap (step (data_of (s.last + 1) m)) a.sink;
    waits = a.waits;
    rises = a.rises;
  }

  like_carries : (n : ℕ) (m : Msg) (p : List ℕ) (f : Flow M) (s : Standing) → Like step before f s → has n s.waiting ≡ false
      → has (s.last + 1) s.waiting ≡ false → message_of (Some p) ≡ Some m → Like step before (takes step (carries n m) p f) (does (took (carries n m)) s)
  like_carries n m p f s a free rest read =
      cond_both (eqb n (f.last + 1)) (handed_on step (hand_data step n m f)) (keep step n p f) (λ g. Like step before g (drained (joins n m s)))
      (λ t.
      let e : n ≡ s.last + 1 = eqb-true n (f.last + 1) t ∙ ap (λ j. j + 1) a.last in
      subst (λ k. Like step before (handed_on step (hand_data step n m f)) (drained (joins k m s))) (sym e)
      (subst (λ d. Like step before (handed_on step (hand_data step n m f)) d) (next_joins m s rest)
      (like_handed_on (hand_data step n m f) _ (like_next n m f s a e))))
      (λ t.
      let ne : n ≡ s.last + 1 → ⊥ = λ e. eqb-false n (f.last + 1) t (e ∙ sym (ap (λ j. j + 1) a.last)) in
      subst (λ d. Like step before (keep step n p f) d) (sym (early_joins n m s ne rest))
      (record {
        last = a.last;
        sink = a.sink;
        waits = waits_insert n p m f.shelf.held s.waiting a.waits free read;
        rises = rising_insert n m s.waiting a.rises;
      }))

  -- what a packet that is taken does
  pub like_takes : (x : Content) (p : List ℕ) (f : Flow M) (s : Standing) → Like step before f s → Allowed (took x) s.last s.waiting
      → has (s.last + 1) s.waiting ≡ false → content p ≡ x → Like step before (takes step x p f) (does (took x) s)
  like_takes (carries n m) p f s a ok rest e = like_carries n m p f s a ok.1 rest (ap data_as e)
  like_takes (declares b c) p f s a ok rest e =
      subst (λ k. Like step before (handed_on step (hands step (c - k) f)) (drained (passes (c - s.last) s))) (sym a.last)
      (like_handed_on (hands step (c - s.last) f) (passes (c - s.last) s) (like_hands (c - s.last) f s a))
  like_takes (renews n m) p f s a ok rest e = record { last = a.last; sink = ap (step _) a.sink; waits = a.waits; rises = a.rises }
  like_takes nothing p f s a ok rest e = a
