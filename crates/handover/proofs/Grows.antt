-- Last never falls.
use Rattle.std.proofs.Common.{ℕ, zero, suc, ◌+◌, ◌-◌, ◌≤◌, eqb, List, length, arith}
use Rattle.std.proofs.lemmas.Bool.{cond_both, eqb-true}
use Rattle.shelf.specs.Store.{has}
use Rattle.sink.specs.Events.{Event}
use Rattle.order.specs.Machine.{Content, carries, declares, renews, nothing}
use Rattle.handover.specs.Flows.{Flow, hand, hands, handing, handed_on, hand_data, keep, takes}

module _ {M : Type 0} (step : Event → M → M) where
  hands_grow : (k : ℕ) (f : Flow M) → f.last ≤ (hands step k f).last
  hands_grow zero f = omega arith
  hands_grow (suc k) f = let ih = hands_grow k (hand step f) in omega arith

  handing_grow : (k : ℕ) (f : Flow M) → f.last ≤ (handing step k f).last
  handing_grow zero f = omega arith
  handing_grow (suc k) f =
      let ih = handing_grow k (hand step f) in
      cond_both (has f.shelf.held (f.last + 1)) (handing step k (hand step f)) f (λ x. f.last ≤ x.last) (λ e. omega arith) (λ e. omega arith)

  pub takes_grow : (x : Content) (p : List ℕ) (f : Flow M) → f.last ≤ (takes step x p f).last
  takes_grow (carries n m) p f =
      cond_both (eqb n (f.last + 1)) (handed_on step (hand_data step n m f)) (keep step n p f) (λ x. f.last ≤ x.last)
      (λ e. let q = eqb-true n (f.last + 1) e in let a = handing_grow (length f.shelf.held) (hand_data step n m f) in omega arith) (λ e. omega arith)
  takes_grow (declares b e) p f =
      let g = hands step (e - f.last) f in
      let a = hands_grow (e - f.last) f in
      let b = handing_grow (length g.shelf.held) g in
      omega arith
  takes_grow (renews n m) p f = omega arith
  takes_grow nothing p f = omega arith
