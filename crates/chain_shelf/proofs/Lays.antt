-- The writes with which a packet is laid in: its head (v), its bytes (f), the end mark (z), record 0 (u), the packet before (w).
use Rattle.std.proofs.Common.{◌≡◌, ℕ, ◌+◌, ◌-◌, ◌/◌, ◌<◌, ◌≤◌, ◌⊎◌, List, length, sym, refl, ap, ◌∙◌, subst, inl, inr, ⊎_elim, arith}
use Rattle.chain_shelf.specs.Records.{Mem, word, link, next, number, size, tail, in_use, span, walk, gather, cnt, Apart, Inside, last}
use Rattle.chain_shelf.specs.Chain.{LaidIn, end}
use Rattle.chain_shelf.proofs.Fills.{cnt_first, links_kept}
use Rattle.chain_shelf.proofs.Counts.{last_in, walk_turn}
use Rattle.chain_shelf.proofs.Frames.{gather_same, link_same}

module _ (m v f z u w : Mem) (R p k r l t : ℕ) (xs : List ℕ) (e : r ≡ link m 0)
    (apart : Apart (walk (link m) (span 10 (length xs)) (link m 0))) (inside : Inside R (walk (link m) (span 10 (length xs)) (link m 0))) (out : cnt p (walk (link m) (span 10 (length xs)) (link m 0)) ≡ 0)
    (head : (s q : ℕ) → q < 64 → (s ≡ r → (q < 2) ⊎ (10 ≤ q)) → v s q ≡ m s q) where
  abbrev n : ℕ
  n = span 10 (length xs)

  links_v : link v ≡ link m
  links_v = links_kept m v (λ s q l. head s q (omega arith) (λ _. inl l))

  pub walk_head : walk (link v) n r ≡ walk (link m) n (link m 0)
  walk_head = λ i. walk (links_v i) n (e i)

  r_in : 0 < cnt r (walk (link v) n r)
  r_in = cnt_first r (walk (link v) ((length xs - 54 + 61) / 62) (link v r))

  counted : (s : ℕ) → cnt s (walk (link v) n r) ≡ cnt s (walk (link m) n (link m 0))
  counted s = ap (cnt s) walk_head

  module _ (after : next v r ≡ next m p) (num : number v r ≡ k) (siz : size v r ≡ length xs)
      (laid : gather f n r 10 (length xs) ≡ xs) (stops : l ≡ last r (walk (link v) n r))
      (fill : (s q : ℕ) → q < 64 → (0 < cnt s (walk (link v) n r) → (q < 2) ⊎ ((s ≡ r) × (q < 10))) → f s q ≡ v s q)
      (next-free : t ≡ link f l) (mark : word z l 0 ≡ 0) (marked : (s q : ℕ) → q < 64 → (s ≡ l → 0 ≤ q → q ≤ 1 → ⊥) → z s q ≡ f s q)
      (free : link u 0 ≡ t) (ends : tail u ≡ end (next m p) r (tail m)) (used : in_use u ≡ in_use m + n) (first : (s q : ℕ) → q < 64 → (s ≡ 0 → (2 ≤ q) × (q < 4)) → u s q ≡ z s q)
      (prev : word w p 2 ≡ r) (prior : (s q : ℕ) → q < 64 → (s ≡ p → 2 ≤ q → q ≤ 3 → ⊥) → w s q ≡ u s q) where
    not_prev : (s : ℕ) → 0 < cnt s (walk (link v) n r) → s ≡ p → ⊥
    not_prev s x y = let c = counted s in let d = ap (λ j. cnt j (walk (link m) n (link m 0))) y in omega arith

    some : (s : ℕ) → 0 < cnt s (walk (link v) n r) → 0 < s
    some s x = (inside s (let c = counted s in omega arith)).0

    headed : (q : ℕ) → 2 ≤ q → q < 10 → w r q ≡ v r q
    headed q a b =
        prior r q (omega arith) (λ x _ _. not_prev r r_in x) ∙ first r q (omega arith) (λ x. absurd (let y = some r r_in in omega arith))
        ∙ marked r q (omega arith) (λ _ _ y. omega arith) ∙ fill r q (omega arith) (λ _. inr (refl, b))

    links_f : link f ≡ link m
    links_f = links_kept v f (λ s q x. fill s q (omega arith) (λ _. inl x)) ∙ links_v

    walk_f : walk (link f) n r ≡ walk (link m) n (link m 0)
    walk_f = λ i. walk (links_f i) n (e i)

    stop_is : l ≡ last 0 (walk (link m) n (link m 0))
    stop_is = stops ∙ ap (last 0) walk_head

    stop_some : l ≡ 0 → ⊥
    stop_some x = let i = some (last r (walk (link v) n r)) (last_in r (walk (link v) ((length xs - 54 + 61) / 62) (link v r))) in omega (arith, stops)

    low : (s q : ℕ) → q < 2 → (s ≡ 0 → ⊥) → (s ≡ l → ⊥) → w s q ≡ f s q
    low s q x a b = prior s q (omega arith) (λ _ y _. omega arith) ∙ first s q (omega arith) (λ y. absurd (a y)) ∙ marked s q (omega arith) (λ y _ _. b y)

    link_kept : (s : ℕ) → (s ≡ 0 → ⊥) → (s ≡ l → ⊥) → link w s ≡ link f s
    link_kept s a b = link_same f w s (low s 0 (omega arith) a b) (low s 1 (omega arith) a b)

    stop_kept : (q : ℕ) → q < 2 → w l q ≡ z l q
    stop_kept q x = prior l q (omega arith) (λ _ y _. omega arith) ∙ first l q (omega arith) (λ y. absurd (stop_some y))

    apart_f : Apart (walk (link f) n r)
    apart_f = subst Apart (sym walk_f) apart

    in_f : (s : ℕ) → 0 < cnt s (walk (link f) n r) → 0 < cnt s (walk (link v) n r)
    in_f s x = let c = counted s in let d = ap (cnt s) walk_f in omega arith

    walk_w : walk (link w) n r ≡ walk (link f) n r
    walk_w = walk_turn (link f) (link w) ((length xs - 54 + 61) / 62) r apart_f
        (λ s x y. link_kept s (λ a. let i = some s (in_f s x) in omega arith) (λ a. y (a ∙ stop_is ∙ sym (ap (last 0) walk_f))))

    kept : gather w n r 10 (length xs) ≡ gather f n r 10 (length xs)
    kept = gather_same f w n r 10 (length xs) (omega arith) apart_f walk_w
        (λ s q x y a _. prior s q x (λ b _ _. not_prev s (in_f s a) b) ∙ first s q x (λ b. absurd (let i = some s (in_f s a) in omega arith)) ∙ marked s q x (λ _ _ b. omega arith))

    kept_0 : (q : ℕ) → 4 ≤ q → q < 63 → word w 0 q ≡ word u 0 q
    kept_0 q a b = cc (prior 0 q (omega arith) (λ _ _ x. omega arith), prior 0 (q + 1) (omega arith) (λ _ _ x. omega arith))

    pub laid_in : LaidIn m w p k xs
    laid_in =
        record {
          ends = kept_0 4 (omega arith) (omega arith) ∙ ends ∙ ap (λ x. end (next m p) x (tail m)) e;
          counted = kept_0 6 (omega arith) (omega arith) ∙ used;
          prev = prev ∙ e;
          after = sym (ap (next w) e) ∙ cc (headed 2 (omega arith) (omega arith), headed 3 (omega arith) (omega arith), after);
          numbered = sym (ap (number w) e) ∙ cc (headed 4 (omega arith) (omega arith), headed 5 (omega arith) (omega arith), headed 6 (omega arith) (omega arith), headed 7 (omega arith) (omega arith), num);
          sized = sym (ap (size w) e) ∙ cc (headed 8 (omega arith) (omega arith), headed 9 (omega arith) (omega arith), siz);
          bytes = sym (ap (λ x. gather w n x 10 (length xs)) e) ∙ kept ∙ laid;
          free = link_same u w 0 (prior 0 0 (omega arith) (λ _ y _. omega arith)) (prior 0 1 (omega arith) (λ _ y _. omega arith)) ∙ free ∙ next-free ∙ (λ i. links_f i (stop_is i));
          mark = sym (ap (link w) stop_is) ∙ link_same z w l (stop_kept 0 (omega arith)) (stop_kept 1 (omega arith)) ∙ mark;
          links = λ s a b. link_kept s a (λ x. b (x ∙ stop_is)) ∙ ap (λ g. g s) links_f;
          others = λ s q x y a b.
              let c = counted s in
              prior s q x (λ g h d. ⊎_elim (λ j. omega arith) (λ j. omega arith) (b g)) ∙ first s q x a
              ∙ marked s q x (λ g _ _. absurd (let i = last_in r (walk (link v) ((length xs - 54 + 61) / 62) (link v r)) in let j = ap (λ o. cnt o (walk (link v) n r)) (g ∙ stops) in omega arith))
              ∙ fill s q x (λ g. absurd (omega arith)) ∙ head s q x (λ g. absurd (let i = r_in in let j = ap (λ o. cnt o (walk (link v) n r)) g in omega arith));
        }
