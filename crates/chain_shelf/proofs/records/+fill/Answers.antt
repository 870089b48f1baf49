use Rattle.std.proofs.Common.{◌≡◌, ℕ, ◌+◌, ◌-◌, ◌/◌, ◌<◌, ◌≤◌, ◌⊎◌, List, length, take, drop, sym, ap, ◌∙◌, subst, arith, rules}
use Rattle.std.proofs.lemmas.List.{take_rest, length-take-le, length-drop}
use Rattle.chain_shelf.specs.Records.{Mem, mem, records, cut, link, span, walk, gather, cnt, Apart, Inside, last}
use Rattle.chain_shelf.proofs.Fills.{walk_more, fill_data, fill_others, apart_rest, inside_rest, cnt_first}
use Rattle.chain_shelf.proofs.records.+fill.Goals as goal

-- the first part of the packet p is written into one record (b is d then), and a is the next one
module _ (b d p : List ℕ) (r o a : ℕ) (lo : 2 ≤ o) (hi : o < 64) (more : 64 - o < length p) (next : a ≡ link (mem d) r) (same : length d ≡ length b)
    (apart : Apart (walk (link (mem b)) (span o (length p)) r)) (there : cut (mem d) r o (length (take (64 - o) p)) ≡ take (64 - o) p)
    (others : (s q : ℕ) → q < 64 → (s ≡ r → o ≤ q → q < o + length (take (64 - o) p) → ⊥) → mem d s q ≡ mem b s q) where
  -- the rest of the packet
  abbrev P : List ℕ
  P = take (length p - (64 - o)) (drop (64 - o) p)

  left : length P ≡ length p - (64 - o)
  left = ap length (take_rest p (64 - o)) ∙ length-drop (64 - o) p

  part : (s q : ℕ) → q < 64 → (s ≡ r → o ≤ q → ⊥) → mem d s q ≡ mem b s q
  part s q i h = others s q i (λ e j _. h e j)

  pub goes_on : Inside (records b) (walk (link (mem b)) (span o (length p)) r)
      → (length P ≡ length p - (64 - o)) × (a < records d) × Apart (walk (link (mem d)) (span 2 (length P)) a) × Inside (records d) (walk (link (mem d)) (span 2 (length P)) a)
  goes_on h =
      let W = walk (link (mem d)) (span 2 (length P)) a in
      let w = walk_more (mem b) (mem d) (mem d) r o (length p) (length P) a p lo hi more left next apart part in
      let i = inside_rest (records b) r W (subst (Inside (records b)) w h) in
      let z : records d ≡ records b = ap (λ k. k / 64) same in
      let x = i a (cnt_first a (walk (link (mem d)) ((length P - 62 + 61) / 62) (link (mem d) a))) in
      (left, omega (arith, z, x.1), apart_rest r W (subst Apart w apart), λ q y. ((i q y).0, omega (arith, z, (i q y).1)))

  pub ends : (w : Mem) (l : ℕ) → gather w (span 2 (length P)) a 2 (length P) ≡ P → l ≡ last a (walk (link (mem d)) (span 2 (length P)) a)
      → ((s q : ℕ) → q < 64 → (0 < cnt s (walk (link (mem d)) (span 2 (length P)) a) → (q < 2) ⊎ ((s ≡ a) × (q < 2))) → w s q ≡ mem d s q)
      → (gather w (span o (length p)) r o (length p) ≡ p) × (l ≡ last r (walk (link (mem b)) (span o (length p)) r))
      × ((s q : ℕ) → q < 64 → (0 < cnt s (walk (link (mem b)) (span o (length p)) r) → (q < 2) ⊎ ((s ≡ r) × (q < o))) → w s q ≡ mem b s q)
  ends w l laid e later =
      let h = length-take-le (64 - o) p (omega arith) in
      let f : cut (mem d) r o (64 - o) ≡ take (64 - o) p = sym (ap (cut (mem d) r o) h) ∙ there in (
        fill_data (mem b) (mem d) w r o (length p) (length P) a p lo hi more left next apart part later f (laid ∙ take_rest p (64 - o)),
        e ∙ sym (ap (last r) (walk_more (mem b) (mem d) w r o (length p) (length P) a p lo hi more left next apart part)),
        fill_others (mem b) (mem d) w r o (length p) (length P) a p lo hi more left next apart part later,
      )

pub fill-requires : goal.fill-requires
fill-requires t c =
    let i = goes_on c.args.bytes.now c.lay_in-2.new.bytes c.args.part.now c.args.index c.args.offset c.read-after.result c.requires.low c.requires.high (omega arith) c.read-after.ensures c.lay_in-2.auto.bytes
    c.requires.apart c.lay_in-2.ensures.there c.lay_in-2.ensures.others c.requires.inside in
    let n = i.0 in
    (search rules, (omega arith, (omega arith, (i.1, (i.2, i.3)))))

pub returns : goal.returns
returns t c =
    let e = ends c.args.bytes.now c.lay_in-2.new.bytes c.args.part.now c.args.index c.args.offset c.read-after.result c.requires.low c.requires.high (omega arith) c.read-after.ensures c.lay_in-2.auto.bytes
    c.requires.apart c.lay_in-2.ensures.there c.lay_in-2.ensures.others (mem c.fill.new.bytes) c.fill.result c.fill.ensures.laid c.fill.ensures.last c.fill.ensures.others in
    record { laid = e.0; last = e.1; within = let z = c.fill.ensures.within in let y = c.lay_in-2.auto.bytes in omega arith; others = e.2 }
