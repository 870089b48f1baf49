use Rattle.std.proofs.Common.{◌≡◌, ℕ, ◌+◌, ◌-◌, ◌*◌, ◌/◌, ◌<◌, ◌≤◌, List, ◌∷◌, ◌++◌, length, take, drop, sym, ap, ◌∙◌, subst, arith, length-append, rules}
use Rattle.std.proofs.lemmas.List.{take_rest, length-drop}
use borrow.Rule.Slice.PartMut.{put_mid}
use Rattle.chain_shelf.specs.Records.{mem, records, cut, link, span, walk, gather, Inside, last}
use Rattle.chain_shelf.proofs.Cuts.{cut_is, cut_length}
use Rattle.chain_shelf.proofs.Fills.{span_one, gather_one, walk_next, gather_next, behind, inside_rest, cnt_first}
use Rattle.chain_shelf.proofs.records.+copy.Goals as goal

-- what a copy out of one record gives
drawn : (b x : List ℕ) (q r o n k : ℕ) → q ≡ r → k ≡ n → o + n ≤ 64 → r < records b → x ≡ take k (drop (64 * q + o) b) → x ≡ cut (mem b) r o n
drawn b x q r o n k f e l a h = h ∙ (λ i. take (e i) (drop (64 * f i + o) b)) ∙ sym (cut_is b r o n (omega arith))

pub returns-then-buffer-room : goal.returns-then-buffer-room
returns-then-buffer-room t c =
    let b = c.args.bytes.now in
    let n = length c.args.buffer.now in
    let o = c.args.offset in
    let r = c.args.index in
    let q = c.from.result in
    let k : (64 * q + o + n) - (64 * q + o) ≡ n = omega arith in
    record {
      laid = drawn b c.copy_from_slice.new.self q r o n ((64 * q + o + n) - (64 * q + o)) c.from.ensures k (omega arith) (omega arith) c.copy_from_slice.ensures.after ∙ sym (gather_one (mem b) r o n (omega arith));
      last = sym (ap (λ f. last r (walk (link (mem b)) f r)) (span_one o n (omega arith)));
    }

-- the first part X of the buffer B is written out of one record, and a is the next one
module _ (b B X : List ℕ) (q r o a : ℕ) (same : q ≡ r) (lo : 2 ≤ o) (hi : o < 64) (at : r < records b) (more : 64 - o < length B) (next : a ≡ link (mem b) r)
    (from : X ≡ take ((64 * q + o + (64 - o)) - (64 * q + o)) (drop (64 * q + o) b)) where
  -- the buffer then, and its rest
  abbrev Y : List ℕ
  Y = X ++ drop (64 - o) B

  abbrev P : List ℕ
  P = take (length Y - (64 - o)) (drop (64 - o) Y)

  part : X ≡ cut (mem b) r o (64 - o)
  part = drawn b X q r o (64 - o) ((64 * q + o + (64 - o)) - (64 * q + o)) same (omega arith) (omega arith) at from

  part_length : length X ≡ 64 - o
  part_length = ap length part ∙ cut_length (mem b) r o (64 - o)

  left : length P ≡ length B - (64 - o)
  left =
      let y : length Y ≡ length B = let x = part_length in simp (length-append, length-drop) (omega arith) in
      ap length (take_rest Y (64 - o)) ∙ length-drop (64 - o) Y ∙ ap (λ t. t - (64 - o)) y

  chain : walk (link (mem b)) (span o (length B)) r ≡ r ∷ walk (link (mem b)) (span 2 (length P)) a
  chain = walk_next (mem b) r o (length B) (length P) a lo hi more left next

  pub goes_on : Inside (records b) (walk (link (mem b)) (span o (length B)) r) → (length P ≡ length B - (64 - o)) × (a < records b) × Inside (records b) (walk (link (mem b)) (span 2 (length P)) a)
  goes_on h =
      let i = inside_rest (records b) r (walk (link (mem b)) (span 2 (length P)) a) (subst (Inside (records b)) chain h) in
      (left, (i a (cnt_first a (walk (link (mem b)) ((length P - 62 + 61) / 62) (link (mem b) a)))).1, i)

  pub ends : (Z : List ℕ) (l : ℕ) → Z ≡ gather (mem b) (span 2 (length P)) a 2 (length P) → l ≡ last a (walk (link (mem b)) (span 2 (length P)) a)
      → (put_mid (64 - o) (length Y - (64 - o)) Y Z ≡ gather (mem b) (span o (length B)) r o (length B)) × (l ≡ last r (walk (link (mem b)) (span o (length B)) r))
  ends Z l e f = (
    behind X (drop (64 - o) B) Z (64 - o) part_length ∙ ap (λ t. t ++ Z) part ∙ ap (λ t. cut (mem b) r o (64 - o) ++ t) e
        ∙ sym (gather_next (mem b) r o (length B) (length P) a lo hi more left next),
    f ∙ sym (ap (last r) chain),
  )

pub copy-requires : goal.copy-requires
copy-requires t c =
    let i = goes_on c.args.bytes.now c.args.buffer.now c.copy_from_slice-2.new.self c.from.result c.args.index c.args.offset c.read-after.result
    c.from.ensures c.requires.low c.requires.high c.requires.at (omega arith) c.read-after.ensures c.copy_from_slice-2.ensures.after c.requires.inside in
    let n = i.0 in
    (search rules, (omega arith, (omega arith, (i.1, i.2))))

pub returns : goal.returns
returns t c =
    let e = ends c.args.bytes.now c.args.buffer.now c.copy_from_slice-2.new.self c.from.result c.args.index c.args.offset c.read-after.result
    c.from.ensures c.requires.low c.requires.high c.requires.at (omega arith) c.read-after.ensures c.copy_from_slice-2.ensures.after c.copy.new.buffer c.copy.result c.copy.ensures.laid c.copy.ensures.last in
    record { laid = e.0; last = e.1 }
