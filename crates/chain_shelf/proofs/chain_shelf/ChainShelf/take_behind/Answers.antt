use Rattle.std.proofs.Common.{◌≡◌, ℕ, ◌<◌, true, ◌+◌, ◌-◌, ◌/◌, ◌≤◌, List, ◌++◌, length, take, drop, Some, sym, ap, ◌∙◌, subst, arith, rules}
use Rattle.std.proofs.lemmas.List.{length-take-le, take_at}
use Rattle.shelf.specs.Store.{has, lookup, remove, length_of, written}
use Rattle.shelf.proofs.Kept.{units_remove}
use Rattle.chain_shelf.specs.Records.{mem, records, link, next, size, span, walk, gather, last, Inside}
use Rattle.chain_shelf.specs.Chain.{Kept, Before, TakenOut, held, pack}
use Rattle.chain_shelf.proofs.Counts.{last_in}
use Rattle.chain_shelf.proofs.Finds.{There, kept, there}
use Rattle.chain_shelf.proofs.Frames.{pack_length}
use Rattle.chain_shelf.specs.Sounds.{opened}
use Rattle.chain_shelf.proofs.Writes.{take_kept}
use Rattle.chain_shelf.proofs.chain_shelf.ChainShelf.take_behind.Goals as goal

-- the packet at h, behind the one at p, is taken from b, which is lent from v
module _ (v b : List ℕ) (k p h : ℕ) (x : b ≡ v) (whole : Kept v) (prev : Before v k p) (first : h ≡ next (mem b) p) (present : has (held v) k ≡ true) where
  pub found : There b k h
  found = there b v x k p h whole prev first present

  -- its n bytes go into the buffer B
  module _ (n : ℕ) (B : List ℕ) (e : n ≡ size (mem b) h) (long : 1500 ≤ length B) where
    pub fits : n ≤ length B
    fits = omega (arith, found.most)

    part : length (take n B) ≡ size (mem b) h
    part = length-take-le n B fits ∙ e

    pub copies : Inside (records b) (walk (link (mem b)) (span 10 (length (take n B))) h)
    copies = subst (λ z. Inside (records b) (walk (link (mem b)) (span 10 z) h)) (sym part) found.found.inside

    module _ (stop : ℕ) (stops : stop ≡ last h (walk (link (mem b)) (span 10 (length (take n B))) h)) where
      stop_is : stop ≡ last h (walk (link (mem b)) (span 10 (size (mem b) h)) h)
      stop_is = stops ∙ ap (λ z. last h (walk (link (mem b)) (span 10 z) h)) part

      pub stop_in : (0 < stop) × (stop < records b)
      stop_in =
          let i = found.found.inside (last h (walk (link (mem b)) (span 10 (size (mem b) h)) h)) (last_in h (walk (link (mem b)) ((size (mem b) h - 54 + 61) / 62) (link (mem b) h))) in
          (omega (arith, stop_is, i.0), omega (arith, stop_is, i.1))

      -- it is unlinked to w, which is the front of the region then; Z is what was copied
      module _ (w Z behind : List ℕ) (len : ℕ) (whole_front : length w ≡ len) (same : length w ≡ length b) (out : TakenOut (mem b) (mem w) p h stop)
          (laid : Z ≡ gather (mem b) (span 10 (length (take n B))) h 10 (length (take n B))) where
        abbrev r : List ℕ
        r = take len (w ++ behind)

        front : r ≡ w
        front = take_at w behind len whole_front

        pub leaves : Kept r × (held r ≡ remove k (held v)) × ((j q : ℕ) → j ≤ k → Before v j q → Before r j q)
        leaves = take_kept v b w r k p h stop x front same whole prev found stop_is out

        pub answers : (held r ≡ remove k (held v)) × (length r ≡ length v) × (Some n ≡ length_of (lookup (held v) k)) × (Z ++ drop n B ≡ written (lookup (held v) k) B)
        answers =
            let l = ap (λ b. lookup (held b) k) (sym x) ∙ found.held in
            let y : n ≡ length (pack (mem b) h).1 = e ∙ sym (pack_length (mem b) h) in
            let z : Z ≡ (pack (mem b) h).1 = laid ∙ ap (λ z. gather (mem b) (span 10 z) h 10 z) part in
            (leaves.1, ap length front ∙ same ∙ ap length x, ap Some y ∙ sym (ap length_of l), (λ i. z i ++ drop (y i) B) ∙ sym (ap (λ q. written q B) l))

pub read-requires : goal.read-requires
read-requires c = (omega arith, (found c.args.self.now.region.items c.deref_mut.result.now c.args.number c.args.prev c.read-first.result c.deref_mut.ensures.value c.args.self.now.kept c.requires.prev c.read-first.ensures c.requires.present).found.within)

pub slice_bounds-copy-end : goal.slice_bounds-copy-end
slice_bounds-copy-end c =
    let l = fits c.args.self.now.region.items c.deref_mut.result.now c.args.number c.args.prev c.read-first.result c.deref_mut.ensures.value c.args.self.now.kept c.requires.prev c.read-first.ensures c.requires.present
    c.from-size.result c.args.buffer.now (c.from-size.ensures ∙ c.read.ensures) c.requires.long in
    search rules

pub slice_bounds-copy-end-2 : goal.slice_bounds-copy-end-2
slice_bounds-copy-end-2 c =
    sym (length-take-le c.from-size.result c.args.buffer.now (fits c.args.self.now.region.items c.deref_mut.result.now c.args.number c.args.prev c.read-first.result c.deref_mut.ensures.value c.args.self.now.kept c.requires.prev c.read-first.ensures c.requires.present
    c.from-size.result c.args.buffer.now (c.from-size.ensures ∙ c.read.ensures) c.requires.long))

pub copy-stop-requires : goal.copy-stop-requires
copy-stop-requires c = record {
  low = omega arith;
  high = omega arith;
  at = (found c.args.self.now.region.items c.deref_mut.result.now c.args.number c.args.prev c.read-first.result c.deref_mut.ensures.value c.args.self.now.kept c.requires.prev c.read-first.ensures c.requires.present).found.within;
  inside = copies c.args.self.now.region.items c.deref_mut.result.now c.args.number c.args.prev c.read-first.result c.deref_mut.ensures.value c.args.self.now.kept c.requires.prev c.read-first.ensures c.requires.present
      c.from-size.result c.args.buffer.now (c.from-size.ensures ∙ c.read.ensures) c.requires.long;
}

pub unlink-requires : goal.unlink-requires
unlink-requires c =
    let b = c.deref_mut.result.now in
    let h = c.read-first.result in
    let t = found c.args.self.now.region.items c.deref_mut.result.now c.args.number c.args.prev c.read-first.result c.deref_mut.ensures.value c.args.self.now.kept c.requires.prev c.read-first.ensures c.requires.present in
    let i = stop_in c.args.self.now.region.items c.deref_mut.result.now c.args.number c.args.prev c.read-first.result c.deref_mut.ensures.value c.args.self.now.kept c.requires.prev c.read-first.ensures c.requires.present
    c.from-size.result c.args.buffer.now (c.from-size.ensures ∙ c.read.ensures) c.requires.long c.copy-stop.result c.copy-stop.ensures.last in
    let y = units_remove (span 10) c.args.number (held b) (pack (mem b) h).1 t.held in
    let x = ap (span 10) (pack_length (mem b) h) in
    let k = kept b c.args.self.now.region.items c.deref_mut.ensures.value c.args.number c.args.prev h c.args.self.now.kept c.requires.prev c.read-first.ensures in
    let u = (opened b k).counted in
    record { prev = omega arith; first = t.found.within; stop = i.1; some = i.0; size = t.most; used = omega arith }

pub invariant_of-self : goal.invariant_of-self
invariant_of-self c =
    let z = leaves c.args.self.now.region.items c.deref_mut.result.now c.args.number c.args.prev c.read-first.result c.deref_mut.ensures.value c.args.self.now.kept c.requires.prev c.read-first.ensures c.requires.present
    c.from-size.result c.args.buffer.now (c.from-size.ensures ∙ c.read.ensures) c.requires.long
    c.copy-stop.result c.copy-stop.ensures.last c.unlink.new.bytes c.copy-stop.new.buffer (drop (length c.unlink.new.bytes) c.args.self.now.region.items) c.args.self.now.region.len (omega (arith, c.unlink.auto.bytes, c.deref_mut.ensures.len)) c.unlink.auto.bytes c.unlink.ensures c.copy-stop.ensures.laid in
    let n = c.args.self.now.near in
    record { kept = z.0; placed = z.2 n.number n.prev c.requires.low c.args.self.now.placed }

pub returns : goal.returns
returns c =
    let z = answers c.args.self.now.region.items c.deref_mut.result.now c.args.number c.args.prev c.read-first.result c.deref_mut.ensures.value c.args.self.now.kept c.requires.prev c.read-first.ensures c.requires.present
    c.from-size.result c.args.buffer.now (c.from-size.ensures ∙ c.read.ensures) c.requires.long
    c.copy-stop.result c.copy-stop.ensures.last c.unlink.new.bytes c.copy-stop.new.buffer (drop (length c.unlink.new.bytes) c.args.self.now.region.items) c.args.self.now.region.len (omega (arith, c.unlink.auto.bytes, c.deref_mut.ensures.len)) c.unlink.auto.bytes c.unlink.ensures c.copy-stop.ensures.laid in
    record { held = z.0; count = z.1; size = z.2; buffer = z.3 }
