use Rattle.std.proofs.Common.{◌+◌, ◌-◌, ◌≤◌, length, drop, sym, subst, arith}
use Rattle.std.proofs.lemmas.List.{take_at}
use Rattle.chain_shelf.specs.Records.{records, span}
use Rattle.chain_shelf.specs.Chain.{Kept, Before, spent}
use Rattle.chain_shelf.proofs.Puts.{free_apart, free_inside, free_out}
use Rattle.chain_shelf.specs.Sounds.{opened}
use Rattle.chain_shelf.proofs.Stores.{right_most}
use Rattle.chain_shelf.proofs.Writes.{put_kept}
use Rattle.chain_shelf.proofs.chain_shelf.ChainShelf.put_behind.Goals as goal

pub lay_packet-requires : goal.lay_packet-requires
lay_packet-requires c =
    let b = c.deref_mut.result.now in
    let n = span 10 (length c.args.packet.now) in
    let x = sym c.deref_mut.ensures.value in
    let kept = subst Kept x c.args.self.now.kept in
    let before = subst (λ b. Before b c.args.number c.args.prev) x c.requires.prev in
    let room = subst (λ b. spent b + n ≤ records b - 1) x c.requires.room in
    let s = opened b kept in
    record {
      prev = before.within;
      size = right_most (length c.args.packet.now) c.requires.proper;
      few = let l = kept.0.2 in let n = s.counted in omega arith;
      apart = free_apart b n s room;
      inside = free_inside b n s room;
      out = free_out b n s room c.args.number c.args.prev before.is;
    }

pub invariant_of-self : goal.invariant_of-self
invariant_of-self c =
    let w = c.lay_packet.new.bytes in
    let v = c.args.self.now.region in
    let e = take_at w (drop (length w) v.items) v.len (omega (arith, c.lay_packet.auto.bytes, c.deref_mut.ensures.len)) in
    let z = put_kept v.items c.deref_mut.result.now w _ c.args.number c.args.prev c.args.packet.now c.deref_mut.ensures.value e c.lay_packet.auto.bytes c.args.self.now.kept
    c.requires.prev c.requires.proper c.requires.absent (omega arith) c.requires.room c.lay_packet.ensures in
    let n = c.args.self.now.near in
    record { kept = z.0; placed = z.2 n.number n.prev c.requires.low c.args.self.now.placed }

pub returns-clause-held : goal.returns-clause-held
returns-clause-held c =
    let w = c.lay_packet.new.bytes in
    let v = c.args.self.now.region in
    let e = take_at w (drop (length w) v.items) v.len (omega (arith, c.lay_packet.auto.bytes, c.deref_mut.ensures.len)) in
    (put_kept v.items c.deref_mut.result.now w _ c.args.number c.args.prev c.args.packet.now c.deref_mut.ensures.value e c.lay_packet.auto.bytes c.args.self.now.kept
    c.requires.prev c.requires.proper c.requires.absent (omega arith) c.requires.room c.lay_packet.ensures).1
