use Rattle.std.proofs.Common.{◌≡◌, ℕ, ◌+◌, ◌-◌, ◌/◌, ◌<◌, List, length, sym, ap, ◌∙◌, subst, arith}
use Rattle.chain_shelf.specs.Records.{mem, records, link, in_use, span, walk, Apart, Inside}
use Rattle.chain_shelf.proofs.Fills.{cnt_first}
use Rattle.chain_shelf.proofs.Lays.{walk_head, laid_in}
use Rattle.chain_shelf.proofs.packets.lay_packet.Goals as goal

-- the first free record lies within
at_first : (b xs : List ℕ) → Inside (records b) (walk (link (mem b)) (span 10 (length xs)) (link (mem b) 0)) → link (mem b) 0 < records b
at_first b xs i = (i (link (mem b) 0) (cnt_first (link (mem b) 0) (walk (link (mem b)) ((length xs - 54 + 61) / 62) (link (mem b) (link (mem b) 0))))).1

pub head-requires : goal.head-requires
head-requires c =
    let l = at_first c.args.bytes.now c.args.packet.now c.requires.inside in
    let e : c.read-first.result ≡ link (mem c.args.bytes.now) 0 = c.read-first.ensures in
    omega arith

pub fill-stop-requires : goal.fill-stop-requires
fill-stop-requires c =
    let b = c.args.bytes.now in
    let xs = c.args.packet.now in
    let v = mem c.head.new.bytes in
    let l = at_first b xs c.requires.inside in
    let e : c.read-first.result ≡ link (mem b) 0 = c.read-first.ensures in
    let w = walk_head (mem b) v v v v v (records b) c.args.prev 0 c.read-first.result 0 0 xs e c.requires.apart c.requires.inside c.requires.out c.head.ensures.others in
    let z : records c.head.new.bytes ≡ records b = ap (λ k. k / 64) c.head.auto.bytes in
    record { low = omega arith; high = omega arith; at = omega arith; apart = subst Apart (sym w) c.requires.apart; inside = λ q y. let i = subst (Inside (records b)) (sym w) c.requires.inside q y in (i.0, omega (arith, i.1)) }

pub returns : goal.returns
returns c =
    let b = c.args.bytes.now in
    let used : c.read.result + c.span_of.result ≡ in_use (mem b) + span 10 (length c.args.packet.now) = cc (c.read.ensures, c.span_of.ensures) in
    laid_in (mem b) (mem c.head.new.bytes) (mem c.fill-stop.new.bytes) (mem c.write.new.bytes) (mem c.lead.new.bytes) (mem c.write-2.new.bytes) (records b)
    c.args.prev c.args.number c.read-first.result c.fill-stop.result c.read-free.result c.args.packet.now c.read-first.ensures c.requires.apart c.requires.inside c.requires.out c.head.ensures.others
    (c.head.ensures.after ∙ c.read-after.ensures) c.head.ensures.number c.head.ensures.size
    c.fill-stop.ensures.laid c.fill-stop.ensures.last c.fill-stop.ensures.others
    c.read-free.ensures c.write.ensures.there c.write.ensures.others
    c.lead.ensures.free (c.lead.ensures.last ∙ c.end_of-last.ensures) (c.lead.ensures.used ∙ used) c.lead.ensures.others
    c.write-2.ensures.there c.write-2.ensures.others
