use Rattle.std.proofs.Common.{◌≡◌, false, None, length, vec_items, sym, ap, ◌∙◌, arith}
use Rattle.chain_shelf.specs.Chain.{held}
use Rattle.shelf.specs.Store.{has, length_of, written}
use Rattle.shelf.proofs.Kept.{lookup_none, remove_none}
use Rattle.chain_shelf.proofs.Stores.{take_ok, take_wrote, take_done}
use Rattle.chain_shelf.proofs.chain_shelf.ChainShelfShelf.take.Goals as goal

pub returns-then-not-stands_behind : goal.returns-then-not-stands_behind
returns-then-not-stands_behind c =
    let b = vec_items c.args.self.now.region in
    let d = vec_items c.seek_and_note-prev.new.self.region in
    let x : d ≡ b = ap vec_items c.seek_and_note-prev.ensures.region in
    let k = c.args.number in
    let B = c.args.buffer.now in
    let a : has (held b) k ≡ false = sym (ap (λ b. has (held b) k) x) ∙ sym c.stands_behind.ensures ∙ c.if-not-stands_behind.true in
    let n = lookup_none (held b) k a in
    record {
      answer = take_ok b k B None (omega arith) (sym (ap length_of n));
      buffer = take_wrote b k B B (omega arith) (sym (ap (λ o. written o B) n));
      after = take_done b d k B (omega arith) (ap held x ∙ sym (remove_none (held b) k a)) (ap length x);
      refused = tt;
      absent = λ _. c.seek_and_note-prev.ensures.region;
    }
