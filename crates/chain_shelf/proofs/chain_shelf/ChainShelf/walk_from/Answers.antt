use Rattle.std.proofs.Common.{◌≡◌, length, sym, ap, ◌∙◌, subst, arith}
use Rattle.chain_shelf.specs.Records.{mem, records, next, trail, under, last}
use Rattle.chain_shelf.specs.Chain.{Kept, Before}
use Rattle.chain_shelf.specs.Sounds.{opened}
use Rattle.chain_shelf.proofs.Trails.{under_more}
use Rattle.chain_shelf.proofs.Walks.{Left, left_near, left_step, last_near}
use Rattle.chain_shelf.proofs.chain_shelf.ChainShelf.walk_from.Goals as goal

pub loop-at-init : goal.loop-at-init
loop-at-init c =
    let b = c.deref.result.now in
    let x = sym c.deref.ensures.value in
    let s = opened b (subst Kept x c.args.self.now.kept) in
    let n = c.args.near in
    let before = subst (λ b. Before b n.number n.prev) x c.requires.placed in
    (before.within, left_near b n.number n.prev s before, last_near b n.number n.prev s before c.args.number c.requires.low)

pub loop-at-smaller : goal.loop-at-smaller
loop-at-smaller c =
    let b = c.deref.result.now in
    let a = c.in-Some.at in
    let e : a ≡ next (mem b) c.loop-at.prev = c.in-Some.ensures.0 in
    let s = left_step (mem b) (records b) c.loop-at.prev a c.in-Some.ensures.1 (subst (Left (mem b) (records b) c.loop-at.prev) (sym e) c.loop-at.invariant.1) in
    let t = ap (λ t. length (trail (next (mem b)) (records b) t)) e in
    omega (arith, ap length s.2)

pub loop-at-preserved : goal.loop-at-preserved
loop-at-preserved c =
    let b = c.deref.result.now in
    let p = c.loop-at.prev in
    let a = c.in-Some.at in
    let k = c.args.number in
    let T = trail (next (mem b)) (records b) in
    let e : a ≡ next (mem b) p = c.in-Some.ensures.0 in
    let s = left_step (mem b) (records b) p a c.in-Some.ensures.1 (subst (Left (mem b) (records b) p) (sym e) c.loop-at.invariant.1) in
    let n = c.from.ensures ∙ c.number_at.ensures in (
      s.0,
      s.1,
      sym (ap (λ t. last p (under (mem b) k (T t))) (sym e) ∙ ap (λ hs. last p (under (mem b) k hs)) s.2 ∙ ap (last p) (under_more (mem b) k a (T (next (mem b) a)) (omega arith)))
          ∙ c.loop-at.invariant.2,
    )
