use Rattle.std.proofs.Common.{◌≡◌, ◌*◌, length, ap, ◌∙◌, rules, arith, zero-mul}
use Rattle.std.specs.Slice.Iter.{chunks_exact_rest, chunks_exact_size}
use Rattle.std.specs.Iterator.Runs.{IsChunksExactRun}
use Rattle.wire.proofs.Chunks.{fits, Reached, answered}
use Rattle.wire.proofs.reader.first_wrong.Goals as goal

pub find_map-requires-clause-callable : goal.find_map-requires-clause-callable
find_map-requires-clause-callable g c = record {
  at = λ xs t q x u y k s.
      let n = g.P.Point.BYTES in
      let l = ap (λ s. length (chunks_exact_rest s)) c.enumerate.ensures.source ∙ ap length c.chunks_exact.ensures.rest in
      let r : Reached n (length c.args.points.now) c.enumerate.result = record { size_is = search rules; within = omega (arith, ap (λ k. k * n) c.enumerate.ensures.count, zero-mul n, l) } in
      let f = fits n (length c.args.points.now) xs c.enumerate.result t u x r y s in
      search rules;
}

pub returns : goal.returns
returns g c =
    let n = g.P.Point.BYTES in
    let ps = c.args.points.now in
    let r = c.find_map.ensures.runs in
    let e = c.enumerate.ensures.runs r.0 r.0.seen r.1 in
    let q = e.1.0 in
    let from : chunks_exact_size q.from ≡ n = ap chunks_exact_size e.1.1 ∙ (search rules) in
    let rest : chunks_exact_rest q.from ≡ ps = ap chunks_exact_rest e.1.1 ∙ (search rules) in
    let cut : IsChunksExactRun q n ps = rw (from, rest) at (c.chunks_exact.ensures.runs q q.seen (rw from g.met.P.Point.nonempty)) in
    answered n g.P.Update.wrong ps r.0 q e.0 e.1.2.0 cut _ _ c.find_map.result r.2 (λ x o f k. search rules) (λ x o k. search rules) g.met.P.Point.nonempty c.requires e.1.2.1
