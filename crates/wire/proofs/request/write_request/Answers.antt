use Rattle.std.proofs.Common.{ap, ◌∙◌, arith, rules}
use Rattle.wire.specs.Request.{source_right, request}
use Rattle.wire.specs.Sources.{source_bytes}
use Rattle.wire.proofs.Requests.{made, wrote, requests}
use Rattle.wire.proofs.request.write_request.Goals as goal

pub returns : goal.returns
returns c =
    let s = c.args.source.now in
    let m = made (source_right s) (source_bytes c.in_ok-source.source) s c.in_ok-source.ensures in
    let e = wrote c.args.buffer.now c.write_front.new.buffer c.request.result s c.args.time c.args.begin c.args.end (omega arith) m.0 (search rules)
    (c.request.ensures.bytes ∙ ap (request c.args.time c.args.begin c.args.end) m.1) c.write_front.ensures in
    record {
      answer = search rules;
      after = e;
      fields = λ _. requests c.args.buffer.now _ s c.args.time c.args.begin c.args.end (omega arith) (omega arith) (omega arith) (omega arith) m.0 e;
    }
