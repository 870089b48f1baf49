use Rattle.std.proofs.Common.{◌≡◌, length, arith, rules}
use Rattle.std.proofs.lemmas.List.{length-take}
use Rattle.wire.specs.Sources.{source_bytes}
use Rattle.wire.proofs.Requests.{laid, request_alone}
use Rattle.wire.proofs.request.SourceId.request.Goals as goal

pub returns : goal.returns
returns c =
    let s = source_bytes c.args.self.now in
    let n : c.args.self.now.len ≡ length s = omega (arith, length-take c.args.self.now.len c.args.self.now.bytes, c.args.self.now.room, c.args.self.now.fits) in
    let e = laid c.unsigned_request-message.result c.copy_from_slice.new.self s c.args.time c.args.begin c.args.end c.args.self.now.len n c.unsigned_request-message.ensures (search rules) in
    record { bytes = e; fields = request_alone c.args.time c.args.begin c.args.end s _ (omega arith) (omega arith) (omega arith) e }
