use Rattle.std.proofs.Common.{◌≡◌, Ok, rules}
use Rattle.wire.specs.declared.message.Packet.{Packet}
use Rattle.wire.specs.Reading.{told, reading}
use Rattle.wire.proofs.Judging.{told_judged}
use Rattle.wire.proofs.reader.read.Goals as goal

pub returns-in_err-header-clause-judged : goal.returns-in_err-header-clause-judged
returns-in_err-header-clause-judged c =
    let e : told c.from_residual.result ≡ reading c.args.packet.now = search rules in
    told_judged _ _ e

pub returns-in_err-message-clause-judged : goal.returns-in_err-message-clause-judged
returns-in_err-message-clause-judged c =
    let e : told c.from_residual-in_err-message.result ≡ reading c.args.packet.now = search rules in
    told_judged _ _ e

pub returns-clause-judged : goal.returns-clause-judged
returns-clause-judged c =
    let h = c.in_ok-header.header in
    let q : Packet = record { number = h.number; flag = h.flag; link = h.link; message = c.in_ok-message.message } in
    let e : told (Ok q) ≡ reading c.args.packet.now = search rules in
    told_judged c.args.packet.now (Ok q) e
