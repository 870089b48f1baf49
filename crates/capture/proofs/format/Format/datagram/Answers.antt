use Rattle.std.proofs.Common.{◌≡◌, rules}
use Rattle.capture.specs.Internet.{told_datagram}
use Rattle.capture.specs.Datagrams.{datagram_in}
use Rattle.capture.proofs.Deliver.{told_delivers}
use Rattle.capture.proofs.format.Format.datagram.Goals as goal

pub returns-in_err-packet-clause-delivers : goal.returns-in_err-packet-clause-delivers
returns-in_err-packet-clause-delivers c =
    let e : told_datagram c.from_residual.result ≡ datagram_in c.args.self.link c.args.record.now.original c.args.record.now.frame.now = search rules in
    told_delivers _ _ _ _ e

pub returns-in_err-carried_by-clause-delivers : goal.returns-in_err-carried_by-clause-delivers
returns-in_err-carried_by-clause-delivers c =
    let e : told_datagram c.from_residual-in_err-carried_by.result ≡ datagram_in c.args.self.link c.args.record.now.original c.args.record.now.frame.now = search rules in
    told_delivers _ _ _ _ e

pub returns-clause-delivers : goal.returns-clause-delivers
returns-clause-delivers c =
    let e : told_datagram c.datagram.result ≡ datagram_in c.args.self.link c.args.record.now.original c.args.record.now.frame.now = search rules in
    told_delivers _ _ _ _ e
