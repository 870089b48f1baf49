-- The datagram in a record's frame, layer by layer.
use Rattle.std.specs.Prelude.{ℕ, cond, List, length, Err, Result, nat_lt}
use Rattle.capture.specs.declared.format.Link.{Link}
use Rattle.capture.specs.declared.datagram.Skip.{Skip}
use Rattle.capture.specs.declared.datagram.Skip.TheVariants.{Truncated}
use Rattle.capture.specs.Formats.{and_then}
use Rattle.capture.specs.Ether.{packet_in}
use Rattle.capture.specs.Internet.{Sent, carried_in, udp_in}

-- a frame that was captured in part is not looked at
abbrev pub datagram_in : Link → ℕ → List ℕ → Result Sent Skip
datagram_in link original frame =
    cond (nat_lt (length frame) original) (Err Truncated)
    (and_then (packet_in link frame) (λ p.
    and_then (carried_in p) (λ c.
    udp_in c.group c.bytes)))
