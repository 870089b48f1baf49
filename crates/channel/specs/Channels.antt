-- What a channel of the code means.
use Rattle.std.specs.Prelude.{ℕ, Option, Result}
use Rattle.std.specs.Option.{option_map}
use Rattle.wire.specs.Sources.{source_bytes}
use Rattle.handover.specs.declared.fault.ChannelFault.{ChannelFault}
use Rattle.handover.specs.Words.{answer}
use Rattle.sink.specs.declared.Sink.{Ghosts as Sink}
use Rattle.shelf.specs.declared.Shelf.{Ghosts as Shelf}
use Rattle.channel.specs.declared.claim.Claim.{Claim}
use Rattle.channel.specs.declared.channel.Owed.{Owed}
use Rattle.channel.specs.declared.channel.Open.{Open}
use Rattle.channel.specs.declared.channel.Channel.{Channel}
use Rattle.channel.specs.States.{Opened, State}

-- the claim that is out of a channel with this number
abbrev pub claim_out : ℕ → Owed → Claim
claim_out number w = record { channel = number; serial = w.serial; begin = w.begin; end = w.end }

-- an open channel with this last number
abbrev pub opened_with : ℕ → Open → Opened
opened_with last o = record {
  number = o.number;
  source = source_bytes o.source;
  last = last;
  out = option_map (claim_out o.number) o.out;
  claims = o.claims;
}

-- a channel of the code, open or closed, whatever its sink and its shelf mean
abbrev pub opened_of : {X Y : Type 0} → Channel X Y → Option Opened
opened_of c = option_map (opened_with c.handover.last) c.open

-- an open channel with this last number, and the claim that it gives
abbrev pub told_claim : ℕ → Result (Open × Owed) ChannelFault → Result (Opened × Claim) ChannelFault
told_claim last r = answer r (λ v. (opened_with last v.0, claim_out v.0.number v.1))

module _ {X Y : Type 0} (sink : Sink X) (shelf : Shelf Y) where
  -- the state of a channel
  abbrev pub state : Channel X Y → State sink.Meaning
  state c = record {
    opened = opened_of c;
    shelf = shelf.means c.handover.shelf;
    sink = sink.means c.handover.sink;
  }
