-- The number of each refusal of a channel, and what stands beside it; and their texts.
use Rattle.std.specs.Prelude.{ℕ, List, ◌++◌, Some, None, codes, decimal, Option}
use Rattle.wire.specs.declared.fault.RequestFault.{RequestFault}
use Rattle.wire.specs.declared.fault.RequestFault.TheVariants.{Short as ShortBuffer, Source as WrongSource}
use Rattle.wire.specs.Faults.{fault_number}
use Rattle.wire.specs.Texts.{fault_text}
use Rattle.shelf.specs.Store.{put_fault_number}
use Rattle.common.specs.Texts.{refused_text}
use Rattle.handover.specs.declared.fault.ChannelFault.{ChannelFault}
use Rattle.handover.specs.declared.fault.ChannelFault.TheVariants.{Short, Reset, Parts, Ahead, Behind, Far, Wide, Owed, Whole, Spent, Other, Zero, Source, Phase}
use Rattle.handover.specs.declared.fault.OfferFault.{OfferFault}
use Rattle.handover.specs.declared.fault.OfferFault.TheVariants.{Reader, Shelf, Channel}

-- the number of each refusal of a channel, and the next number beside a reset's
abbrev pub channel_fault : ChannelFault → ℕ × Option ℕ
channel_fault Short = (1, None)
channel_fault (Reset n) = (8, Some n)
channel_fault Parts = (9, None)
channel_fault Ahead = (10, None)
channel_fault Behind = (11, None)
channel_fault Far = (12, None)
channel_fault Wide = (14, None)
channel_fault Owed = (15, None)
channel_fault Whole = (16, None)
channel_fault Spent = (17, None)
channel_fault Other = (18, None)
channel_fault Zero = (19, None)
channel_fault Source = (20, None)
channel_fault Phase = (23, None)

-- a refusal of a request, as the channel's
abbrev pub request_refused : RequestFault → ChannelFault
request_refused ShortBuffer = Short
request_refused WrongSource = Source

-- the number of each refusal of an offer: that of the reader, the shelf or the channel
abbrev pub offer_fault_number : OfferFault → ℕ
offer_fault_number (Reader f) = fault_number f
offer_fault_number (Shelf f) = put_fault_number f
offer_fault_number (Channel f) = (channel_fault f).0

-- a refusal of a call that is no offer
abbrev pub call_fault_text : ChannelFault → List ℕ
call_fault_text f = refused_text (channel_fault f).0

-- the next number stands beside a reset's
abbrev pub next_text : Option ℕ → List ℕ
next_text None = codes " by channel"
next_text (Some x) = codes " by channel next=" ++ decimal x

abbrev pub channel_text : ℕ × Option ℕ → List ℕ
channel_text x = refused_text x.0 ++ next_text x.1

-- an offer's refusal says who gave it
abbrev pub offer_fault_text : OfferFault → List ℕ
offer_fault_text (Reader f) = fault_text f
offer_fault_text (Shelf f) = refused_text (put_fault_number f) ++ codes " by shelf"
offer_fault_text (Channel f) = channel_text (channel_fault f)
