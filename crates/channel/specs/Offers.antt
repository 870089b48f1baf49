-- An offer: what is handed over in a channel that is open, and a refusal of one that is closed.
use Rattle.std.specs.Prelude.{ℕ, List, Err, Result}
use Rattle.sink.specs.Events.{Event}
use Rattle.handover.specs.declared.fault.ChannelFault.TheVariants.{Phase}
use Rattle.handover.specs.declared.fault.OfferFault.{OfferFault}
use Rattle.handover.specs.declared.fault.OfferFault.TheVariants.{Channel}
use Rattle.handover.specs.declared.handover.Taken.{Taken}
use Rattle.handover.specs.Words.{either}
use Rattle.handover.specs.Offers.{flow_answer, flow_after}
use Rattle.channel.specs.States.{State, flow_in, left_by}

module _ {M : Type 0} (step : Event → M → M) where
  -- an offer's answer: last, and by how much it grew, or the refusal
  abbrev pub offer_answer : State M → List ℕ → List ℕ → Result Taken OfferFault
  offer_answer c p scratch = either c.opened (Err (Channel Phase)) (λ o. flow_answer step (flow_in c o scratch) p)

  -- the channel after an offer; a refused one leaves it as it was
  abbrev pub offer_after : State M → List ℕ → List ℕ → State M
  offer_after c p scratch = either c.opened c (λ o. left_by o (flow_after step (flow_in c o scratch) p))

  -- the scratch buffer after an offer: each packet taken from the shelf was written over the one before
  abbrev pub offer_scratch : State M → List ℕ → List ℕ → List ℕ
  offer_scratch c p scratch = either c.opened scratch (λ o. (flow_after step (flow_in c o scratch) p).scratch)
