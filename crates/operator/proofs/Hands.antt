-- What an offer makes of the claim that is out.
use Rattle.std.proofs.Common.{◌≡◌, ℕ, List, Some, None, Option, sym, refl, ap, ◌∙◌}
use Rattle.sink.specs.Events.{Event}
use Rattle.handover.specs.Words.{either}
use Rattle.handover.specs.Offers.{flow_after}
use Rattle.channel.specs.declared.claim.Claim.{Claim}
use Rattle.channel.specs.States.{Opened, State, flow_in, left_by}
use Rattle.channel.specs.Offers.{offer_after}
use Rattle.operator.specs.Hands.{out_of, IsOut}

module _ {M : Type 0} (step : Event → M → M) (c : State M) (p b : List ℕ) where
  -- an offer leaves the claim that is out
  out_stays : out_of (offer_after step c p b).opened ≡ out_of c.opened
  out_stays = go c.opened refl
    where
      go : (x : Option Opened) → c.opened ≡ x → out_of (either x c (λ o. left_by o (flow_after step (flow_in c o b) p))).opened ≡ out_of c.opened
      go None e = refl
      go (Some o) e = ap out_of (sym e)

  pub own_offered : (d : State M) (h : Option Claim) → d ≡ offer_after step c p b → IsOut c.opened h → IsOut d.opened h
  own_offered d h is own k e = ap (λ (x : State M). out_of x.opened) is ∙ out_stays ∙ own k e
