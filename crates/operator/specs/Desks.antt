-- What an operator's actions come to.
use Rattle.std.specs.Prelude.{◌≡◌, ℕ, true, List, [], ◌∷◌, ◌++◌, Some, None, vec_items, Option, Result}
use Rattle.std.specs.Option.{option_map, option_and_then}
use Rattle.std.specs.Result.{result_ok}
use Rattle.sink.specs.Events.{Event}
use Rattle.sink.specs.declared.Sink.{Ghosts as Sink}
use Rattle.shelf.specs.declared.Shelf.{Ghosts as Shelf}
use Rattle.order.specs.Machine.{Call, settled, History}
use Rattle.order.specs.Promise.{Making}
use Rattle.handover.specs.declared.fault.ChannelFault.{ChannelFault}
use Rattle.handover.specs.Words.{either, answer}
use Rattle.channel.specs.declared.claim.Claim.{Claim}
use Rattle.channel.specs.States.{State}
use Rattle.channel.specs.Channels.{state}
use Rattle.channel.specs.Offers.{offer_answer, offer_scratch}
use Rattle.channel.specs.Calls.{make_answer, claim_answer, claim_buffer, settle_answer, restart_answer}
use Rattle.channel.specs.Kept.{Promise}
use Rattle.channel.specs.Follows.{Follows, Ask, make, offer, claim, settle, restart, noted, taken, after}
use Rattle.operator.specs.declared.action.Action.{Action}
use Rattle.operator.specs.declared.action.Action.TheVariants.{Make, Offer, Claim as Claims, Settle, Restart}
use Rattle.operator.specs.declared.action.Asked.{Asked}
use Rattle.operator.specs.declared.action.Reply.{Reply}
use Rattle.operator.specs.declared.desk.Desk as declared
use Rattle.operator.specs.declared.action.Reply.TheVariants.{Made, Offered, Claimed, Settled, Restarted, NoClaim}

-- what an operator has: the channel, the claim in hand, and the buffer that offers and claims are lent
pub record Desk (M : Type 0) : Type 0 where
  pub channel : State M
  pub hand : Option Claim
  pub buffer : List ℕ

-- The call that an action makes, if it makes one: none is settled where no claim is in hand.
abbrev pub asks : {M : Type 0} → Action → Desk M → Option Ask
asks (Make number source first) d = Some (make number (vec_items source) first)
asks (Offer p) d = Some (offer (vec_items p) d.buffer)
asks (Claims time) d = Some (claim time d.buffer)
asks Settle d = option_map settle d.hand
asks (Restart n) d = Some (restart n)

-- the claim in hand after a call: a claim that is given goes there, and one that is settled is gone
abbrev pub hand_after : {M : Type 0} → Ask → State M → Option Claim → Option Claim
hand_after (make number source first) c h = h
hand_after (offer p scratch) c h = h
hand_after (claim time buffer) c h = either (result_ok (claim_answer c buffer)) h (λ k. Some k)
hand_after (settle k) c h = None
hand_after (restart n) c h = h

-- what a claim asks for
abbrev pub asked_of : Claim → Asked
asked_of k = record { channel = k.channel; serial = k.serial; begin = k.begin; end = k.end }

-- the reply to a claim
abbrev pub claim_reply : {M : Type 0} → Desk M → Result Asked ChannelFault
claim_reply d = answer (claim_answer d.channel d.buffer) asked_of

-- the reply to a settlement: how many numbers of the claim in hand are missing, if one is in hand
abbrev pub settle_reply : {M : Type 0} → Desk M → Option ℕ
settle_reply d = option_and_then (λ k. result_ok (settle_answer d.channel k)) d.hand

-- the call of a settlement, by the reply: none is made where no claim is in hand, and the claim in hand is taken
abbrev pub settling : Option ℕ → List Call
settling r = either r [] (λ n. settled true ∷ [])

-- the oldest of some calls, the newest first, is a making that was taken
abbrev pub Opens : List Call → Type 0
Opens [] = ⊥
Opens (x ∷ []) = Making x
Opens (x ∷ y ∷ calls) = Opens (y ∷ calls)

module _ {M : Type 0} (step : Event → M → M) where
  -- the buffer after a call
  abbrev pub buffer_after : Ask → State M → List ℕ → List ℕ
  buffer_after (make number source first) c b = b
  buffer_after (offer p scratch) c b = offer_scratch step c p scratch
  buffer_after (claim time buffer) c b = claim_buffer c time buffer
  buffer_after (settle k) c b = b
  buffer_after (restart n) c b = b

  -- what the operator has after a call
  abbrev pub asked_after : Ask → Desk M → Desk M
  asked_after x d = record {
    channel = after step x d.channel;
    hand = hand_after x d.channel d.hand;
    buffer = buffer_after x d.channel d.buffer;
  }

  -- what the operator has after an action
  abbrev pub desk_after : Action → Desk M → Desk M
  desk_after a d = either (asks a d) d (λ x. asked_after x d)

  -- the reply to it
  abbrev pub reply_to : Action → Desk M → Reply
  reply_to (Make number source first) d = Made (make_answer d.channel (vec_items source) first)
  reply_to (Offer p) d = Offered (offer_answer step d.channel (vec_items p) d.buffer)
  reply_to (Claims time) d = Claimed (claim_reply d)
  reply_to Settle d = either (settle_reply d) NoClaim (λ n. Settled n)
  reply_to (Restart n) d = Restarted (restart_answer d.channel n)

  -- the call that it made, if it made one, and whether that was taken
  abbrev pub call_of : Action → Desk M → List Call
  call_of a d = either (asks a d) [] (λ x. noted x (taken step x d.channel) ∷ [])

  -- what the operator has after a list of actions, the first action first
  abbrev pub desks_after : List Action → Desk M → Desk M
  desks_after [] d = d
  desks_after (a ∷ more) d = desks_after more (desk_after a d)

  -- the replies to them
  abbrev pub replies_to : List Action → Desk M → List Reply
  replies_to [] d = []
  replies_to (a ∷ more) d = reply_to a d ∷ replies_to more (desk_after a d)

  -- the calls that they made, the newest first
  abbrev pub calls_of : List Action → Desk M → List Call
  calls_of [] d = []
  calls_of (a ∷ more) d = calls_of more (desk_after a d) ++ call_of a d

  -- THE CLAUSE of calls, the newest first, that lead from one state of a channel to another. Whatever history the channel followed, it follows that history with the
  -- calls added, and keeps the promise of it. Calls that open the channel are a history of their own, from what the sink meant before. Where none is made nothing changes.
  pub record GoesBy (calls : List Call) (c d : State M) : Type 0 where
    pub on : (before : M) (h : History) → Follows step before h c → Follows step before (calls ++ h) d × Promise step before (calls ++ h) d
    pub begins : Opens calls → Follows step c.sink calls d × Promise step c.sink calls d
    pub none : calls ≡ [] → d ≡ c

-- the first replies put in the first places of a table, as many as it has
abbrev pub placed : List Reply → List Reply → List Reply
placed [] old = old
placed (r ∷ rs) [] = []
placed (r ∷ rs) (o ∷ os) = r ∷ placed rs os

module _ {X Y : Type 0} (sink : Sink X) (shelf : Shelf Y) where
  -- what an operator has, of the code's values: a desk, and the buffer
  abbrev pub desk : declared.Desk X Y → List ℕ → Desk sink.Meaning
  desk d b = record { channel = state sink shelf d.channel; hand = d.hand; buffer = b }
