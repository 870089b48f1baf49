-- A channel that follows the machine of its history, and the calls that keep it so.
use Rattle.std.specs.Prelude.{◌≡◌, ℕ, Bool, true, List, [], ◌∷◌, is_ok, Some}
use Rattle.wire.specs.Reading.{Msg}
use Rattle.shelf.specs.Store.{Packets}
use Rattle.sink.specs.Events.{Event}
use Rattle.channel.specs.declared.claim.Claim.{Claim}
use Rattle.order.specs.Maps.{Map}
use Rattle.order.specs.Machine.{Call, made, offered, claimed, settled, restarted, History, machine, led}
use Rattle.order.specs.Promise.{Earned}
use Rattle.channel.specs.States.{State, last_of}
use Rattle.handover.specs.Flows.{message_of}
use Rattle.channel.specs.Offers.{offer_answer, offer_after}
use Rattle.channel.specs.Calls.{make_answer, make_after, claim_answer, claim_after, settle_answer, settle_after, restart_answer, restart_after}

-- the packets held are data, and their messages are those that wait
abbrev pub Waits : Packets → Map Msg → Type 0
Waits [] [] = Unit {0}
Waits [] (y ∷ w) = ⊥
Waits (x ∷ h) [] = ⊥
Waits (x ∷ h) (y ∷ w) = (x.0 ≡ y.0) × (message_of (Some x.1) ≡ Some y.1) × Waits h w

-- A channel follows a history, from what its sink meant before the making: it is open, its last number is the machine's, its sink was led by the
-- machine's order, the packets on its shelf are those that wait, and every call did what the rules allow.
pub record Follows {M : Type 0} (step : Event → M → M) (before : M) (h : History) (c : State M) : Type 0 where
  pub last : last_of c.opened ≡ Some (machine h).last
  pub sink : c.sink ≡ led step (machine h).order before
  pub waits : Waits c.shelf.held (machine h).waiting
  pub earned : Earned h

-- a call with what it is given
pub data Ask : Type 0 where
  make : ℕ → List ℕ → ℕ → Ask
  offer : List ℕ → List ℕ → Ask
  claim : ℕ → List ℕ → Ask
  settle : Claim → Ask
  restart : ℕ → Ask

-- the call as a history has it
abbrev pub noted : Ask → Bool → Call
noted (make number source first) t = made first t
noted (offer p scratch) t = offered p t
noted (claim time buffer) t = claimed t
noted (settle k) t = settled t
noted (restart n) t = restarted n t

module _ {M : Type 0} (step : Event → M → M) where
  -- whether a call is taken
  abbrev pub taken : Ask → State M → Bool
  taken (make number source first) c = is_ok (make_answer c source first)
  taken (offer p scratch) c = is_ok (offer_answer step c p scratch)
  taken (claim time buffer) c = is_ok (claim_answer c buffer)
  taken (settle k) c = is_ok (settle_answer c k)
  taken (restart n) c = is_ok (restart_answer c n)

  -- the channel after a call
  abbrev pub after : Ask → State M → State M
  after (make number source first) c = make_after step c number source first
  after (offer p scratch) c = offer_after step c p scratch
  after (claim time buffer) c = claim_after c buffer
  after (settle k) c = settle_after c k
  after (restart n) c = restart_after step c n

  -- a channel that follows a history follows the longer one after any call, taken or refused
  abbrev pub CallsFollow : Type 0
  CallsFollow = (before : M) (h : History) (c : State M) (a : Ask) → Follows step before h c → Follows step before (noted a (taken a c) ∷ h) (after a c)

  -- a making that is taken begins a history
  abbrev pub MakingFollows : Type 0
  MakingFollows = (c : State M) (number : ℕ) (source : List ℕ) (first : ℕ) → is_ok (make_answer c source first) ≡ true
      → Follows step c.sink (made first true ∷ []) (make_after step c number source first)
