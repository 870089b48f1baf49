-- What the calls come to, beside the promise: counts, claims and source ids.
use Rattle.std.specs.Prelude.{◌≡◌, ℕ, ◌+◌, ◌≤◌, true, false, List, [], ◌∷◌, ◌++◌, drop, Some, Ok, Result}
use Rattle.wire.specs.declared.request.TheConstants.{REQUEST}
use Rattle.wire.specs.Request.{source_right, request}
use Rattle.shelf.specs.Store.{has, Lawful}
use Rattle.sink.specs.Events.{Event, data_of, loss_of, refresh_of, restart_of}
use Rattle.handover.specs.declared.fault.ChannelFault.{ChannelFault}
use Rattle.channel.specs.declared.gaps.TheConstants.{MOST_ASKED}
use Rattle.channel.specs.declared.claim.Claim.{Claim}
use Rattle.handover.specs.declared.handover.Taken.{Taken}
use Rattle.order.specs.Machine.{History, offered, machine}
use Rattle.channel.specs.States.{Opened, State, last_of}
use Rattle.channel.specs.Offers.{offer_answer, offer_after}
use Rattle.channel.specs.Calls.{claim_answer, claim_buffer}
use Rattle.channel.specs.Follows.{Follows, Ask, after}

-- how many data and loss events there are
abbrev pub turns : List Event → ℕ
turns [] = 0
turns (data_of n m ∷ es) = 1 + turns es
turns (loss_of n ∷ es) = 1 + turns es
turns (refresh_of n m ∷ es) = turns es
turns (restart_of n ∷ es) = turns es

-- the source id of a channel that is open is right
abbrev pub SourceRight : {M : Type 0} → State M → Type 0
SourceRight c = (o : Opened) → c.opened ≡ Some o → source_right o.source ≡ true

-- A claim of an open channel asks for numbers that are missing, at least one and at most so many from the next on, and the request for them stands
-- in front of the buffer.
pub record Asks {M : Type 0} (c : State M) (o : Opened) (time : ℕ) (buffer : List ℕ) (k : Claim) : Type 0 where
  pub number : k.channel ≡ o.number
  pub serial : k.serial ≡ o.claims + 1
  pub begins : k.begin ≡ o.last + 1
  pub some : k.begin ≤ k.end
  pub few : k.end ≤ o.last + MOST_ASKED
  pub missing : (n : ℕ) → k.begin ≤ n → n ≤ k.end → has c.shelf.held n ≡ false
  pub request : claim_buffer c time buffer ≡ request time k.begin k.end o.source ++ drop REQUEST buffer

-- a claim that was given, where this was answered in a state
abbrev pub GivenAsks : {M : Type 0} → State M → ℕ → List ℕ → Result Claim ChannelFault → Type 0
GivenAsks c time buffer r = (o : Opened) (k : Claim) → c.opened ≡ Some o → r ≡ Ok k → Asks c o time buffer k

module _ {M : Type 0} (step : Event → M → M) where
  -- a taken offer answers the channel's last and how many data and loss events it entered in the order
  abbrev pub Counts : Type 0
  Counts = (before : M) (h : History) (c : State M) (p scratch : List ℕ) (t : Taken) → Follows step before h c → offer_answer step c p scratch ≡ Ok t
      → (last_of (offer_after step c p scratch).opened ≡ Some t.last) × (turns (machine (offered p true ∷ h)).order ≡ turns (machine h).order + t.handed)

  -- the source id stays right, whatever is called
  abbrev pub SourcesStay : Type 0
  SourcesStay = (c : State M) (a : Ask) → SourceRight c → SourceRight (after step a c)

  -- every claim that is given, where the shelf keeps its law
  abbrev pub ClaimsAsk : Type 0
  ClaimsAsk = (c : State M) (time : ℕ) (buffer : List ℕ) → Lawful c.shelf → GivenAsks c time buffer (claim_answer c buffer)
