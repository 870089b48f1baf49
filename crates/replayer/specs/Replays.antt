-- What a replay does with a packet.
use Rattle.std.specs.Prelude.{ℕ, Bool, true, false, not, ◌&&◌, ◌==◌, nat_lt, if◌then◌else◌, List, length, is_some, is_none, Some, None, Ok, Err, Option, Result}
use Rattle.wire.specs.Bytes.{be32}
use Rattle.shelf.specs.Store.{above}
use Rattle.sink.specs.Events.{Event}
use Rattle.sink.specs.declared.Sink.{Ghosts as Sink}
use Rattle.shelf.specs.declared.Shelf.{Ghosts as Shelf}
use Rattle.handover.specs.Words.{either}
use Rattle.handover.specs.Faults.{channel_fault}
use Rattle.handover.specs.declared.fault.ChannelFault.{ChannelFault}
use Rattle.handover.specs.declared.fault.OfferFault.{OfferFault}
use Rattle.handover.specs.declared.fault.OfferFault.TheVariants.{Reader, Shelf as Shelved, Channel}
use Rattle.handover.specs.declared.handover.Taken.{Taken}
use Rattle.channel.specs.declared.claim.Claim.{Claim}
use Rattle.channel.specs.Follows.{offer, restart}
use Rattle.channel.specs.Offers.{offer_answer}
use Rattle.channel.specs.Calls.{restart_answer}
use Rattle.operator.specs.declared.action.Asked.{Asked}
use Rattle.operator.specs.declared.action.Action.TheVariants.{Claim as Claims, Settle}
use Rattle.operator.specs.Desks.{Desk, desk, asked_after, desk_after, claim_reply, settle_reply}
use Rattle.replayer.specs.declared.announced.Announced.{Announced}
use Rattle.replayer.specs.declared.followed.Followed.{Followed}
use Rattle.replayer.specs.declared.replayer.Replayer as declared

-- what a reset's packet of 20 bytes announces: its number, its send time and the next number
abbrev pub announced_in : List ℕ → Option Announced
announced_in p = if length p == 20 then Some (record { number = be32 p 4; time = be32 p 8; next = be32 p 16 }) else None

-- whether two resets are one that came twice
abbrev pub is_same : Option Announced → Option Announced → Bool
is_same None y = false
is_same (Some a) None = false
is_same (Some a) (Some b) = a.number == b.number && (a.time == b.time && a.next == b.next)

-- the next number of a refusal that is a reset
abbrev pub next_of : OfferFault → Option ℕ
next_of (Reader f) = None
next_of (Shelved f) = None
next_of (Channel f) = (channel_fault f).1

-- whether the claim in hand has its range at or below a number
abbrev pub is_due : ℕ → Option Claim → Bool
is_due last k = either k false (λ k. not (nat_lt last k.end))

-- a refusal that nothing follows
abbrev pub refused : OfferFault → Followed
refused f = record { offered = Err f; settled = None; claimed = None; restarted = None; repeated = false }

-- where a replay stands: what is at the desk, and the reset that was followed last
pub record Replay (M : Type 0) : Type 0 where
  pub desk : Desk M
  pub reset : Option Announced

module _ {M : Type 0} where
  -- the settlement of the claim in hand, where it is to be
  abbrev pub settled_if : Bool → Desk M → Option ℕ
  settled_if t d = if t then settle_reply d else None

  -- whether a claim is to be made: none is in hand, and a packet waits above last
  abbrev pub wants : ℕ → Desk M → Bool
  wants last d = is_none d.hand && is_some (above d.channel.shelf.held last)

  -- the claim, where it is to be made
  abbrev pub claimed_if : Bool → Desk M → Option (Result Asked ChannelFault)
  claimed_if t d = if t then Some (claim_reply d) else None

module _ {M : Type 0} (step : Event → M → M) where
  abbrev pub settled_desk : Bool → Desk M → Desk M
  settled_desk t d = if t then desk_after step Settle d else d

  abbrev pub claimed_desk : ℕ → Bool → Desk M → Desk M
  claimed_desk time t d = if t then desk_after step (Claims time) d else d

  -- the desk once the claim in hand is settled, if its range is at or below last
  abbrev pub cleared : Taken → Desk M → Desk M
  cleared taken d = settled_desk (is_due taken.last d.hand) d

  -- after an offer that was taken: the claim in hand is settled if it is due, and then the gap above last is claimed if no claim is in hand
  abbrev pub by_taken : Taken → Desk M → Followed
  by_taken taken d = record {
    offered = Ok taken;
    settled = settled_if (is_due taken.last d.hand) d;
    claimed = claimed_if (wants taken.last (cleared taken d)) (cleared taken d);
    restarted = None;
    repeated = false;
  }

  abbrev pub taken_desk : Taken → ℕ → Desk M → Desk M
  taken_desk taken time d = claimed_desk time (wants taken.last (cleared taken d)) (cleared taken d)

  -- the desk once the claim in hand is settled
  abbrev pub emptied : Desk M → Desk M
  emptied d = desk_after step Settle d

  -- after a reset: it came again and nothing is done, or the claim in hand is settled and the channel begins again at the next number
  abbrev pub by_reset : OfferFault → ℕ → List ℕ → Replay M → Followed
  by_reset fault next p r =
      if is_same (announced_in p) r.reset then record (refused fault) { repeated = true }
      else record (refused fault) { settled = settle_reply r.desk; restarted = Some (next, restart_answer (emptied r.desk).channel next) }

  abbrev pub reset_after : ℕ → List ℕ → Replay M → Replay M
  reset_after next p r =
      if is_same (announced_in p) r.reset then r
      else record { desk = asked_after step (restart next) (emptied r.desk); reset = announced_in p }

  -- the replay after the offer of a packet, before what follows
  abbrev pub offered_replay : List ℕ → Replay M → Replay M
  offered_replay p r = record r { desk = asked_after step (offer p r.desk.buffer) r.desk }

  -- what follows the answer of an offer
  abbrev pub by_answer : Result Taken OfferFault → List ℕ → Replay M → Followed
  by_answer (Ok taken) p r = by_taken taken r.desk
  by_answer (Err f) p r = either (next_of f) (refused f) (λ n. by_reset f n p r)

  abbrev pub answer_after : Result Taken OfferFault → List ℕ → ℕ → Replay M → Replay M
  answer_after (Ok taken) p time r = record r { desk = taken_desk taken time r.desk }
  answer_after (Err f) p time r = either (next_of f) r (λ n. reset_after n p r)

  -- WHAT COMES OF A PACKET that is offered
  abbrev pub followed : List ℕ → Replay M → Followed
  followed p r = by_answer (offer_answer step r.desk.channel p r.desk.buffer) p (offered_replay p r)

  -- and where the replay stands then
  abbrev pub replay_after : List ℕ → ℕ → Replay M → Replay M
  replay_after p time r = answer_after (offer_answer step r.desk.channel p r.desk.buffer) p time (offered_replay p r)

module _ {X Y : Type 0} (sink : Sink X) (shelf : Shelf Y) where
  -- where a replay stands, of the code's values and the buffer
  abbrev pub replay : declared.Replayer X Y → List ℕ → Replay sink.Meaning
  replay r b = record { desk = desk sink shelf r.desk b; reset = r.reset }
