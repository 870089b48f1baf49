-- Lists of calls, the first call first.
use Rattle.std.specs.Prelude.{◌≡◌, ℕ, true, List, [], ◌∷◌, ◌++◌, is_ok, Result}
use Rattle.sink.specs.Events.{Event}
use Rattle.handover.specs.declared.fault.ChannelFault.{ChannelFault}
use Rattle.handover.specs.declared.fault.OfferFault.{OfferFault}
use Rattle.channel.specs.declared.claim.Claim.{Claim}
use Rattle.handover.specs.declared.handover.Taken.{Taken}
use Rattle.order.specs.Machine.{History, made}
use Rattle.channel.specs.States.{State}
use Rattle.channel.specs.Offers.{offer_answer, offer_scratch}
use Rattle.channel.specs.Calls.{make_answer, make_after, claim_answer, claim_buffer, settle_answer, restart_answer}
use Rattle.channel.specs.Follows.{Ask, make, offer, claim, settle, restart, noted, taken, after}
use Rattle.channel.specs.Kept.{Promise}

-- all that a call gives back: its answer, and the buffer that it was lent
pub data Reply : Type 0 where
  begun : Result (Unit {0}) ChannelFault → Reply
  tried : Result Taken OfferFault → List ℕ → Reply
  given : Result Claim ChannelFault → List ℕ → Reply
  ended : Result ℕ (ChannelFault × Claim) → Reply

module _ {M : Type 0} (step : Event → M → M) where
  -- what a call gives back
  abbrev pub reply : Ask → State M → Reply
  reply (make number source first) c = begun (make_answer c source first)
  reply (offer p scratch) c = tried (offer_answer step c p scratch) (offer_scratch step c p scratch)
  reply (claim time buffer) c = given (claim_answer c buffer) (claim_buffer c time buffer)
  reply (settle k) c = ended (settle_answer c k)
  reply (restart n) c = begun (restart_answer c n)

  -- the channel after a list of calls
  abbrev pub run : List Ask → State M → State M
  run [] c = c
  run (x ∷ xs) c = run xs (after step x c)

  -- what they give back
  abbrev pub replies : List Ask → State M → List Reply
  replies [] c = []
  replies (x ∷ xs) c = reply x c ∷ replies xs (after step x c)

  -- the history that they make of an earlier one
  abbrev pub logged : List Ask → State M → History → History
  logged [] c h = h
  logged (x ∷ xs) c h = logged xs (after step x c) (noted x (taken step x c) ∷ h)

  -- one list of calls after another is the joined list: in where it leads, in what it gives back, and in its history
  pub record Joined (xs ys : List Ask) (c : State M) : Type 0 where
    pub leads : run (xs ++ ys) c ≡ run ys (run xs c)
    pub gives : replies (xs ++ ys) c ≡ replies xs c ++ replies ys (run xs c)
    pub notes : (h : History) → logged (xs ++ ys) c h ≡ logged ys (run xs c) (logged xs c h)

  -- of any two lists of calls
  abbrev pub RunsJoin : Type 0
  RunsJoin = (xs ys : List Ask) (c : State M) → Joined xs ys c

  -- a making that is taken, and any list of calls after it, keeps the promise of its history, from what the sink meant before the making
  abbrev pub RunsStand : Type 0
  RunsStand = (c : State M) (number : ℕ) (source : List ℕ) (first : ℕ) → is_ok (make_answer c source first) ≡ true → (xs : List Ask)
      → Promise step c.sink (logged xs (make_after step c number source first) (made first true ∷ [])) (run xs (make_after step c number source first))
