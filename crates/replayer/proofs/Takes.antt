-- What follows an offer that was taken, from what each step comes to.
use Rattle.std.proofs.Common.{◌≡◌, ℕ, List, false, Some, None, Ok, Option, Result, sym, ap, ◌∙◌}
use Rattle.std.proofs.lemmas.Bool.{cond-false}
use Rattle.sink.specs.Events.{Event}
use Rattle.handover.specs.declared.fault.ChannelFault.{ChannelFault}
use Rattle.handover.specs.declared.fault.OfferFault.{OfferFault}
use Rattle.handover.specs.declared.handover.Taken.{Taken}
use Rattle.channel.specs.Calls.{restart_answer}
use Rattle.operator.specs.declared.action.Asked.{Asked}
use Rattle.operator.specs.Desks.{Desk, settle_reply}
use Rattle.replayer.specs.declared.followed.Followed.{Followed}
use Rattle.replayer.specs.Replays.{Replay, announced_in, is_same, refused, is_due, settled_if, wants, claimed_if, cleared, by_taken, emptied, by_reset}

-- what came of an offer that was taken, by its settlement and its claim
abbrev taking : Taken → Option ℕ → Option (Result Asked ChannelFault) → Followed
taking taken s k = record { offered = Ok taken; settled = s; claimed = k; restarted = None; repeated = false }

pub taken_answer : {M : Type 0} (step : Event → M → M) (taken : Taken) (d e : Desk M) (s : Option ℕ) (k : Option (Result Asked ChannelFault))
    → s ≡ settled_if (is_due taken.last d.hand) d → e ≡ cleared step taken d → k ≡ claimed_if (wants taken.last e) e
    → taking taken s k ≡ by_taken step taken d
taken_answer step taken d e s k settled left claimed =
    ap (λ x. taking taken x k) settled
    ∙ ap (taking taken (settled_if (is_due taken.last d.hand) d)) (claimed ∙ ap (λ x. claimed_if (wants taken.last x) x) left)

-- what came of a reset that is new, by its settlement and its restart
abbrev beginning : OfferFault → ℕ → Option ℕ → Result (Unit {0}) ChannelFault → Followed
beginning fault next s a = record (refused fault) { settled = s; restarted = Some (next, a) }

pub reset_answer : {M : Type 0} (step : Event → M → M) (fault : OfferFault) (next : ℕ) (p : List ℕ) (r : Replay M) (s : Option ℕ) (a : Result (Unit {0}) ChannelFault)
    → is_same (announced_in p) r.reset ≡ false → s ≡ settle_reply r.desk → a ≡ restart_answer (emptied step r.desk).channel next
    → beginning fault next s a ≡ by_reset step fault next p r
reset_answer step fault next p r s a new settled restarted =
    ap (λ x. beginning fault next x a) settled ∙ ap (beginning fault next (settle_reply r.desk)) restarted
    ∙ sym (cond-false (is_same (announced_in p) r.reset) _ _ new)
