-- Making, claim, settlement and restart: the answer of each, and what it leaves.
use Rattle.std.specs.Prelude.{ℕ, ◌+◌, ◌-◌, min, Bool, cond, ◌&&◌, List, [], ◌++◌, length, drop, is_some, Some, None, Ok, Err, Option, Result, ◌==◌, nat_le, nat_lt}
use Rattle.wire.specs.declared.request.TheConstants.{REQUEST}
use Rattle.wire.specs.Request.{source_right, request}
use Rattle.shelf.specs.Store.{Packets}
use Rattle.sink.specs.Events.{Event}
use Rattle.handover.specs.declared.fault.ChannelFault.{ChannelFault}
use Rattle.handover.specs.declared.fault.ChannelFault.TheVariants.{Short, Owed, Whole, Spent, Other, Zero, Source, Phase}
use Rattle.handover.specs.Words.{either, on_ok, answer}
use Rattle.handover.specs.Flows.{gap, missing, begins_at}
use Rattle.channel.specs.declared.channel.TheConstants.{MOST_CLAIMS}
use Rattle.channel.specs.declared.gaps.TheConstants.{MOST_ASKED}
use Rattle.channel.specs.declared.claim.Claim.{Claim}
use Rattle.channel.specs.States.{Opened, State, flow_in, left_by, back}

-- A making is refused where the channel is open, for a first number of zero, and for a wrong source id.
abbrev pub make_answer : {M : Type 0} → State M → List ℕ → ℕ → Result (Unit {0}) ChannelFault
make_answer c source first =
    cond (is_some c.opened) (Err Phase)
    (cond (first == 0) (Err Zero)
    (cond (source_right source) (Ok tt) (Err Source)))

-- an open channel that begins at a number; no scratch buffer has a part in it
abbrev pub begun_at : {M : Type 0} → (Event → M → M) → ℕ → Opened → State M → State M
begun_at step n o c = left_by o (begins_at step n (flow_in c o []))

-- the channel after a making; a refused one leaves it as it was
abbrev pub make_after : {M : Type 0} → (Event → M → M) → State M → ℕ → List ℕ → ℕ → State M
make_after step c number source first =
    on_ok (make_answer c source first) (λ u. begun_at step first (record { number = number; source = source; last = 0; out = None; claims = 0 }) c) c

-- A restart is refused where the channel is closed, where a claim is out, and for zero.
abbrev pub restart_verdict : {M : Type 0} → State M → ℕ → Result Opened ChannelFault
restart_verdict c n =
    either c.opened (Err Phase) (λ o.
    cond (is_some o.out) (Err Owed)
    (cond (n == 0) (Err Zero) (Ok o)))

-- the answer of a restart
abbrev pub restart_answer : {M : Type 0} → State M → ℕ → Result (Unit {0}) ChannelFault
restart_answer c n = answer (restart_verdict c n) (λ o. tt)

-- the channel after it
abbrev pub restart_after : {M : Type 0} → (Event → M → M) → State M → ℕ → State M
restart_after step c n = on_ok (restart_verdict c n) (λ o. begun_at step n o c) c

-- the claim of the gap below the least number held above last: at most so many numbers
abbrev pub claim_of : Opened → ℕ → Claim
claim_of o least = record { channel = o.number; serial = o.claims + 1; begin = o.last + 1; end = min (least - 1) (o.last + MOST_ASKED) }

-- A claim is refused where the channel is closed, for a short buffer, where one is out, where there is no gap, and where so many were made.
abbrev pub claim_verdict : {M : Type 0} → State M → List ℕ → Result (Opened × Claim) ChannelFault
claim_verdict c buffer =
    either c.opened (Err Phase) (λ o.
    cond (nat_lt (length buffer) REQUEST) (Err Short)
    (cond (is_some o.out) (Err Owed)
    (either (gap o.last c.shelf.held) (Err Whole) (λ least.
    cond (nat_le MOST_CLAIMS o.claims) (Err Spent)
    (Ok (o, claim_of o least))))))

-- the answer of a claim
abbrev pub claim_answer : {M : Type 0} → State M → List ℕ → Result Claim ChannelFault
claim_answer c buffer = answer (claim_verdict c buffer) (λ v. v.1)

-- with a claim out or none, and so many made
abbrev pub with_claim : Option Claim → ℕ → Opened → Opened
with_claim out n o = record { number = o.number; source = o.source; last = o.last; out = out; claims = n }

-- the channel with that changed, its shelf and sink as they were
abbrev pub reclaimed : {M : Type 0} → State M → Option Claim → ℕ → Opened → State M
reclaimed c out n o = record { opened = Some (with_claim out n o); shelf = c.shelf; sink = c.sink }

-- the channel after a claim: it is out, and counted
abbrev pub claim_after : {M : Type 0} → State M → List ℕ → State M
claim_after c buffer = on_ok (claim_verdict c buffer) (λ v. reclaimed c (Some v.1) (v.0.claims + 1) v.0) c

-- the buffer after a claim: the request for its range in front, what lies behind it as it was
abbrev pub claim_buffer : {M : Type 0} → State M → ℕ → List ℕ → List ℕ
claim_buffer c time buffer = on_ok (claim_verdict c buffer) (λ v. request time v.1.begin v.1.end v.0.source ++ drop REQUEST buffer) buffer

-- two claims have one channel number and one serial
abbrev pub same_claim : Claim → Claim → Bool
same_claim k x = k.channel == x.channel && k.serial == x.serial

-- A settlement is refused where the channel is closed, and unless the claim is the one that is out.
abbrev pub settle_verdict : {M : Type 0} → State M → Claim → Result (Opened × Claim) ChannelFault
settle_verdict c k =
    either c.opened (Err Phase) (λ o.
    either o.out (Err Other) (λ x.
    cond (same_claim k x) (Ok (o, x)) (Err Other)))

-- how many numbers of a claim's range are missing
abbrev pub missing_of : Opened × Claim → Packets → ℕ
missing_of v h = missing v.0.last h v.1.begin (v.1.end + 1 - v.1.begin)

-- how many numbers of its range are missing, or the refusal with the claim
abbrev pub settle_answer : {M : Type 0} → State M → Claim → Result ℕ (ChannelFault × Claim)
settle_answer c k = back k (answer (settle_verdict c k) (λ v. missing_of v c.shelf.held))

-- the channel after a settlement: no claim is out
abbrev pub settle_after : {M : Type 0} → State M → Claim → State M
settle_after c k = on_ok (settle_verdict c k) (λ v. reclaimed c None v.0.claims v.0) c
