-- Packets, buffers and states for worked cases.
use Rattle.std.specs.Prelude.{ℕ, List, [], ◌∷◌, ◌++◌, map, replicate, Some, None, Ok, Err, Result}
use Rattle.wire.specs.Request.{bytes32}
use Rattle.shelf.specs.Store.{Packets, Store}
use Rattle.sink.specs.Events.{Event}
use Rattle.handover.specs.declared.fault.OfferFault.{OfferFault}
use Rattle.handover.specs.declared.handover.Taken.{Taken}
use Rattle.handover.specs.Faults.{offer_fault_number}
use Rattle.order.specs.Promise.{numbers}
use Rattle.channel.specs.States.{State}
use Rattle.channel.specs.Offers.{offer_answer, offer_after}

-- a packet: its length less two, type, number, flag and link flag, and its body
abbrev pub linked : ℕ → ℕ → ℕ → ℕ → ℕ → List ℕ → List ℕ
linked size kind number flag link body = (0 ∷ size ∷ 0 ∷ kind ∷ []) ++ (bytes32 number ++ ((0 ∷ 0 ∷ 0 ∷ 0 ∷ 115 ∷ flag ∷ 1 ∷ link ∷ []) ++ body))

-- the same with link flag 1
abbrev pub packet : ℕ → ℕ → ℕ → ℕ → List ℕ → List ℕ
packet size kind number flag body = linked size kind number flag 1 body

-- a reset, which names the next number
abbrev pub reset_packet : ℕ → List ℕ
reset_packet next = packet 18 1 0 1 (bytes32 next)

-- a data packet: a symbol mapping of 30 bytes
abbrev pub mapping_packet : ℕ → List ℕ
mapping_packet n = packet 28 35 n 1 (replicate 14 0)

-- numbers declared unavailable
abbrev pub range_packet : ℕ → ℕ → List ℕ
range_packet b e = packet 22 5 0 1 (bytes32 b ++ bytes32 e)

-- the point of a full update: a buy level with the numerator 100
abbrev pub full_point : ℕ → ℕ → List ℕ
full_point volume orders = bytes32 100 ++ (bytes32 volume ++ (0 ∷ orders ∷ 66 ∷ 0 ∷ []))

-- a full update of index 1 at scale 0, with one point
abbrev pub full_body : ℕ → ℕ → List ℕ
full_body volume orders = (0 ∷ 0 ∷ 0 ∷ 1 ∷ []) ++ (replicate 26 0 ++ full_point volume orders)

-- the packet of it; with flag 6 it is a refresh
abbrev pub full_packet : ℕ → ℕ → ℕ → ℕ → List ℕ
full_packet number flag volume orders = packet 56 230 number flag (full_body volume orders)

-- the point of a delta: a level of two orders, for a new order, its side B or S
abbrev pub delta_point : ℕ → ℕ → ℕ → List ℕ
delta_point numerator volume side = bytes32 numerator ++ (bytes32 volume ++ (bytes32 0 ++ ((0 ∷ 2 ∷ side ∷ 79 ∷ []) ++ replicate 12 0)))

-- a delta of index 1 at scale 0, with one point
abbrev pub delta_packet : ℕ → ℕ → ℕ → ℕ → List ℕ
delta_packet number numerator volume side = packet 60 231 number 1 ((0 ∷ 0 ∷ 0 ∷ 1 ∷ []) ++ (replicate 14 0 ++ delta_point numerator volume side))

-- a scratch buffer of 1,500 bytes
abbrev pub scratch : List ℕ
scratch = replicate 1500 0

-- an open channel over a shelf, with a last number
abbrev pub opened_at : {M : Type 0} → ℕ → Store → M → State M
opened_at l s m = record { opened = Some (record { number = 1; source = 65 ∷ []; last = l; out = None; claims = 0 }); shelf = s; sink = m }

-- `k` data packets from number `n` on
abbrev pub packets_from : ℕ → ℕ → Packets
packets_from n k = map (λ i. (i, mapping_packet i)) (numbers n k)

-- a sink that notes the events, newest first
abbrev pub note : Event → List Event → List Event
note e es = e ∷ es

-- what an offer came to: so many handed over, or refused with a number
pub data Outcome : Type 0 where
  handed : ℕ → Outcome
  refused : ℕ → Outcome

-- the outcome of an answer
abbrev pub outcome : Result Taken OfferFault → Outcome
outcome (Ok t) = handed t.handed
outcome (Err f) = refused (offer_fault_number f)

-- what offers come to, one after another
abbrev pub outcomes : {M : Type 0} → (Event → M → M) → List (List ℕ) → State M → List Outcome
outcomes step [] c = []
outcomes step (p ∷ ps) c = outcome (offer_answer step c p scratch) ∷ outcomes step ps (offer_after step c p scratch)

-- where they lead
abbrev pub offered_all : {M : Type 0} → (Event → M → M) → List (List ℕ) → State M → State M
offered_all step [] c = c
offered_all step (p ∷ ps) c = offered_all step ps (offer_after step c p scratch)
