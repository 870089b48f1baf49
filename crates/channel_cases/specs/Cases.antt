-- Worked cases of each refusal and of the order of the refusals, of the buffers, and of packets that no call puts on a shelf.
use Rattle.std.specs.Prelude.{◌≡◌, ℕ, List, [], ◌∷◌, ◌++◌, map, drop, replicate, Some, None, Ok, Err, Option, Result}
use Rattle.wire.specs.declared.fault.ReadFault.TheVariants as reader
use Rattle.wire.specs.Reading.{mapping}
use Rattle.wire.specs.Request.{request}
use Rattle.shelf.specs.declared.PutFault.TheVariants as shelf
use Rattle.shelf.specs.Store.{Packets, with_held}
use Rattle.slot_shelf.specs.Slots.{empty_store}
use Rattle.sink.specs.Events.{Event, data_of, loss_of, restart_of}
use Rattle.handover.specs.declared.fault.ChannelFault.TheVariants.{Short, Reset, Parts, Ahead, Behind, Far, Wide, Owed, Whole, Spent, Other, Zero, Source, Phase}
use Rattle.handover.specs.Faults.{channel_fault}
use Rattle.handover.specs.declared.fault.OfferFault.{OfferFault}
use Rattle.handover.specs.declared.fault.OfferFault.TheVariants.{Reader, Shelf, Channel}
use Rattle.channel.specs.declared.claim.Claim.{Claim}
use Rattle.handover.specs.declared.handover.Taken.{Taken}
use Rattle.channel.specs.States.{State}
use Rattle.channel.specs.Offers.{offer_answer, offer_after, offer_scratch}
use Rattle.channel.specs.Calls.{make_answer, make_after, claim_answer, claim_buffer, claim_after, settle_answer, settle_after, restart_answer, restart_after}
use Rattle.channel_cases.specs.Packets.{linked, reset_packet, mapping_packet, range_packet, full_body, full_packet, delta_packet, scratch, opened_at, packets_from, note}

-- a channel that is closed
abbrev pub closed : State (List Event)
closed = record { opened = None; shelf = empty_store; sink = [] }

-- an open one with a last number, that holds packets
abbrev pub holding : ℕ → Packets → State (List Event)
holding l h = opened_at l (with_held empty_store h) []

-- an open one with a claim out or none, after so many claims
abbrev pub claiming : ℕ → Packets → Option Claim → ℕ → State (List Event)
claiming l h out n = record { opened = Some (record { number = 1; source = 65 ∷ []; last = l; out = out; claims = n }); shelf = with_held empty_store h; sink = [] }

-- a claim of channel 1 for 2 to 4
abbrev pub gap : ℕ → Claim
gap serial = record { channel = 1; serial = serial; begin = 2; end = 4 }

-- a channel that was told to begin at 9, after so many claims
abbrev pub told_restart : ℕ → State (List Event)
told_restart n = record { opened = Some (record { number = 1; source = 65 ∷ []; last = 8; out = None; claims = n }); shelf = empty_store; sink = restart_of 9 ∷ [] }

-- an offer's answer with a buffer of 1,500 bytes
abbrev pub offering : State (List Event) → List ℕ → Result Taken OfferFault
offering c p = offer_answer note c p scratch

-- each case by computing
pub record Cases : Type 0 where
  -- the numbers of a channel's refusals
  pub numbers : map (λ f. (channel_fault f).0) (Short ∷ Reset 9 ∷ Parts ∷ Ahead ∷ Behind ∷ Far ∷ Wide ∷ Owed ∷ Whole ∷ Spent ∷ Other ∷ Zero ∷ Source ∷ Phase ∷ [])
      ≡ 1 ∷ 8 ∷ 9 ∷ 10 ∷ 11 ∷ 12 ∷ 14 ∷ 15 ∷ 16 ∷ 17 ∷ 18 ∷ 19 ∷ 20 ∷ 23 ∷ []
  -- a making
  pub make_phase : make_answer (holding 5 []) [] 0 ≡ Err Phase
  pub make_zero : make_answer closed [] 0 ≡ Err Zero
  pub make_source : make_answer closed [] 1 ≡ Err Source
  pub make_long : make_answer closed (replicate 21 65) 1 ≡ Err Source
  pub make_nul : make_answer closed (65 ∷ 0 ∷ []) 1 ≡ Err Source
  pub make_taken : make_answer closed (replicate 20 65) 1 ≡ Ok tt
  -- an offer: whatever else is wrong, the first of the refusals is told
  pub offer_phase : offer_answer note closed [] [] ≡ Err (Channel Phase)
  pub offer_short : offer_answer note (holding 5 []) [] (replicate 1499 0) ≡ Err (Channel Short)
  pub offer_reader : offering (holding 5 []) [] ≡ Err (Reader reader.Length)
  pub offer_reset : offering (holding 5 []) (reset_packet 9) ≡ Err (Channel (Reset 9))
  pub refresh_flag : offering (holding 5 []) (full_packet 6 5 9 1) ≡ Err (Channel Parts)
  pub refresh_link : offering (holding 5 []) (linked 56 230 6 6 2 (full_body 9 1)) ≡ Err (Channel Parts)
  pub refresh_ahead : offering (holding 5 []) (full_packet 6 6 9 1) ≡ Err (Channel Ahead)
  pub refresh_taken : offering (holding 5 []) (full_packet 5 6 9 1) ≡ Ok (record { last = 5; handed = 0 })
  pub range_behind : offering (holding 5 []) (range_packet 1 5) ≡ Err (Channel Behind)
  pub range_ahead : offering (holding 5 []) (range_packet 7 2000) ≡ Err (Channel Ahead)
  pub range_wide : offering (holding 5 []) (range_packet 1 1001) ≡ Err (Channel Wide)
  pub range_taken : offering (holding 5 (packets_from 8 1)) (range_packet 2 7) ≡ Ok (record { last = 8; handed = 3 })
  pub data_behind : offering (holding 5 []) (mapping_packet 5) ≡ Err (Channel Behind)
  pub data_held : offering (holding 5 (packets_from 90000 1)) (mapping_packet 90000) ≡ Err (Channel Behind)
  pub data_far : offering (holding 0 (packets_from 2 16)) (mapping_packet 75001) ≡ Err (Channel Far)
  pub data_full : offering (holding 0 (packets_from 2 16)) (mapping_packet 75000) ≡ Err (Shelf shelf.Full)
  -- packets off the shelf go through the scratch buffer, each over the one before
  pub scratch_after : offer_scratch note (holding 0 ((2, delta_packet 2 100 6 66) ∷ packets_from 3 1)) (mapping_packet 1) scratch
      ≡ mapping_packet 3 ++ (drop 30 (delta_packet 2 100 6 66) ++ replicate 1438 0)
  pub scratch_refused : offer_scratch note (holding 0 (packets_from 1 1)) (mapping_packet 1) scratch ≡ scratch
  -- a packet off the shelf that is not data is a loss: a range, a refresh, a reset, or one that can't be read
  pub shelved_range : (offer_after note (holding 0 ((2, range_packet 7 8) ∷ [])) (mapping_packet 1) scratch).sink ≡ loss_of 2 ∷ data_of 1 mapping ∷ []
  pub shelved_refresh : (offer_after note (holding 0 ((2, full_packet 2 6 9 1) ∷ [])) (mapping_packet 1) scratch).sink ≡ loss_of 2 ∷ data_of 1 mapping ∷ []
  pub shelved_reset : (offer_after note (holding 0 ((2, reset_packet 9) ∷ [])) (mapping_packet 1) scratch).sink ≡ loss_of 2 ∷ data_of 1 mapping ∷ []
  pub shelved_unread : (offer_after note (holding 0 ((2, []) ∷ [])) (mapping_packet 1) scratch).sink ≡ loss_of 2 ∷ data_of 1 mapping ∷ []
  -- a claim
  pub claim_phase : claim_answer closed [] ≡ Err Phase
  pub claim_short : claim_answer (claiming 1 [] (Some (gap 1)) 500) (replicate 43 7) ≡ Err Short
  pub claim_owed : claim_answer (claiming 1 [] (Some (gap 1)) 500) (replicate 44 7) ≡ Err Owed
  pub claim_none : claim_answer (claiming 5 (packets_from 3 1) None 500) (replicate 44 7) ≡ Err Whole
  pub claim_next : claim_answer (claiming 1 (packets_from 2 1) None 500) (replicate 44 7) ≡ Err Whole
  pub claim_spent : claim_answer (claiming 1 (packets_from 5 1) None 500) (replicate 44 7) ≡ Err Spent
  pub claim_last : claim_answer (claiming 1 (packets_from 5 1) None 499) (replicate 44 7) ≡ Ok (gap 500)
  pub claim_wide : claim_answer (claiming 1 (packets_from 5000 1) None 0) (replicate 44 7) ≡ Ok (record { channel = 1; serial = 1; begin = 2; end = 1001 })
  pub claim_request : claim_buffer (claiming 1 (packets_from 5 1) None 0) 33 (replicate 46 7) ≡ request 33 2 4 (65 ∷ []) ++ (7 ∷ 7 ∷ [])
  pub claim_out : claim_after (claiming 1 (packets_from 5 1) None 7) (replicate 44 7) ≡ claiming 1 (packets_from 5 1) (Some (gap 8)) 8
  -- a settlement
  pub settle_phase : settle_answer closed (gap 1) ≡ Err (Phase, gap 1)
  pub settle_none : settle_answer (claiming 1 [] None 1) (gap 1) ≡ Err (Other, gap 1)
  pub settle_serial : settle_answer (claiming 1 [] (Some (gap 2)) 2) (gap 1) ≡ Err (Other, gap 1)
  pub settle_channel : settle_answer (claiming 1 [] (Some (gap 1)) 1) (record { channel = 2; serial = 1; begin = 2; end = 4 }) ≡ Err (Other, record { channel = 2; serial = 1; begin = 2; end = 4 })
  pub settle_missing : settle_answer (claiming 2 (packets_from 3 1) (Some (gap 1)) 1) (gap 1) ≡ Ok 1
  pub settle_out : settle_after (claiming 2 (packets_from 3 1) (Some (gap 1)) 1) (gap 1) ≡ claiming 2 (packets_from 3 1) None 1
  pub settle_range : settle_answer (claiming 1 [] (Some (record { channel = 1; serial = 1; begin = 2; end = 9 })) 1) (gap 1) ≡ Ok 8
  -- a restart
  pub restart_phase : restart_answer closed 0 ≡ Err Phase
  pub restart_owed : restart_answer (claiming 1 [] (Some (gap 1)) 1) 0 ≡ Err Owed
  pub restart_zero : restart_answer (claiming 1 [] None 1) 0 ≡ Err Zero
  pub restart_taken : restart_answer (claiming 1 [] None 1) 9 ≡ Ok tt
  -- a making and a restart: the shelf is cleared and the sink told; the claims made count from the making
  pub made : make_after note (record { opened = None; shelf = with_held empty_store (packets_from 5 2); sink = [] }) 1 (65 ∷ []) 9 ≡ told_restart 0
  pub restarted : restart_after note (claiming 1 (packets_from 5 2) None 3) 9 ≡ told_restart 3
  pub restart_refused : restart_after note (claiming 1 (packets_from 5 2) None 3) 0 ≡ claiming 1 (packets_from 5 2) None 3
