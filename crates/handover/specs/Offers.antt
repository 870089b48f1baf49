-- When a packet is refused, and what becomes of what flows where it is taken.
use Rattle.std.specs.Prelude.{ℕ, ◌+◌, ◌-◌, cond, ◌&&◌, ◌||◌, List, length, Some, None, Err, Option, Result, ◌==◌, nat_le, nat_lt}
use Rattle.std.specs.Option.{option_map}
use Rattle.std.specs.Result.{result_err}
use Rattle.std.specs.Result as results
use Rattle.wire.specs.declared.fault.ReadFault.{ReadFault}
use Rattle.wire.specs.Reading.{Msg, Pkt, reset, unavailable, mapping, full, delta, and_then, reading}
use Rattle.common.specs.declared.TheConstants.{LONGEST}
use Rattle.shelf.specs.declared.PutFault.{PutFault}
use Rattle.shelf.specs.Store.{Store, has, put_answer}
use Rattle.sink.specs.Events.{Event}
use Rattle.order.specs.Machine.{Content, carries, declares, renews, nothing, brought}
use Rattle.handover.specs.declared.offers.TheConstants.{WINDOW, WIDEST, WHOLE_REFRESH, ONE_PACKET}
use Rattle.handover.specs.declared.fault.ChannelFault.TheVariants.{Short, Reset, Parts, Ahead, Behind, Far, Wide}
use Rattle.handover.specs.declared.fault.OfferFault.{OfferFault}
use Rattle.handover.specs.declared.fault.OfferFault.TheVariants.{Reader, Shelf, Channel}
use Rattle.handover.specs.declared.handover.Taken.{Taken}
use Rattle.handover.specs.Words.{either, on_ok, answer, unless}
use Rattle.handover.specs.Flows.{Flow, takes}

-- why a shelf does not take a packet
abbrev pub shelf_fault : Result (Unit {0}) PutFault → Option OfferFault
shelf_fault r = option_map Shelf (result_err r)

-- What stands against a packet where last is `l`. A data packet: its number is at most last or held; it is too far ahead; or it is early and
-- the shelf refuses it.
abbrev pub against_data : ℕ → Store → ℕ → List ℕ → Option OfferFault
against_data l s n p =
    cond (nat_le n l || has s.held n) (Some (Channel Behind))
    (cond (nat_lt (l + WINDOW) n) (Some (Channel Far))
    (cond (n == l + 1) None (shelf_fault (put_answer s n p))))

-- a range: it ends at most at last, begins above the next number, or is too wide
abbrev pub against_range : ℕ → ℕ → ℕ → Option OfferFault
against_range l b e =
    cond (nat_le e l) (Some (Channel Behind))
    (cond (nat_lt (l + 1) b) (Some (Channel Ahead))
    (cond (nat_lt WIDEST (e + 1 - b)) (Some (Channel Wide)) None))

-- a refresh: it is not whole in one packet, or is as of a number above last
abbrev pub against_refresh : ℕ → ℕ → Pkt → Option OfferFault
against_refresh l n q =
    cond (q.flag == WHOLE_REFRESH && q.link == ONE_PACKET) (cond (nat_lt l n) (Some (Channel Ahead)) None) (Some (Channel Parts))

-- by what a packet brings
abbrev pub against_content : Content → ℕ → Store → List ℕ → Pkt → Option OfferFault
against_content (carries n m) l s p q = against_data l s n p
against_content (declares b e) l s p q = against_range l b e
against_content (renews n m) l s p q = against_refresh l n q
against_content nothing l s p q = None

-- the next number that a reset names
abbrev pub next_of : Msg → Option ℕ
next_of (reset n) = Some n
next_of (unavailable b e) = None
next_of mapping = None
next_of (full i c ps) = None
next_of (delta i c ps) = None

-- what stands against a packet that is read: a reset is never taken
abbrev pub against : ℕ → Store → List ℕ → Pkt → Option OfferFault
against l s p q = either (next_of q.message) (against_content (brought q) l s p q) (λ n. Some (Channel (Reset n)))

-- a packet that is read goes on, and one that is not is refused with the reader's fault
abbrev pub read_then : {A : Type 0} → Result Pkt ReadFault → (Pkt → Result A OfferFault) → Result A OfferFault
read_then r f = and_then (results.result_map_both (λ q. q) Reader r) f

-- whether a packet is taken: what it says, or the first of the refusals
abbrev pub verdict : {M : Type 0} → Flow M → List ℕ → Result Pkt OfferFault
verdict f p =
    cond (nat_lt (length f.scratch) LONGEST) (Err (Channel Short))
    (read_then (reading p) (λ q. unless (against f.last f.shelf p q) q))

-- last, and by how much it grew: so many data and loss events were handed over
abbrev pub grown : {M : Type 0} → ℕ → Flow M → Taken
grown l f = record { last = f.last; handed = f.last - l }

module _ {M : Type 0} (step : Event → M → M) where
  -- the answer: last, and by how much it grew, or the refusal
  abbrev pub flow_answer : Flow M → List ℕ → Result Taken OfferFault
  flow_answer f p = answer (verdict f p) (λ q. grown f.last (takes step (brought q) p f))

  -- where the packet leads; a refused one changes nothing
  abbrev pub flow_after : Flow M → List ℕ → Flow M
  flow_after f p = on_ok (verdict f p) (λ q. takes step (brought q) p f) f
