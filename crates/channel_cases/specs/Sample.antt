-- A run in which all that the promise asks holds, with a whole book at its end.
use Rattle.std.specs.Prelude.{◌≡◌, ℕ, true, false, cond, List, [], ◌∷◌, reverse, replicate, Some, None, ◌==◌}
use Rattle.wire.specs.Reading.{Msg, mapping, full, delta}
use Rattle.slot_shelf.specs.Slots.{empty_store}
use Rattle.sink.specs.Events.{data_of, loss_of, refresh_of, restart_of}
use Rattle.book_model.specs.Entering.{emptied}
use Rattle.book_model.specs.Keepers.{Kept, keeper_step, book_of}
use Rattle.order.specs.Machine.{History, made, offered, claimed, settled, machine}
use Rattle.order.specs.Promise.{Earned, since, start}
use Rattle.channel.specs.States.{State}
use Rattle.channel.specs.Follows.{Ask, make, offer, claim, settle}
use Rattle.order.specs.Books.{no_levels, Stream, AllTrue}
use Rattle.channel.specs.Runs.{run, logged}
use Rattle.channel_cases.specs.Packets.{mapping_packet, range_packet, full_point, full_packet, delta_point, delta_packet, scratch}

-- index 1: a full book at 1, then changes at 2, 3 and 5
abbrev pub quotes : ℕ → Msg
quotes n =
    cond (n == 1) (full 1 0 (full_point 5 1))
    (cond (n == 2) (delta 1 0 (delta_point 100 6 66))
    (cond (n == 3) (delta 1 0 (delta_point 100 9 66))
    (cond (n == 5) (delta 1 0 (delta_point 105 4 83)) mapping)))

-- the stream of these messages, no book having a level before it
abbrev pub feed : Stream
feed = record { before = λ i. no_levels; message = quotes }

-- a closed channel over sixteen slots, its sink a keeper of one book that was used before
abbrev pub closed : State Kept
closed = record { opened = None; shelf = empty_store; sink = record { depth = 2; mark = 77; books = emptied true 9 ∷ [] } }

-- Made at 1; 2 comes before 1; a claim for 1; 1 comes, and the claim is settled; a second 1 is refused; 4 comes; 3 to 4 are declared unavailable;
-- a refresh as of 4; 5.
abbrev pub calls : List Ask
calls =
    make 1 (65 ∷ []) 1
    ∷ offer (delta_packet 2 100 6 66) scratch
    ∷ claim 0 (replicate 44 0)
    ∷ offer (full_packet 1 1 5 1) scratch
    ∷ settle (record { channel = 1; serial = 1; begin = 1; end = 1 })
    ∷ offer (mapping_packet 1) scratch
    ∷ offer (mapping_packet 4) scratch
    ∷ offer (range_packet 3 4) scratch
    ∷ offer (full_packet 4 6 9 2) scratch
    ∷ offer (delta_packet 5 105 4 83) scratch
    ∷ []

-- their history
abbrev pub sample : History
sample =
    offered (delta_packet 5 105 4 83) true
    ∷ offered (full_packet 4 6 9 2) true
    ∷ offered (range_packet 3 4) true
    ∷ offered (mapping_packet 4) true
    ∷ offered (mapping_packet 1) false
    ∷ settled true
    ∷ offered (full_packet 1 1 5 1) true
    ∷ claimed true
    ∷ offered (delta_packet 2 100 6 66) true
    ∷ made 1 true
    ∷ []

-- each part by computing
pub record SampleHolds : Type 0 where
  -- the calls make this history, and it keeps the rules
  pub history : logged keeper_step calls closed [] ≡ sample
  pub earned : Earned sample
  -- all that was taken is true of the feed
  pub true_to : AllTrue feed (start sample) (since sample)
  -- what was handed over
  pub told : reverse (machine sample).order
      ≡ restart_of 1 ∷ data_of 1 (quotes 1) ∷ data_of 2 (quotes 2) ∷ loss_of 3 ∷ data_of 4 mapping ∷ refresh_of 4 (full 1 0 (full_point 9 2)) ∷ data_of 5 (quotes 5) ∷ []
  -- the keeper's book at the end
  pub whole : book_of 1 (run keeper_step calls closed).sink.books
      ≡ Some (record { whole = true; touched = 5; buys = record { price = 100000000000; volume = 9; orders = 2 } ∷ []; sells = record { price = 105000000000; volume = 4; orders = 2 } ∷ [] })
