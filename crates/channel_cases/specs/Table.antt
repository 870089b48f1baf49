-- Worked cases of the definitions, as one fact.
use Rattle.std.specs.Prelude.{◌≡◌, ℕ, ◌*◌, true, false, List, [], ◌∷◌, None}
use Rattle.wire.specs.Reading.{mapping}
use Rattle.shelf.specs.Store.{Store, has, priced, with_held}
use Rattle.slot_shelf.specs.Slots.{empty_store}
use Rattle.chain_shelf.specs.Chain as chain
use Rattle.sink.specs.Events.{Event, data_of, loss_of}
use Rattle.book_model.specs.Entering.{emptied}
use Rattle.book_model.specs.Keepers.{Kept, keeper_step}
use Rattle.channel.specs.States.{State}
use Rattle.channel.specs.Calls.{make_after}
use Rattle.channel_cases.specs.Packets.{mapping_packet, range_packet, full_packet, opened_at, packets_from, note, handed, refused, outcomes, offered_all}

-- an empty chain shelf of the least region
abbrev pub empty_chain : Store
empty_chain = chain.fresh (26 * 64)

-- a channel over sixteen slots, made just now at 1
abbrev pub new : State (List Event)
new = make_after note (record { opened = None; shelf = empty_store; sink = [] }) 1 (65 ∷ []) 1

-- a keeper of one book at depth 1, its loss mark 2, the book empty and touched at a number
abbrev pub touched_keeper : ℕ → Kept
touched_keeper n = record { depth = 1; mark = 2; books = emptied false n ∷ [] }

-- the keeper of a channel with last 7 after a refresh as of 5
abbrev pub refreshed : ℕ → Kept
refreshed n = (offered_all keeper_step (full_packet 5 6 9 1 ∷ []) (opened_at 7 empty_store (touched_keeper n))).sink

-- each row by computing
pub record Table : Type 0 where
  -- a chain: what lengths cost in units
  pub cost_54 : priced empty_chain 54 ≡ 1
  pub cost_55 : priced empty_chain 55 ≡ 2
  pub cost_116 : priced empty_chain 116 ≡ 2
  pub cost_117 : priced empty_chain 117 ≡ 3
  pub cost_1500 : priced empty_chain 1500 ≡ 25
  -- new at 1: offers of 1, 3, 3 and 2
  pub early : outcomes note (mapping_packet 1 ∷ mapping_packet 3 ∷ mapping_packet 3 ∷ mapping_packet 2 ∷ []) new ≡ handed 1 ∷ handed 0 ∷ refused 11 ∷ handed 2 ∷ []
  -- last 0: 75,000 is held, 75,001 is too far
  pub near : outcomes note (mapping_packet 75000 ∷ []) new ≡ handed 0 ∷ []
  pub near_held : has (offered_all note (mapping_packet 75000 ∷ []) new).shelf.held 75000 ≡ true
  pub far : outcomes note (mapping_packet 75001 ∷ []) new ≡ refused 12 ∷ []
  -- last 1, 3 held: 2 to 4 are unavailable
  pub lost : (offered_all note (range_packet 2 4 ∷ []) (opened_at 1 (with_held empty_store (packets_from 3 1)) [])).sink ≡ loss_of 4 ∷ data_of 3 mapping ∷ loss_of 2 ∷ []
  -- last 0: a range of 1,000 is taken, one of 1,001 is not
  pub wide : outcomes note (range_packet 1 1000 ∷ []) new ≡ handed 1000 ∷ []
  pub wider : outcomes note (range_packet 1 1001 ∷ []) new ≡ refused 14 ∷ []
  -- slots hold 2 to 17, last 0: offers of 18, 1 and 19
  pub full : outcomes note (mapping_packet 18 ∷ mapping_packet 1 ∷ mapping_packet 19 ∷ []) (opened_at 0 (with_held empty_store (packets_from 2 16)) [])
      ≡ refused 13 ∷ handed 17 ∷ handed 0 ∷ []
  pub full_held : has (offered_all note (mapping_packet 18 ∷ mapping_packet 1 ∷ mapping_packet 19 ∷ []) (opened_at 0 (with_held empty_store (packets_from 2 16)) [])).shelf.held 19 ≡ true
  -- mark 2, last 7: a refresh as of 5 is used by a book touched at 5, and not by one touched at 6
  pub used : refreshed 5 ≡ record { depth = 1; mark = 2; books = record { whole = true; touched = 5; buys = record { price = 100000000000; volume = 9; orders = 1 } ∷ []; sells = [] } ∷ [] }
  pub unused : refreshed 6 ≡ touched_keeper 6
