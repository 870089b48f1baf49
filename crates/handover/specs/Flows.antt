-- What flows on through a channel: the numbers that are handed over, from the shelf or as losses.
use Rattle.std.specs.Prelude.{ℕ, zero, suc, ◌+◌, ◌-◌, cond, not, ◌&&◌, List, [], length, Some, None, Option, ◌==◌, nat_lt}
use Rattle.wire.specs.Reading.{Msg}
use Rattle.shelf.specs.Store.{Packets, Store, lookup, has, above, insert, remove, with_held, written}
use Rattle.sink.specs.Events.{Event, data_of, refresh_of, restart_of}
use Rattle.order.specs.Machine.{Content, carries, declares, renews, nothing, content, turn}

-- what flows on: last, what the shelf and the sink mean, and the scratch buffer
pub record Flow (M : Type 0) : Type 0 where
  pub last : ℕ
  pub shelf : Store
  pub sink : M
  pub scratch : List ℕ

-- the message of a data packet
abbrev pub data_as : Content → Option Msg
data_as (carries n m) = Some m
data_as (declares b e) = None
data_as (renews n m) = None
data_as nothing = None

-- the message of a packet off the shelf: one that is not data has none, and is handed over as a loss
abbrev pub message_of : Option (List ℕ) → Option Msg
message_of None = None
message_of (Some p) = data_as (content p)

-- a shelf with a packet taken off it, and with one put on it
abbrev pub without : ℕ → Store → Store
without n s = with_held s (remove n s.held)

abbrev pub with_packet : ℕ → List ℕ → Store → Store
with_packet n p s = with_held s (insert n p s.held)

-- The gap above last: the least number held above it, where the next one is not held.
abbrev pub gap : ℕ → Packets → Option ℕ
gap l h = cond (has h (l + 1)) None (above h l)

-- how many of `k` numbers from `n` on are above last and not held
abbrev pub missing : ℕ → Packets → ℕ → ℕ → ℕ
missing l h n zero = 0
missing l h n (suc k) = cond (nat_lt l n && not (has h n)) 1 0 + missing l h (n + 1) k

module _ {M : Type 0} (step : Event → M → M) where
  -- the next number is handed over: the packet that is held of it, which goes through the scratch buffer, or its loss
  abbrev pub hand : Flow M → Flow M
  hand f = record {
    last = f.last + 1;
    shelf = without (f.last + 1) f.shelf;
    sink = step (turn (f.last + 1) (message_of (lookup f.shelf.held (f.last + 1)))) f.sink;
    scratch = written (lookup f.shelf.held (f.last + 1)) f.scratch;
  }

  -- the next numbers are handed over, this many
  abbrev pub hands : ℕ → Flow M → Flow M
  hands zero f = f
  hands (suc k) f = hands k (hand f)

  -- the next numbers are handed over, up to a given one
  abbrev pub hands_to : ℕ → Flow M → Flow M
  hands_to e f = hands (e - f.last) f

  -- while the next number is held it is handed over, this many times at most
  abbrev pub handing : ℕ → Flow M → Flow M
  handing zero f = f
  handing (suc k) f = cond (has f.shelf.held (f.last + 1)) (handing k (hand f)) f

  -- while the next number is held it is handed over
  abbrev pub handed_on : Flow M → Flow M
  handed_on f = handing (length f.shelf.held) f

  -- a data packet of the next number is handed over
  abbrev pub hand_data : ℕ → Msg → Flow M → Flow M
  hand_data n m f = record { last = n; shelf = f.shelf; sink = step (data_of n m) f.sink; scratch = f.scratch }

  -- a packet is put on the shelf
  abbrev pub keep : ℕ → List ℕ → Flow M → Flow M
  keep n p f = record { last = f.last; shelf = with_packet n p f.shelf; sink = f.sink; scratch = f.scratch }

  -- a refresh is handed over
  abbrev pub renew : ℕ → Msg → Flow M → Flow M
  renew n m f = record { last = f.last; shelf = f.shelf; sink = step (refresh_of n m) f.sink; scratch = f.scratch }

  -- what a packet does that is taken
  abbrev pub takes : Content → List ℕ → Flow M → Flow M
  takes (carries n m) p f = cond (n == f.last + 1) (handed_on (hand_data n m f)) (keep n p f)
  takes (declares b e) p f = handed_on (hands_to e f)
  takes (renews n m) p f = renew n m f
  takes nothing p f = f

  -- a beginning: the shelf cleared, the sink told of the restart, and last the number less one
  abbrev pub begins_at : ℕ → Flow M → Flow M
  begins_at n f = record { last = n - 1; shelf = with_held f.shelf []; sink = step (restart_of n) f.sink; scratch = f.scratch }
