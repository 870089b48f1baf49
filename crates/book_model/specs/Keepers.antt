-- A keeper: its books, numbered from 1, and what each event makes of it.
use Rattle.std.specs.Prelude.{ℕ, zero, suc, ◌-◌, cond, List, length, replicate, None, Option, nat_le, slice_index_or, slice_set}
use Rattle.std.specs.List.{slice_get}
use Rattle.wire.specs.Reading.{reset, unavailable, mapping, full, delta}
use Rattle.sink.specs.Events.{Event, data_of, loss_of, refresh_of, restart_of}
use Rattle.book_model.specs.declared.level.Point.{Point}
use Rattle.book_model.specs.declared.start.Start.{Start}
use Rattle.book_model.specs.declared.start.Start.TheVariants as start
use Rattle.book_model.specs.Entering.{Known, unknown, told, full_points, delta_points}

-- What a keeper stands for: the most levels of a side, the loss mark, which is the last number that may have been missed, and the books.
pub record Kept : Type 0 where
  pub depth : ℕ
  pub mark : ℕ
  pub books : List Known

-- a keeper of n books at its start
abbrev pub fresh : ℕ → ℕ → Kept
fresh d n = record { depth = d; mark = 0; books = replicate n unknown }

-- the book n, if there is one
abbrev pub book_of : ℕ → List Known → Option Known
book_of zero bs = None
book_of (suc i) bs = slice_get bs i

-- a change of the book n, where there is one
abbrev pub changed_at : ℕ → (Known → Known) → List Known → List Known
changed_at zero f bs = bs
changed_at (suc i) f bs = slice_set bs i (f (slice_index_or bs i unknown))

-- the same in a keeper
abbrev pub at_book : ℕ → (Known → Known) → Kept → Kept
at_book i f k = record { depth = k.depth; mark = k.mark; books = changed_at i f k.books }

-- a message with points to the book i
abbrev pub heard : ℕ → Start → List Point → Kept → Kept
heard i s ps k = at_book i (told k.depth s ps) k

-- numbers up to n may have been missed, and nothing is known of any book
abbrev pub forgotten : ℕ → Kept → Kept
forgotten n k = record { depth = k.depth; mark = n; books = replicate (length k.books) unknown }

-- What an event makes of a keeper.
-- A full update and a delta are told to their book. A refresh is told as one, unless the loss mark is later than its number.
-- A loss forgets all up to its number, and a restart all below it. Other messages change nothing.
abbrev pub keeper_step : Event → Kept → Kept
keeper_step (data_of n (full i s ps)) k = heard i (start.Full n) (full_points s ps) k
keeper_step (data_of n (delta i s ps)) k = heard i (start.Delta n) (delta_points s ps) k
keeper_step (data_of n (reset m)) k = k
keeper_step (data_of n (unavailable b e)) k = k
keeper_step (data_of n mapping) k = k
keeper_step (loss_of n) k = forgotten n k
keeper_step (refresh_of n (full i s ps)) k = cond (nat_le k.mark n) (heard i (start.Refresh n) (full_points s ps) k) k
keeper_step (refresh_of n (delta i s ps)) k = k
keeper_step (refresh_of n (reset m)) k = k
keeper_step (refresh_of n (unavailable b e)) k = k
keeper_step (refresh_of n mapping) k = k
keeper_step (restart_of n) k = forgotten (n - 1) k
