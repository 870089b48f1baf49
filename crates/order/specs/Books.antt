-- The promise on books: a book that a keeper calls whole is the stream's.
use Rattle.std.specs.Prelude.{◌≡◌, ℕ, zero, suc, ◌+◌, ◌-◌, ◌<◌, true, cond, ◌⊎◌, List, [], ◌∷◌, Some, ◌==◌}
use Rattle.wire.specs.Reading.{Msg, reset, unavailable, mapping, full, delta}
use Rattle.sink.specs.Events.{Event}
use Rattle.sink.specs.Views.{Moves}
use Rattle.book_model.specs.declared.level.Level.{Level}
use Rattle.book_model.specs.Entering.{Known, put_all, full_points, delta_points}
use Rattle.book_model.specs.Keepers.{Kept, keeper_step, book_of}
use Rattle.order.specs.Machine.{History, Content, carries, declares, renews, nothing, machine, led}
use Rattle.order.specs.Promise.{Earned, since, start}

-- the levels of a book, by price: each with its volume and count of orders
pub record Sides : Type 0 where
  pub buys : List Level
  pub sells : List Level

-- an empty book
abbrev pub no_levels : Sides
no_levels = record { buys = []; sells = [] }

-- the levels of a book that a keeper knows
abbrev pub sides_of : Known → Sides
sides_of b = record { buys = b.buys; sells = b.sells }

-- a book with these levels, whole
abbrev pub whole_book : Sides → Known
whole_book b = record { whole = true; touched = 0; buys = b.buys; sells = b.sells }

-- the points of a full update entered in an empty book as a keeper enters them, without a depth and always whole
abbrev pub full_entered : ℕ → List ℕ → Sides
full_entered scale ps = sides_of (put_all (full_points scale ps) (whole_book no_levels))

-- the points of a delta entered in a book
abbrev pub delta_entered : ℕ → List ℕ → Sides → Sides
delta_entered scale ps b = sides_of (put_all (delta_points scale ps) (whole_book b))

-- What the exchange sent: the books before the first number, and a message for each number from there.
pub record Stream : Type 0 where
  pub before : ℕ → Sides
  pub message : ℕ → Msg

-- the book of index `i` after one message
abbrev pub sent : Msg → ℕ → Sides → Sides
sent (reset n) i b = b
sent (unavailable c e) i b = b
sent mapping i b = b
sent (full j s ps) i b = cond (i == j) (full_entered s ps) b
sent (delta j s ps) i b = cond (i == j) (delta_entered s ps b) b

-- the same after `k` messages from number `s` on
abbrev pub sent_all : Stream → ℕ → ℕ → ℕ → Sides
sent_all t s zero i = t.before i
sent_all t s (suc k) i = sent (t.message (s + k)) i (sent_all t s k i)

-- the stream's book of index `i` after number `n`, where `s` is its first number
abbrev pub stream_book : Stream → ℕ → ℕ → ℕ → Sides
stream_book t s n i = sent_all t s (n + 1 - s) i

-- A refresh is true of a stream if its points, entered in an empty book, give the stream's book of its index after its number, or if its number is
-- below the first number less one.
abbrev pub TrueRefresh : Stream → ℕ → ℕ → Msg → Type 0
TrueRefresh t s n (reset k) = Unit {0}
TrueRefresh t s n (unavailable b e) = Unit {0}
TrueRefresh t s n mapping = Unit {0}
TrueRefresh t s n (full i c ps) = (n + 1 < s) ⊎ (full_entered c ps ≡ stream_book t s n i)
TrueRefresh t s n (delta i c ps) = Unit {0}

-- A data packet is true of a stream if its message is that number's.
abbrev pub True : Stream → ℕ → Content → Type 0
True t s (carries n m) = m ≡ t.message n
True t s (declares b e) = Unit {0}
True t s (renews n m) = TrueRefresh t s n m
True t s nothing = Unit {0}

-- all that was taken is true of a stream with this first number
abbrev pub AllTrue : Stream → ℕ → List Content → Type 0
AllTrue t s [] = Unit {0}
AllTrue t s (c ∷ cs) = True t s c × AllTrue t s cs

-- each book that a keeper calls whole has the levels that it should have
abbrev pub Right : (ℕ → Sides) → Kept → Type 0
Right right k = (i : ℕ) (b : Known) → book_of i k.books ≡ Some b → b.whole ≡ true → sides_of b ≡ right i

-- BOOKS. For every stream of which all data and refreshes taken since the last restart are true, and whatever in a sink moves as a keeper moves:
-- each book that it calls whole is the stream's book of that index after last.
abbrev pub BooksRight : {M : Type 0} → (Event → M → M) → M → History → ℕ → Type 0
BooksRight {M = M} step m h l = (t : Stream) → AllTrue t (start h) (since h) → (view : M → Kept) → Moves step keeper_step view → Right (stream_book t (start h) l) (view m)

-- the books of every earned history, for a sink with this step
abbrev pub BooksStand : {M : Type 0} → (Event → M → M) → Type 0
BooksStand {M = M} step = (before : M) (h : History) → Earned h → BooksRight step (led step (machine h).order before) h (machine h).last
