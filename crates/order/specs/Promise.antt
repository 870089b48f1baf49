-- What a run of calls is promised to hand over, in the words of the feed.
use Rattle.std.specs.Prelude.{◌≡◌, ℕ, zero, suc, ◌+◌, ◌-◌, ◌<◌, ◌≤◌, Bool, true, false, cond, ◌&&◌, ◌||◌, List, [], ◌∷◌, map, reverse, Some, None, Option, ◌==◌, nat_le}
use Rattle.std.specs.Option.{option_or}
use Rattle.wire.specs.Reading.{Msg}
use Rattle.sink.specs.Events.{Event, data_of, loss_of, refresh_of, restart_of}
use Rattle.order.specs.Maps.{Map, has}
use Rattle.order.specs.Machine.{Call, made, offered, claimed, settled, restarted, History, Content, carries, declares, renews, nothing, Deed, begins, took, deed, machine}

-- What may be done where last is `l` and the messages `w` wait: a beginning at 1 or above; a data packet above last that does not wait;
-- a range that goes on from last and ends above it; a refresh as of last at most.
abbrev pub Allowed : Deed → ℕ → Map Msg → Type 0
Allowed (begins n) l w = 1 ≤ n
Allowed (took (carries n m)) l w = (l < n) × (has n w ≡ false)
Allowed (took (declares b e)) l w = (b ≤ l + 1) × (l < e)
Allowed (took (renews n m)) l w = n ≤ l
Allowed (took nothing) l w = Unit {0}

-- a making that was taken
abbrev pub Making : Call → Type 0
Making (made n true) = Unit {0}
Making (made n false) = ⊥
Making (offered p t) = ⊥
Making (claimed t) = ⊥
Making (settled t) = ⊥
Making (restarted n t) = ⊥

-- The oldest call, and no other, is a making that was taken, and every call did what was allowed at its time.
abbrev pub Earned : History → Type 0
Earned [] = ⊥
Earned (c ∷ []) = Making c × Allowed (deed c) 0 []
Earned (c ∷ d ∷ h) = (Making c → ⊥) × Allowed (deed c) (machine (d ∷ h)).last (machine (d ∷ h)).waiting × Earned (d ∷ h)

-- what was taken before and a deed, newest first: a beginning leaves nothing of it, and a call that took nothing is among it as nothing
abbrev pub joined : Deed → List Content → List Content
joined (begins n) cs = []
joined (took c) cs = c ∷ cs

-- what was taken since the last restart (the making counts as one), newest first
abbrev pub since : History → List Content
since [] = []
since (c ∷ h) = joined (deed c) (since h)

-- the number of a beginning, or the one before
abbrev pub begun : Deed → ℕ → ℕ
begun (begins n) k = n
begun (took c) k = k

-- the number of the last restart of a history
abbrev pub start : History → ℕ
start [] = 0
start (c ∷ h) = begun (deed c) (start h)

-- the message of the first data packet of number `n`
abbrev pub first_data : List Content → ℕ → Option Msg
first_data [] n = None
first_data (carries k m ∷ cs) n = option_or (first_data cs n) (cond (n == k) (Some m) None)
first_data (declares b e ∷ cs) n = first_data cs n
first_data (renews k m ∷ cs) n = first_data cs n
first_data (nothing ∷ cs) n = first_data cs n

-- how many data packets of number `n` there are
abbrev pub data_packets : List Content → ℕ → ℕ
data_packets [] n = 0
data_packets (carries k m ∷ cs) n = cond (n == k) 1 0 + data_packets cs n
data_packets (declares b e ∷ cs) n = data_packets cs n
data_packets (renews k m ∷ cs) n = data_packets cs n
data_packets (nothing ∷ cs) n = data_packets cs n

-- number `n` came as data, or lies in a range that was declared unavailable
abbrev pub covered : List Content → ℕ → Bool
covered [] n = false
covered (carries k m ∷ cs) n = n == k || covered cs n
covered (declares b e ∷ cs) n = (nat_le b n && nat_le n e) || covered cs n
covered (renews k m ∷ cs) n = covered cs n
covered (nothing ∷ cs) n = covered cs n

-- the events since the last restart, refreshes left out, newest first
abbrev pub recent : List Event → List Event
recent [] = []
recent (data_of n m ∷ es) = data_of n m ∷ recent es
recent (loss_of n ∷ es) = loss_of n ∷ recent es
recent (refresh_of n m ∷ es) = recent es
recent (restart_of n ∷ es) = []

-- `k` numbers from `n` on, rising
abbrev pub numbers : ℕ → ℕ → List ℕ
numbers n zero = []
numbers n (suc k) = n ∷ numbers (n + 1) k

-- the numbers from one to another, rising
abbrev pub from_to : ℕ → ℕ → List ℕ
from_to a b = numbers a (b + 1 - a)

-- what a sink is due for a number: its message, or its loss. It is said here apart from the machine's `turn`, so that a wrong turn breaks the order.
abbrev pub due : ℕ → Option Msg → Event
due n None = loss_of n
due n (Some m) = data_of n m

-- ORDER. Since the last restart each number from the restart's to last was entered, rising, each once: as data with the message of the first data
-- packet that was taken for it since, or as a loss if none was taken.
abbrev pub InOrder : History → Type 0
InOrder h = reverse (recent (machine h).order) ≡ map (λ n. due n (first_data (since h) n)) (from_to (start h) (machine h).last)

-- LAST. Last is the largest number up to which every number from the restart's has since been taken as data or declared unavailable:
-- each of those was, the next was not, and last is never below the restart's number less one.
pub record Reaches (h : History) : Type 0 where
  pub low : start h ≤ (machine h).last + 1
  pub behind : (n : ℕ) → start h ≤ n → n ≤ (machine h).last → covered (since h) n ≡ true
  pub next : covered (since h) ((machine h).last + 1) ≡ false

-- the order of every earned history
abbrev pub OrderStands : Type 0
OrderStands = (h : History) → Earned h → InOrder h

-- the last number of every earned history
abbrev pub LastStands : Type 0
LastStands = (h : History) → Earned h → Reaches h

-- since a restart a number is taken as data at most once
abbrev pub TakenOnce : Type 0
TakenOnce = (h : History) → Earned h → (n : ℕ) → data_packets (since h) n ≤ 1
