-- The machine of the running order: it reads a history of calls and nothing else.
use Rattle.std.specs.Prelude.{ℕ, zero, suc, ◌+◌, ◌-◌, Bool, true, false, cond, List, [], ◌∷◌, length, Some, None, Ok, Err, Option, Result}
use Rattle.wire.specs.declared.fault.ReadFault.{ReadFault}
use Rattle.wire.specs.declared.message.Class.{Class}
use Rattle.wire.specs.declared.message.Class.TheVariants as class
use Rattle.wire.specs.Reading.{Msg, Pkt, reset, unavailable, mapping, full, delta, reading, class_of}
use Rattle.sink.specs.Events.{Event, data_of, loss_of, refresh_of, restart_of}
use Rattle.order.specs.Maps.{Map, lookup, has, insert, remove, Rising}

-- A call, and whether it was taken: a making and a restart with their number, an offer with its packet.
pub data Call : Type 0 where
  made : ℕ → Bool → Call
  offered : List ℕ → Bool → Call
  claimed : Bool → Call
  settled : Bool → Call
  restarted : ℕ → Bool → Call

-- The calls of a run, newest first.
abbrev pub History : Type 0
History = List Call

-- What a packet brings: the data message of a number, numbers that are declared unavailable, a refresh as of a number, or nothing of these.
pub data Content : Type 0 where
  carries : ℕ → Msg → Content
  declares : ℕ → ℕ → Content
  renews : ℕ → Msg → Content
  nothing : Content

-- the range of an unavailable packet
abbrev pub range : Msg → Content
range (reset n) = nothing
range (unavailable b e) = declares b e
range mapping = nothing
range (full i s ps) = nothing
range (delta i s ps) = nothing

-- what a packet of a class brings
abbrev pub brings : Class → Pkt → Content
brings class.Reset q = nothing
brings class.Unavailable q = range q.message
brings class.Data q = carries q.number q.message
brings class.Refresh q = renews q.number q.message

-- what a packet that is read brings
abbrev pub brought : Pkt → Content
brought q = brings (class_of q) q

-- the same of a reading
abbrev pub read_content : Result Pkt ReadFault → Content
read_content (Ok q) = brought q
read_content (Err f) = nothing

-- what the bytes of a packet bring
abbrev pub content : List ℕ → Content
content p = read_content (reading p)

-- What a call did: it began a run at a number, or took what a packet brings (nothing, if it was refused).
pub data Deed : Type 0 where
  begins : ℕ → Deed
  took : Content → Deed

-- the deed of a call
abbrev pub deed : Call → Deed
deed (made n true) = begins n
deed (made n false) = took nothing
deed (offered p true) = took (content p)
deed (offered p false) = took nothing
deed (claimed t) = took nothing
deed (settled t) = took nothing
deed (restarted n true) = begins n
deed (restarted n false) = took nothing

-- Where the machine stands: the last number entered, the messages that wait for their turn, and the order, newest event first.
pub record Standing : Type 0 where
  pub last : ℕ
  pub waiting : Map Msg
  pub order : List Event

-- what is entered in the turn of a number: its message as data, or its loss
abbrev pub turn : ℕ → Option Msg → Event
turn n None = loss_of n
turn n (Some m) = data_of n m

-- the next number has its turn, and its message waits no more
abbrev pub pass : Standing → Standing
pass s = record {
  last = s.last + 1;
  waiting = remove (s.last + 1) s.waiting;
  order = turn (s.last + 1) (lookup (s.last + 1) s.waiting) ∷ s.order;
}

-- the next numbers have their turns, this many
abbrev pub passes : ℕ → Standing → Standing
passes zero s = s
passes (suc k) s = passes k (pass s)

-- while the next number waits it has its turn, this many times at most
abbrev pub drain : ℕ → Standing → Standing
drain zero s = s
drain (suc k) s = cond (has (s.last + 1) s.waiting) (drain k (pass s)) s

-- while the next number waits it has its turn
abbrev pub drained : Standing → Standing
drained s = drain (length s.waiting) s

-- a message waits
abbrev pub joins : ℕ → Msg → Standing → Standing
joins n m s = record { last = s.last; waiting = insert n m s.waiting; order = s.order }

-- what a deed does: a beginning empties what waits and enters the restart; a data message joins what waits; a range gives each number up to
-- its end its turn; then whatever is next and waits has its turn; a refresh is entered
abbrev pub does : Deed → Standing → Standing
does (begins n) s = record { last = n - 1; waiting = []; order = restart_of n ∷ s.order }
does (took (carries n m)) s = drained (joins n m s)
does (took (declares b e)) s = drained (passes (e - s.last) s)
does (took (renews n m)) s = record { last = s.last; waiting = s.waiting; order = refresh_of n m ∷ s.order }
does (took nothing) s = s

-- before any call
abbrev pub idle : Standing
idle = record { last = 0; waiting = []; order = [] }

-- where a history leads the machine
abbrev pub machine : History → Standing
machine [] = idle
machine (c ∷ h) = does (deed c) (machine h)

-- where the events of an order, newest first, lead a sink that began at a meaning
abbrev pub led : {M : Type 0} → (Event → M → M) → List Event → M → M
led step [] m = m
led step (e ∷ es) m = step e (led step es m)

-- what waits is in order of its numbers, each once
abbrev pub WaitingRises : Type 0
WaitingRises = (h : History) → Rising (machine h).waiting
