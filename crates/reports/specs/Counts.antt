-- The kind of a packet, and what each note makes of a day's counts.
use Rattle.std.specs.Prelude.{ℕ, ◌+◌, ◌-◌, cond, ◌||◌, Ok, Err, Result, ◌==◌, nat_lt, slice_index, slice_set}
use Rattle.wire.specs.declared.fault.ReadFault.{ReadFault}
use Rattle.wire.specs.Reading.{Msg, Pkt, reset, unavailable, mapping, full, delta}
use Rattle.operator.specs.declared.action.Asked.{Asked}
use Rattle.tally.specs.Tallies.{capped64}
use Rattle.reports.specs.declared.counts.Kind.{Kind}
use Rattle.reports.specs.declared.counts.Kind.TheVariants as kind
use Rattle.reports.specs.declared.counts.Skipped.{Skipped}
use Rattle.reports.specs.declared.counts.Skipped.TheVariants as skipped
use Rattle.reports.specs.declared.counts.Counts.{Counts}

-- a full update with flag 5 or 6 is a refresh
abbrev pub message_kind : Msg → ℕ → Kind
message_kind (reset n) flag = kind.Reset
message_kind (unavailable b e) flag = kind.Unavailable
message_kind mapping flag = kind.Mapping
message_kind (full i s ps) flag = cond (flag == 5 || flag == 6) kind.Refresh kind.Full
message_kind (delta i s ps) flag = kind.Delta

abbrev pub packet_kind : Pkt → Kind
packet_kind q = message_kind q.message q.flag

-- what the reader refuses is unreadable
abbrev pub kind_in : Result Pkt ReadFault → Kind
kind_in (Ok q) = packet_kind q
kind_in (Err f) = kind.Unreadable

-- one more; sums stop at the largest number of 64 bits
abbrev pub one_more : ℕ → ℕ
one_more n = capped64 (n + 1)

-- a packet of a kind was offered
abbrev pub kind_noted : Kind → Counts → Counts
kind_noted kind.Full c = record c { full = one_more c.full }
kind_noted kind.Delta c = record c { delta = one_more c.delta }
kind_noted kind.Mapping c = record c { mapping = one_more c.mapping }
kind_noted kind.Refresh c = record c { refresh = one_more c.refresh }
kind_noted kind.Unavailable c = record c { unavailable = one_more c.unavailable }
kind_noted kind.Reset c = record c { reset = one_more c.reset }
kind_noted kind.Unreadable c = record c { unreadable = one_more c.unreadable }

-- a refusal with a number from 0 to 23; another number changes nothing
abbrev pub refusal_noted : ℕ → Counts → Counts
refusal_noted n c = cond (nat_lt n 24) (record c { refused = slice_set c.refused n (one_more (slice_index c.refused n)) }) c

-- a reset came again
abbrev pub reset_noted : Counts → Counts
reset_noted c = record c { repeated_resets = one_more c.repeated_resets }

-- how many numbers a claim asks for: those from its first to its last
abbrev pub numbers_of : Asked → ℕ
numbers_of a = a.end + 1 - a.begin

-- a claim was made
abbrev pub claim_noted : Asked → Counts → Counts
claim_noted a c = record c { claims = one_more c.claims; asked = capped64 (c.asked + numbers_of a) }

-- a claim was settled, and so many of its numbers were still missing
abbrev pub settlement_noted : ℕ → Counts → Counts
settlement_noted n c = record c { missing = capped64 (c.missing + n) }

-- a record was skipped
abbrev pub skip_noted : Skipped → Counts → Counts
skip_noted skipped.Truncated c = record c { truncated = one_more c.truncated }
skip_noted skipped.Fragment c = record c { fragments = one_more c.fragments }
skip_noted skipped.Other c = record c { others = one_more c.others }
skip_noted skipped.Filtered c = record c { filtered = one_more c.filtered }

-- the packets of all kinds
abbrev pub offered : Counts → ℕ
offered c = capped64 (c.full + c.delta + c.mapping + c.refresh + c.unavailable + c.reset + c.unreadable)

-- the packets refused since they had come before: number 11
abbrev pub duplicates : Counts → ℕ
duplicates c = slice_index c.refused 11
