-- A packet that is noted is one more of those offered.
use Rattle.std.proofs.Common.{◌≡◌, arith}
use Rattle.reports.specs.declared.counts.Kind.{Kind}
use Rattle.reports.specs.declared.counts.Kind.TheVariants as kind
use Rattle.reports.specs.declared.counts.Counts.{Counts}
use Rattle.reports.specs.Counts.{one_more, kind_noted, offered}

pub sum_noted : (k : Kind) (c : Counts) → offered (kind_noted k c) ≡ one_more (offered c)
sum_noted kind.Full c = omega arith
sum_noted kind.Delta c = omega arith
sum_noted kind.Mapping c = omega arith
sum_noted kind.Refresh c = omega arith
sum_noted kind.Unavailable c = omega arith
sum_noted kind.Reset c = omega arith
sum_noted kind.Unreadable c = omega arith
