-- The worked cases compute.
use Rattle.std.proofs.Common.{refl}
use Rattle.capture.specs.Formats.{unit_of, magic_of, link_of}
use Rattle.capture.specs.Ether.{untagged}
use Rattle.capture.specs.Cases.{FormatCases, RecordCases, DatagramCases, Cases}

format_cases : FormatCases
unfolding unit_of magic_of link_of
format_cases = record { micros = refl; nanos = refl; big = refl; big_nanos = refl; upper = refl; raw = refl; raw_older = refl; magic = refl; link = refl; short = refl }

record_cases : RecordCases
record_cases = record { read = refl; short = refl; long = refl; last_micros = refl; last_nanos = refl; midnight = refl; one = refl; beyond = refl }

datagram_cases : DatagramCases
unfolding untagged
datagram_cases = record { plain = refl; tagged = refl; tagged_twice = refl; raw = refl; cooked = refl; cooked_two = refl; options = refl; shorter = refl; empty = refl; captured_in_part = refl; no_type = refl; tag_cut = refl; type_cut = refl; type_86dd = refl; version = refl; words = refl; total_short = refl; total_long = refl; protocol = refl; more_fragments = refl; an_offset = refl; other_fragment = refl; udp_short = refl; udp_long = refl; udp_cut = refl }

pub cases : Cases
cases = record { format = format_cases; records = record_cases; datagrams = datagram_cases }
