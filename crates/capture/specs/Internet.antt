-- What an IPv4 packet carries to UDP. Offsets count from the start of each header.
use Rattle.std.specs.Prelude.{ℕ, ◌+◌, ◌*◌, ◌/◌, ◌%◌, Bool, cond, not, ◌||◌, List, [], ◌∷◌, length, slice_range, Ok, Err, Result, ◌==◌, nat_lt, slice_index}
use Rattle.std.specs.Result.{result_map_both}
use Rattle.capture.specs.declared.datagram.Datagram.{Datagram}
use Rattle.capture.specs.declared.datagram.Skip.{Skip}
use Rattle.capture.specs.declared.datagram.Skip.TheVariants.{Truncated, Fragment, Other}
use Rattle.capture.specs.declared.internet.Carried.{Carried}
use Rattle.capture.specs.Numbers.{be16}

-- the address that a packet is sent to, and what it carries
pub record Load : Type 0 where
  pub group : List ℕ
  pub bytes : List ℕ

abbrev pub told_carried : Result Carried Skip → Result Load Skip
told_carried r = result_map_both (λ c. record { group = c.group; bytes = c.bytes.now }) (λ s. s) r

-- a datagram: the address and the port that it is sent to, and its payload
pub record Sent : Type 0 where
  pub group : List ℕ
  pub port : ℕ
  pub payload : List ℕ

abbrev pub told_datagram : Result Datagram Skip → Result Sent Skip
told_datagram r = result_map_both (λ d. record { group = d.group; port = d.port; payload = d.payload.now }) (λ s. s) r

-- the four bytes at an offset
abbrev pub address_at : List ℕ → ℕ → List ℕ
address_at xs i = slice_index xs i ∷ (slice_index xs (i + 1) ∷ (slice_index xs (i + 2) ∷ (slice_index xs (i + 3) ∷ [])))

-- the header's length: four bytes for each of the words in the lower half of the first byte
abbrev pub header_length : List ℕ → ℕ
header_length p = slice_index p 0 % 16 * 4

-- the packet's length, without padding
abbrev pub total_length : List ℕ → ℕ
total_length p = be16 p 2

-- the lower 14 of the 16 bits at 6: more fragments, and the offset
abbrev pub fragmented : List ℕ → Bool
fragmented p = not (be16 p 6 % 16384 == 0)

-- what a packet carries to UDP, or the first of its refusals
abbrev pub carried_in : List ℕ → Result Load Skip
carried_in p =
    cond (nat_lt (length p) 20) (Err Truncated)
    (cond (not (slice_index p 0 / 16 == 4) || nat_lt (header_length p) 20) (Err Other)
    (cond (nat_lt (total_length p) (header_length p) || nat_lt (length p) (total_length p)) (Err Truncated)
    (cond (not (slice_index p 9 == 17)) (Err Other)
    (cond (fragmented p) (Err Fragment)
    (Ok (record { group = address_at p 16; bytes = slice_range p (header_length p) (total_length p) }))))))

-- the length of a datagram, its header's 8 bytes among them
abbrev pub udp_length : List ℕ → ℕ
udp_length u = be16 u 4

-- the datagram that is sent to an address
abbrev pub udp_in : List ℕ → List ℕ → Result Sent Skip
udp_in group u =
    cond (nat_lt (length u) 8) (Err Truncated)
    (cond (nat_lt (udp_length u) 8 || nat_lt (length u) (udp_length u)) (Err Truncated)
    (Ok (record { group = group; port = be16 u 2; payload = slice_range u 8 (udp_length u) })))
