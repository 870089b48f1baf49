-- Worked cases.
use Rattle.std.specs.Prelude.{◌≡◌, ℕ, List, [], ◌∷◌, length, Ok, Err, Result}
use Rattle.capture.specs.declared.format.Order.TheVariants.{Big, Little}
use Rattle.capture.specs.declared.format.Unit.TheVariants.{Micros, Nanos}
use Rattle.capture.specs.declared.format.Link.{Link}
use Rattle.capture.specs.declared.format.Link.TheVariants as links
use Rattle.capture.specs.declared.format.FormatFault.TheVariants as format
use Rattle.capture.specs.declared.datagram.Skip.{Skip}
use Rattle.capture.specs.declared.datagram.Skip.TheVariants.{Truncated, Fragment, Other}
use Rattle.capture.specs.declared.records.RecordFault.TheVariants as records
use Rattle.capture.specs.Formats.{format_in}
use Rattle.capture.specs.Records.{record_in, millis_of_day}
use Rattle.capture.specs.Internet.{Sent}
use Rattle.capture.specs.Datagrams.{datagram_in}

-- a file's header: the magic number, 16 bytes that are not read, and the link type
abbrev pub header : ℕ → ℕ → ℕ → ℕ → ℕ → ℕ → ℕ → ℕ → List ℕ
header a b c d k l m n = a ∷ b ∷ c ∷ d ∷ 2 ∷ 0 ∷ 4 ∷ 0 ∷ 0 ∷ 0 ∷ 0 ∷ 0 ∷ 0 ∷ 0 ∷ 0 ∷ 0 ∷ 255 ∷ 255 ∷ 0 ∷ 0 ∷ k ∷ l ∷ m ∷ n ∷ []

pub record FormatCases : Type 0 where
  pub micros : format_in (header 212 195 178 161 1 0 0 0) ≡ Ok (record { order = Little; unit = Micros; link = links.Ethernet })
  pub nanos : format_in (header 77 60 178 161 1 0 0 0) ≡ Ok (record { order = Little; unit = Nanos; link = links.Ethernet })
  pub big : format_in (header 161 178 195 212 0 0 0 113) ≡ Ok (record { order = Big; unit = Micros; link = links.Cooked })
  pub big_nanos : format_in (header 161 178 60 77 0 0 1 20) ≡ Ok (record { order = Big; unit = Nanos; link = links.CookedTwo })
  -- the upper 16 bits of the link type are not read
  pub upper : format_in (header 212 195 178 161 101 0 0 40) ≡ Ok (record { order = Little; unit = Micros; link = links.Ipv4 })
  pub raw : format_in (header 212 195 178 161 228 0 0 0) ≡ Ok (record { order = Little; unit = Micros; link = links.Ipv4 })
  pub raw_older : format_in (header 212 195 178 161 12 0 0 0) ≡ Ok (record { order = Little; unit = Micros; link = links.Ipv4 })
  pub magic : format_in (header 10 13 13 10 1 0 0 0) ≡ Err format.Magic
  pub link : format_in (header 212 195 178 161 105 0 0 0) ≡ Err (format.Link 105)
  pub short : format_in (212 ∷ 195 ∷ 178 ∷ 161 ∷ []) ≡ Err format.Short

-- a record of three captured bytes out of 60, and what follows it
abbrev pub some_record : List ℕ → List ℕ
some_record xs = 1 ∷ 2 ∷ 0 ∷ 0 ∷ 5 ∷ 0 ∷ 0 ∷ 0 ∷ 3 ∷ 0 ∷ 0 ∷ 0 ∷ 60 ∷ 0 ∷ 0 ∷ 0 ∷ 7 ∷ 8 ∷ xs

pub record RecordCases : Type 0 where
  pub read : record_in Little (some_record (9 ∷ 10 ∷ [])) ≡ Ok (record { seconds = 513; fraction = 5; original = 60; frame = 7 ∷ 8 ∷ 9 ∷ [] })
  pub short : record_in Little (some_record []) ≡ Err records.Short
  -- in the other order the captured length is 3 at the top
  pub long : record_in Big (some_record (9 ∷ [])) ≡ Err (records.Long 50331648)
  pub last_micros : millis_of_day Micros 86399 999999 ≡ 86399999
  pub last_nanos : millis_of_day Nanos 86399 999999999 ≡ 86399999
  pub midnight : millis_of_day Micros 172800 999 ≡ 0
  pub one : millis_of_day Nanos 0 1000000 ≡ 1
  -- a fraction beyond its second
  pub beyond : millis_of_day Micros 1 1500000 ≡ 1999

-- an IPv4 header of 20 bytes to 239.1.2.3, from its first byte, total length, flags and offset, and protocol
abbrev pub ip : ℕ → ℕ → ℕ → ℕ → ℕ → List ℕ → List ℕ
ip first total f g protocol xs = first ∷ 0 ∷ 0 ∷ total ∷ 0 ∷ 1 ∷ f ∷ g ∷ 64 ∷ protocol ∷ 0 ∷ 0 ∷ 10 ∷ 0 ∷ 0 ∷ 1 ∷ 239 ∷ 1 ∷ 2 ∷ 3 ∷ xs

-- a UDP header to port 20001, from its length, and three bytes of payload
abbrev pub udp : ℕ → List ℕ → List ℕ
udp n xs = 0 ∷ 99 ∷ 78 ∷ 33 ∷ 0 ∷ n ∷ 0 ∷ 0 ∷ 7 ∷ 8 ∷ 9 ∷ xs

abbrev pub ethernet : List ℕ → List ℕ
ethernet xs = 1 ∷ 0 ∷ 94 ∷ 1 ∷ 2 ∷ 3 ∷ 2 ∷ 0 ∷ 0 ∷ 0 ∷ 0 ∷ 1 ∷ xs

-- a packet that is right, two bytes of padding behind it
abbrev pub packet : List ℕ
packet = ip 69 31 64 0 17 (udp 11 (0 ∷ 0 ∷ []))

abbrev pub of : Link → List ℕ → Result Sent Skip
of link xs = datagram_in link (length xs) xs

abbrev pub sent : Result Sent Skip
sent = Ok (record { group = 239 ∷ 1 ∷ 2 ∷ 3 ∷ []; port = 20001; payload = 7 ∷ 8 ∷ 9 ∷ [] })

pub record DatagramCases : Type 0 where
  pub plain : of links.Ethernet (ethernet (8 ∷ 0 ∷ packet)) ≡ sent
  pub tagged : of links.Ethernet (ethernet (129 ∷ 0 ∷ 0 ∷ 5 ∷ 8 ∷ 0 ∷ packet)) ≡ sent
  pub tagged_twice : of links.Ethernet (ethernet (136 ∷ 168 ∷ 0 ∷ 5 ∷ 129 ∷ 0 ∷ 0 ∷ 6 ∷ 8 ∷ 0 ∷ packet)) ≡ sent
  pub raw : of links.Ipv4 packet ≡ sent
  pub cooked : of links.Cooked (0 ∷ 0 ∷ 0 ∷ 1 ∷ 0 ∷ 6 ∷ 0 ∷ 0 ∷ 0 ∷ 0 ∷ 0 ∷ 1 ∷ 0 ∷ 0 ∷ 8 ∷ 0 ∷ packet) ≡ sent
  pub cooked_two : of links.CookedTwo (8 ∷ 0 ∷ 0 ∷ 0 ∷ 0 ∷ 0 ∷ 0 ∷ 2 ∷ 0 ∷ 1 ∷ 2 ∷ 6 ∷ 2 ∷ 0 ∷ 0 ∷ 0 ∷ 0 ∷ 1 ∷ 0 ∷ 0 ∷ packet) ≡ sent
  -- one word of options
  pub options : of links.Ipv4 (ip 70 35 0 0 17 (148 ∷ 4 ∷ 0 ∷ 0 ∷ udp 11 [])) ≡ sent
  -- a datagram shorter than what the packet has left
  pub shorter : of links.Ipv4 (ip 69 31 0 0 17 (udp 10 [])) ≡ Ok (record { group = 239 ∷ 1 ∷ 2 ∷ 3 ∷ []; port = 20001; payload = 7 ∷ 8 ∷ [] })
  pub empty : of links.Ipv4 (ip 69 31 0 0 17 (udp 8 [])) ≡ Ok (record { group = 239 ∷ 1 ∷ 2 ∷ 3 ∷ []; port = 20001; payload = [] })
  pub captured_in_part : datagram_in links.Ipv4 34 packet ≡ Err Truncated
  pub no_type : of links.Ethernet (ethernet []) ≡ Err Truncated
  pub tag_cut : of links.Ethernet (ethernet (129 ∷ 0 ∷ 0 ∷ [])) ≡ Err Truncated
  pub type_cut : of links.Ethernet (ethernet (129 ∷ 0 ∷ 0 ∷ 5 ∷ 8 ∷ [])) ≡ Err Truncated
  pub type_86dd : of links.Ethernet (ethernet (134 ∷ 221 ∷ packet)) ≡ Err Other
  pub version : of links.Ipv4 (ip 101 31 0 0 17 (udp 11 [])) ≡ Err Other
  pub words : of links.Ipv4 (ip 68 31 0 0 17 (udp 11 [])) ≡ Err Other
  pub total_short : of links.Ipv4 (ip 69 0 0 0 17 (udp 11 [])) ≡ Err Truncated
  pub total_long : of links.Ipv4 (ip 69 32 0 0 17 (udp 11 [])) ≡ Err Truncated
  pub protocol : of links.Ipv4 (ip 69 31 0 0 6 (udp 11 [])) ≡ Err Other
  pub more_fragments : of links.Ipv4 (ip 69 31 32 0 17 (udp 11 [])) ≡ Err Fragment
  pub an_offset : of links.Ipv4 (ip 69 31 0 1 17 (udp 11 [])) ≡ Err Fragment
  -- a fragment of another protocol
  pub other_fragment : of links.Ipv4 (ip 69 31 32 0 6 (udp 11 [])) ≡ Err Other
  pub udp_short : of links.Ipv4 (ip 69 31 0 0 17 (udp 7 [])) ≡ Err Truncated
  -- beyond the packet, within the frame
  pub udp_long : of links.Ipv4 (ip 69 31 0 0 17 (udp 12 (0 ∷ []))) ≡ Err Truncated
  pub udp_cut : of links.Ipv4 (ip 69 27 0 0 17 (udp 11 [])) ≡ Err Truncated

pub record Cases : Type 0 where
  pub format : FormatCases
  pub records : RecordCases
  pub datagrams : DatagramCases
