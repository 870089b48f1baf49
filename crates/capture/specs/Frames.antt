-- A datagram as a sender lays it out: the link's header, with any tags behind Ethernet's addresses, IPv4 without options, UDP, the payload, and padding behind it.
use Rattle.std.specs.Prelude.{◌≡◌, ℕ, ◌+◌, ◌*◌, ◌/◌, ◌%◌, ◌≤◌, List, [], ◌∷◌, ◌++◌, length, Ok, Result}
use Rattle.capture.specs.declared.format.Link.{Link}
use Rattle.capture.specs.declared.format.Link.TheVariants as links
use Rattle.capture.specs.declared.datagram.Skip.{Skip}
use Rattle.capture.specs.Internet.{Sent}

-- a number as two bytes in the order of the network, before others
abbrev pub two : ℕ → List ℕ → List ℕ
two n xs = n / 256 ∷ (n % 256 ∷ xs)

-- four bytes
pub record Address : Type 0 where
  pub a : ℕ
  pub b : ℕ
  pub c : ℕ
  pub d : ℕ

abbrev pub address : Address → List ℕ → List ℕ
address i xs = i.a ∷ (i.b ∷ (i.c ∷ (i.d ∷ xs)))

-- a tag of either type, with two bytes
pub data Tag : Type 0 where
  customer : ℕ → ℕ → Tag
  service : ℕ → ℕ → Tag

abbrev pub tag : Tag → List ℕ → List ℕ
tag (customer x y) xs = 129 ∷ (0 ∷ (x ∷ (y ∷ xs)))
tag (service x y) xs = 136 ∷ (168 ∷ (x ∷ (y ∷ xs)))

unfoldable pub tags : List Tag → List ℕ → List ℕ
tags [] xs = xs
tags (t ∷ ts) xs = tag t (tags ts xs)

-- what a frame has beside the datagram that it carries; the flags are the two that fragment nothing
pub record Envelope : Type 0 where
  pub link_header : List ℕ
  pub tags : List Tag
  pub service : ℕ
  pub identification : ℕ
  pub flags : ℕ
  pub hops : ℕ
  pub checksum : ℕ
  pub source : Address
  pub source_port : ℕ
  pub udp_checksum : ℕ
  pub padding : List ℕ

-- the UDP header, and the payload
abbrev pub udp_bytes : Envelope → ℕ → List ℕ → List ℕ
udp_bytes e port payload = two e.source_port (two port (two (8 + length payload) (two e.udp_checksum payload)))

-- the IPv4 header of five words, and what it carries
abbrev pub ip_bytes : Envelope → Address → List ℕ → List ℕ → List ℕ
ip_bytes e group carried padding =
    69 ∷ (e.service ∷ (two (20 + length carried) (two e.identification (e.flags * 64 ∷ (0 ∷ (e.hops ∷ (17 ∷ (two e.checksum (address e.source (address group (carried ++ padding)))))))))))

-- how many bytes a link's header has beside the type: two addresses; none; 14 before the type; 18 behind it
abbrev pub link_length : Link → ℕ
link_length links.Ethernet = 12
link_length links.Ipv4 = 0
link_length links.Cooked = 14
link_length links.CookedTwo = 18

-- a packet behind a link's header
abbrev pub linked : Link → Envelope → List ℕ → List ℕ
linked links.Ethernet e packet = e.link_header ++ tags e.tags (8 ∷ (0 ∷ packet))
linked links.Ipv4 e packet = packet
linked links.Cooked e packet = e.link_header ++ (8 ∷ (0 ∷ packet))
linked links.CookedTwo e packet = 8 ∷ (0 ∷ (e.link_header ++ packet))

-- the frame of a datagram
abbrev pub frame_of : Link → Envelope → Address → ℕ → List ℕ → List ℕ
frame_of link e group port payload = linked link e (ip_bytes e group (udp_bytes e port payload) e.padding)

-- such a frame, captured whole, gives back where its datagram was sent to, and the payload;
-- its numbers are bytes only where each length fits two of them, so for payloads of at most 65,507 bytes
abbrev pub Delivers : Link → ℕ → List ℕ → Result Sent Skip → Type 0
Delivers link original frame r =
    (e : Envelope) (group : Address) (port : ℕ) (payload : List ℕ) →
    length e.link_header ≡ link_length link → frame ≡ frame_of link e group port payload → original ≤ length frame →
    r ≡ Ok (record { group = address group []; port = port; payload = payload })
