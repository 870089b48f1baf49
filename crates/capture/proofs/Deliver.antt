-- A frame that is laid out right gives back its datagram.
use Rattle.std.proofs.Common.{◌≡◌, ℕ, ◌+◌, ◌-◌, ◌*◌, false, ltb, List, [], ◌∷◌, ◌++◌, length, drop, Ok, Result, refl, sym, ◌∙◌, arith, length-append}
use Rattle.std.proofs.lemmas.Bool.Decides.{nat_tests}
use Rattle.std.proofs.lemmas.Nat.{div-add-mod', mod-mul-add}
use Rattle.std.proofs.Math.Seq.{drop-append_seam, take-append_seam, take-length}
use Rattle.capture.specs.declared.format.Link.{Link}
use Rattle.capture.specs.declared.format.Link.TheVariants as links
use Rattle.capture.specs.declared.datagram.Skip.{Skip}
use Rattle.capture.specs.Ether.{untagged, packet_in}
use Rattle.capture.specs.Internet.{Sent, carried_in, udp_in}
use Rattle.capture.specs.Datagrams.{datagram_in}
use Rattle.capture.specs.Frames.{Address, address, Tag, customer, service, tags, Envelope, udp_bytes, ip_bytes, link_length, linked, Delivers}

udp_found : (e : Envelope) (group : List ℕ) (port : ℕ) (payload : List ℕ) →
    udp_in group (udp_bytes e port payload) ≡ Ok (record { group = group; port = port; payload = payload })
udp_found e group port payload =
    let u = udp_bytes e port payload in
    let n = div-add-mod' (8 + length payload) 256 in
    let p = div-add-mod' port 256 in
    let long : ltb (length u) 8 ≡ false = grind (arith, nat_tests) in
    let enough : ltb (8 + length payload) 8 ≡ false = grind (arith, nat_tests) in
    let within : ltb (length u) (8 + length payload) ≡ false = grind (arith, nat_tests) in
    let less : 8 + length payload - 8 ≡ length payload = omega arith in
    rw (n, p, long, enough, within, less, take-length payload) refl

ip_found : (e : Envelope) (group : Address) (carried padding : List ℕ) →
    carried_in (ip_bytes e group carried padding) ≡ Ok (record { group = address group []; bytes = carried })
ip_found e group carried padding =
    let p = ip_bytes e group carried padding in
    let n = div-add-mod' (20 + length carried) 256 in
    let both = length-append carried padding in
    let long : ltb (length p) 20 ≡ false = grind (arith, nat_tests) in
    let enough : ltb (20 + length carried) 20 ≡ false = grind (arith, nat_tests) in
    let within : ltb (length p) (20 + length carried) ≡ false = grind (arith, nat_tests, both) in
    let flags : e.flags * 64 * 256 + 0 ≡ e.flags * 16384 + 0 = omega arith in
    let whole = mod-mul-add e.flags 16384 0 (omega arith) in
    let less : 20 + length carried - 20 ≡ length carried = omega arith in
    rw (n, long, enough, within, flags, whole, less, take-append_seam carried padding) refl

untagged_found : (ts : List Tag) (e : Envelope) (group : Address) (carried padding : List ℕ) →
    untagged (tags ts (8 ∷ (0 ∷ ip_bytes e group carried padding))) ≡ Ok (ip_bytes e group carried padding)
unfolding untagged tags
untagged_found [] e group carried padding = refl
untagged_found (customer x y ∷ ts) e group carried padding = untagged_found ts e group carried padding
untagged_found (service x y ∷ ts) e group carried padding = untagged_found ts e group carried padding

packet_found : (link : Link) (e : Envelope) (group : Address) (carried : List ℕ) → length e.link_header ≡ link_length link →
    packet_in link (linked link e (ip_bytes e group carried e.padding)) ≡ Ok (ip_bytes e group carried e.padding)
packet_found links.Ethernet e group carried l =
    let h = e.link_header in
    let behind = tags e.tags (8 ∷ (0 ∷ ip_bytes e group carried e.padding)) in
    let both = length-append h behind in
    let long : ltb (length (h ++ behind)) 12 ≡ false = grind (arith, nat_tests, both, l) in
    let rest : drop 12 (h ++ behind) ≡ behind = rw (sym l) (drop-append_seam h behind) in
    rw (long, rest, untagged_found e.tags e group carried e.padding) refl
packet_found links.Ipv4 e group carried l = refl
packet_found links.Cooked e group carried l =
    let h = e.link_header in
    let behind = 8 ∷ (0 ∷ ip_bytes e group carried e.padding) in
    let both = length-append h behind in
    let long : ltb (length (h ++ behind)) 14 ≡ false = grind (arith, nat_tests, both, l) in
    let rest : drop 14 (h ++ behind) ≡ behind = rw (sym l) (drop-append_seam h behind) in
    let typed : ltb (length behind) 2 ≡ false = grind (arith, nat_tests) in
    rw (long, rest, typed) refl
packet_found links.CookedTwo e group carried l =
    let h = e.link_header in
    let p = ip_bytes e group carried e.padding in
    let both = length-append h p in
    let long : ltb (length (8 ∷ (0 ∷ (h ++ p)))) 20 ≡ false = grind (arith, nat_tests, both, l) in
    let rest : drop 18 (h ++ p) ≡ p = rw (sym l) (drop-append_seam h p) in
    rw (long, rest) refl

pub told_delivers : (link : Link) (original : ℕ) (frame : List ℕ) (r : Result Sent Skip) → r ≡ datagram_in link original frame → Delivers link original frame r
told_delivers link original frame r i e group port payload l f w =
    let u = udp_bytes e port payload in
    let whole : ltb (length frame) original ≡ false = grind (arith, nat_tests, w) in
    let packet : packet_in link frame ≡ Ok (ip_bytes e group u e.padding) = rw f (packet_found link e group u l) in
    i ∙ (rw (whole, packet, ip_found e group u e.padding, udp_found e (address group []) port payload) refl)
