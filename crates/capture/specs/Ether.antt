-- The IPv4 packet behind a link's header.
use Rattle.std.specs.Prelude.{ℕ, Bool, false, cond, ◌&&◌, ◌||◌, List, ◌∷◌, length, drop, Ok, Err, Result, ◌==◌, nat_lt, slice_index}
use Rattle.std.specs.Result.{result_map_both}
use Rattle.std.specs.Borrow.{Bor}
use Rattle.capture.specs.declared.format.Link.{Link}
use Rattle.capture.specs.declared.format.Link.TheVariants as link
use Rattle.capture.specs.declared.datagram.Skip.{Skip}
use Rattle.capture.specs.declared.datagram.Skip.TheVariants.{Truncated, Other}

-- the bytes that a result points to
abbrev pub told_bytes : Result (Bor (List ℕ)) Skip → Result (List ℕ) Skip
told_bytes r = result_map_both (λ b. b.now) (λ s. s) r

-- type 0800
abbrev pub is_ipv4 : ℕ → ℕ → Bool
is_ipv4 a b = a == 8 && b == 0

-- type 8100 or 88a8: a tag
abbrev pub is_tag : ℕ → ℕ → Bool
is_tag a b = (a == 129 && b == 0) || (a == 136 && b == 168)

-- bytes that begin with such a type
abbrev pub tagged : List ℕ → Bool
tagged (a ∷ (b ∷ _)) = is_tag a b
tagged _ = false

-- the packet behind a type of two bytes
abbrev pub of_type : ℕ → ℕ → List ℕ → Result (List ℕ) Skip
of_type a b packet = cond (is_ipv4 a b) (Ok packet) (Err Other)

-- what is behind so many bytes, where there are as many
abbrev pub behind : ℕ → List ℕ → (List ℕ → Result (List ℕ) Skip) → Result (List ℕ) Skip
behind n xs f = cond (nat_lt (length xs) n) (Err Truncated) (f (drop n xs))

-- bytes that begin with a type
abbrev pub typed_in : List ℕ → Result (List ℕ) Skip
typed_in xs = behind 2 xs (of_type (slice_index xs 0) (slice_index xs 1))

-- a type and what is behind it, any tags between: a tag has two bytes more, and the type stands behind it again
unfoldable pub untagged : List ℕ → Result (List ℕ) Skip
untagged (a ∷ (b ∷ (c ∷ (d ∷ rest)))) = cond (is_tag a b) (untagged rest) (of_type a b (c ∷ (d ∷ rest)))
untagged (a ∷ (b ∷ rest)) = cond (is_tag a b) (Err Truncated) (of_type a b rest)
untagged rest = Err Truncated

-- two addresses of 6 bytes, and the type
abbrev pub ethernet_in : List ℕ → Result (List ℕ) Skip
ethernet_in frame = behind 12 frame untagged

-- 16 bytes, the type at 14
abbrev pub cooked_in : List ℕ → Result (List ℕ) Skip
cooked_in frame = behind 14 frame typed_in

-- 20 bytes, the type at 0
abbrev pub cooked_two_in : List ℕ → Result (List ℕ) Skip
cooked_two_in frame = behind 20 frame (of_type (slice_index frame 0) (slice_index frame 1))

-- the packet in a frame of a link
abbrev pub packet_in : Link → List ℕ → Result (List ℕ) Skip
packet_in link.Ethernet frame = ethernet_in frame
packet_in link.Ipv4 frame = Ok frame
packet_in link.Cooked frame = cooked_in frame
packet_in link.CookedTwo frame = cooked_two_in frame
