-- Frames before and after a tunnel, worked out by hand.
use Rattle.std.proofs.Common.{◌≡◌, ℕ, List, [], ◌∷◌, ◌++◌, length, refl}
use Rattle.packet_fields.specs.Frames.{tags_len}
use Rattle.packet_fields.specs.Packets.{is_ipv4, is_ipv6}
use Rattle.packet_fields.specs.Checksums.{words}
use Rattle.packet_fields.specs.Writing.{with_tags}
use Rattle.internet_checksum.specs.Checksums.{checksum_of}
use Rattle.nf_tunnel.specs.declared.encap.Encap.{Encap}
use Rattle.nf_tunnel.specs.declared.decap.Decap.{Decap}
use Rattle.nf_tunnel.specs.OuterHeaders.{outer_header}
use Rattle.nf_tunnel.specs.Tunnels.{enters, encapsulated, leaves, decapsulated}

-- a tunnel from 192.0.2.1 to 192.0.2.2, whose outer headers have the time to live 64
abbrev entry : Encap
entry = record { entry = record { octets = 192 ∷ 0 ∷ 2 ∷ 1 ∷ [] }; exit = record { octets = 192 ∷ 0 ∷ 2 ∷ 2 ∷ [] }; ttl = 64 }

abbrev exit : Decap
exit = record { exit = record { octets = 192 ∷ 0 ∷ 2 ∷ 2 ∷ [] } }

abbrev elsewhere : Decap
elsewhere = record { exit = record { octets = 192 ∷ 0 ∷ 2 ∷ 3 ∷ [] } }

-- from 02:00:00:00:00:01 to 02:00:00:00:00:02
abbrev link : List ℕ
link = 2 ∷ 0 ∷ 0 ∷ 0 ∷ 0 ∷ 2 ∷ 2 ∷ 0 ∷ 0 ∷ 0 ∷ 0 ∷ 1 ∷ 8 ∷ 0 ∷ []

-- UDP from 10.0.0.1:1000 to 10.0.0.2:53, without data, with this type of service, length, fragment bytes, checksum
abbrev datagram : ℕ → List ℕ → List ℕ → List ℕ → List ℕ
datagram tos len fragment sum =
    (0x45 ∷ tos ∷ len) ++ (0 ∷ 0 ∷ fragment) ++ (64 ∷ 17 ∷ sum) ++ (10 ∷ 0 ∷ 0 ∷ 1 ∷ 10 ∷ 0 ∷ 0 ∷ 2 ∷ []) ++ (3 ∷ 0xe8 ∷ 0 ∷ 53 ∷ 0 ∷ 8 ∷ 0 ∷ 0 ∷ [])

abbrev two : ℕ → ℕ → List ℕ
two a b = a ∷ b ∷ []

-- an outer header of the tunnel with this type of service, length, fragment bytes and checksum
abbrev outer : ℕ → List ℕ → List ℕ → List ℕ → List ℕ
outer tos len fragment sum = (0x45 ∷ tos ∷ len) ++ (0 ∷ 0 ∷ fragment) ++ (64 ∷ 4 ∷ sum) ++ (0xc0 ∷ 0 ∷ 2 ∷ 1 ∷ 0xc0 ∷ 0 ∷ 2 ∷ 2 ∷ [])

abbrev plain : List ℕ
plain = link ++ datagram 0 (two 0 28) (two 0 0) (two 0x66 0xcf)

abbrev marked : List ℕ
marked = link ++ datagram 8 (two 0 28) (two 0 0) (two 0x66 0xc7)

goes_in : encapsulated entry plain ≡ link ++ (outer 0 (two 0 0x30) (two 0 0) (two 0xf6 0xc6) ++ datagram 0 (two 0 28) (two 0 0) (two 0x66 0xcf))
unfolding enters outer_header checksum_of words tags_len is_ipv4 is_ipv6
goes_in = refl

sixty_two_bytes : length (encapsulated entry plain) ≡ 62
unfolding enters outer_header checksum_of words tags_len is_ipv4 is_ipv6
sixty_two_bytes = refl

marked_goes_in : encapsulated entry marked ≡ link ++ (outer 8 (two 0 0x30) (two 0 0) (two 0xf6 0xbe) ++ datagram 8 (two 0 28) (two 0 0) (two 0x66 0xc7))
unfolding enters outer_header checksum_of words tags_len is_ipv4 is_ipv6
marked_goes_in = refl

marked_comes_out : decapsulated exit (encapsulated entry marked) ≡ marked
unfolding enters leaves outer_header checksum_of words tags_len is_ipv4 is_ipv6
marked_comes_out = refl

stays_for_another : decapsulated elsewhere (encapsulated entry plain) ≡ encapsulated entry plain
unfolding enters leaves outer_header checksum_of words tags_len is_ipv4 is_ipv6
stays_for_another = refl

-- after a tag
abbrev tag : List ℕ
tag = 0x81 ∷ 0 ∷ 0 ∷ 7 ∷ []

tagged_goes_in : encapsulated entry (with_tags tag plain) ≡ with_tags tag (encapsulated entry plain)
unfolding enters outer_header checksum_of words tags_len is_ipv4 is_ipv6
tagged_goes_in = refl

-- Don't Fragment is kept, and More Fragments and the offset are not
fragment_goes_in : encapsulated entry (link ++ datagram 0 (two 0 28) (two 0x60 1) (two 6 0xce)) ≡ link ++ (outer 0 (two 0 0x30) (two 0x40 0) (two 0xb6 0xc6) ++ datagram 0 (two 0 28) (two 0x60 1) (two 6 0xce))
unfolding enters outer_header checksum_of words tags_len is_ipv4 is_ipv6
fragment_goes_in = refl

-- a length of 65,515 has room for 20 more, and one of 65,516 hasn't; neither is all of it captured
longest_goes_in : length (encapsulated entry (link ++ datagram 0 (two 0xff 0xeb) (two 0 0) (two 0 0))) ≡ 62
unfolding enters outer_header checksum_of words tags_len is_ipv4 is_ipv6
longest_goes_in = refl

too_long_stays : length (encapsulated entry (link ++ datagram 0 (two 0xff 0xec) (two 0 0) (two 0 0))) ≡ 42
unfolding enters tags_len is_ipv4 is_ipv6
too_long_stays = refl

-- a length shorter than the header
too_short_stays : length (encapsulated entry (link ++ datagram 0 (two 0 19) (two 0 0) (two 0 0))) ≡ 42
unfolding enters tags_len is_ipv4 is_ipv6
too_short_stays = refl

-- a fragment of an outer packet stays, whether the first or a later one; Don't Fragment makes no fragment
abbrev carrier : List ℕ → List ℕ
carrier fragment = link ++ (outer 0 (two 0 0x30) fragment (two 0 0) ++ datagram 0 (two 0 28) (two 0 0) (two 0x66 0xcf))

first_fragment_stays : length (decapsulated exit (carrier (two 0x20 0))) ≡ 62
unfolding leaves tags_len is_ipv4 is_ipv6
first_fragment_stays = refl

later_fragment_stays : length (decapsulated exit (carrier (two 0 1))) ≡ 62
unfolding leaves tags_len is_ipv4 is_ipv6
later_fragment_stays = refl

unfragmented_comes_out : decapsulated exit (carrier (two 0x40 0)) ≡ plain
unfolding leaves tags_len is_ipv4 is_ipv6
unfragmented_comes_out = refl

-- an outer header of six words is removed whole
options_go : decapsulated exit (link ++ ((0x46 ∷ 0 ∷ 0 ∷ 0x34 ∷ 0 ∷ 0 ∷ 0 ∷ 0 ∷ 64 ∷ 4 ∷ 0 ∷ 0 ∷ []) ++ (10 ∷ 0 ∷ 0 ∷ 9 ∷ 0xc0 ∷ 0 ∷ 2 ∷ 2 ∷ 1 ∷ 1 ∷ 1 ∷ 0 ∷ []) ++ datagram 0 (two 0 28) (two 0 0) (two 0x66 0xcf))) ≡ plain
unfolding leaves tags_len is_ipv4 is_ipv6
options_go = refl
