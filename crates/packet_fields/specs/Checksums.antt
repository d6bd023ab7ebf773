-- Believed: the checksums of IPv4, TCP and UDP, and how they follow a change (RFC 1071, RFC 1624).
use Rattle.std.specs.Prelude.{◌≡◌, ◌⊎◌, ◌<◌, ℕ, ◌+◌, ◌-◌, ◌*◌, ◌/◌, ◌%◌, List, [], ◌∷◌, ◌++◌, length, take, drop, sum, Bool, true, false, not, if◌then◌else◌, ◌==◌, ◌&&◌, ◌||◌, Option, Some, None, IsSome, slice_index}
use Rattle.std.specs.Option.{option_eq}
use Rattle.packet_fields.specs.Frames.{word, packet_at, packet}
use Rattle.packet_fields.specs.Packets.{in_header, header_byte, header_word, is_ipv4, is_ipv6, header_len, address_len, source_at, protocol_at, datagram_len, is_udp, segment_at, udp_len, has_udp_len, summed_end, summed_span, header_sum_at, checksum_at, segment_sum_at}
use Rattle.packet_fields.specs.Plans.{header_plan_of, segment_plan_of}
use Rattle.packet_fields.specs.Fields.{bytes_at, overwritten}
use Rattle.packet_fields.specs.declared.plan.Span.{Span}
use Rattle.packet_fields.specs.declared.packet.HeaderPlan.{HeaderPlan}
use Rattle.packet_fields.specs.declared.transport.SegmentPlan.{SegmentPlan}

-- bytes as words of 16 bits, the high byte first; a last odd byte is the high byte of a word whose low
-- byte is 0 (RFC 1071, 1)
unfoldable pub words : List ℕ → List ℕ
words (a ∷ b ∷ rest) = (a * 256 + b) ∷ words rest
words (a ∷ []) = (a * 256) ∷ []
words [] = []

-- a word as two bytes
abbrev pub word_bytes : ℕ → List ℕ
word_bytes n = n / 256 ∷ n % 256 ∷ []

-- a sum in one's complement: each carry out of 16 bits is added at the low end (RFC 1071, 1), which
-- keeps the remainder by 0xffff, and gives a sum of 0 only for zeros
abbrev pub folded : ℕ → ℕ
folded s = if s == 0 then 0 else (s - 1) % 0xffff + 1

-- a word differs
unfoldable pub is_changed : List ℕ → List ℕ → Bool
is_changed (m ∷ ms) (n ∷ ns) = not (m == n) || is_changed ms ns
is_changed ms ns = false

-- the sum of ~m + m' over the words m that became another word m'
unfoldable pub change_sum : List ℕ → List ℕ → ℕ
change_sum (m ∷ ms) (n ∷ ns) = (if m == n then 0 else (0xffff - m) + n) + change_sum ms ns
change_sum ms ns = 0

-- a checksum HC after such a change: ~(~HC + the sum) (RFC 1624, 3, equation 3), and HC if no word differs
abbrev pub adjusted : ℕ → List ℕ → List ℕ → ℕ
adjusted checksum old new = if is_changed old new then 0xffff - folded ((0xffff - checksum) + change_sum old new) else checksum

-- the words under the header checksum: those of IPv4's header without the checksum itself (RFC 791, 3.1)
abbrev pub header_words : List ℕ → List ℕ
header_words p = words (take 10 (drop (in_header 0) p) ++ take (header_len p - 12) (drop (in_header 12) p))

-- the data after the transport header
abbrev pub data_of : List ℕ → Option Span → List ℕ
data_of p None = []
data_of p (Some s) = bytes_at p s

-- both addresses, one after the other (RFC 791, 3.1; RFC 8200, 3)
abbrev pub addresses_of : List ℕ → List ℕ
addresses_of p = take (2 * address_len p) (drop (in_header (source_at p)) p)

-- the words under the TCP or UDP checksum that a network function can write: both addresses, both ports,
-- and some data (RFC 793, 3.1; RFC 768; RFC 8200, 8.1)
abbrev pub segment_words : Option Span → List ℕ → List ℕ
segment_words payload p = words (addresses_of p ++ (take 4 (drop (segment_at p) p) ++ data_of p payload))

-- in UDP a checksum of 0 means that there is none, and a computed 0 is sent as 0xffff (RFC 768)
abbrev pub udp_adjusted : ℕ → List ℕ → List ℕ → ℕ
udp_adjusted checksum old new = if checksum == 0 then 0 else (if adjusted checksum old new == 0 then 0xffff else adjusted checksum old new)

-- a word in its place, if there is one
abbrev pub word_put : Option ℕ → ℕ → List ℕ → List ℕ
word_put None n p = p
word_put (Some at) n p = overwritten at (word_bytes n) p

abbrev pub header_sealed : List ℕ → List ℕ → List ℕ
header_sealed old new = word_put (header_sum_at old) (adjusted (header_word old 10) (header_words old) (header_words new)) new

-- the data is what the old packet has under its checksum: what follows a UDP datagram's own length changes nothing
abbrev pub segment_checksum : List ℕ → List ℕ → ℕ
segment_checksum old new =
    if is_udp old then udp_adjusted (word old (checksum_at old)) (segment_words (summed_span old) old) (segment_words (summed_span old) new) else adjusted (word old (checksum_at old)) (segment_words (summed_span old) old) (segment_words (summed_span old) new)

abbrev pub segment_sealed : List ℕ → List ℕ → List ℕ
segment_sealed old new = word_put (segment_sum_at old) (segment_checksum old new) new

abbrev pub same_span : Option Span → Option Span → Bool
same_span a b = option_eq (λ s t. (s.at == t.at) && (s.len == t.len)) a b

abbrev pub same_number : Option ℕ → Option ℕ → Bool
same_number a b = option_eq (λ m n. m == n) a b

abbrev pub same_header_plan : HeaderPlan → HeaderPlan → Bool
same_header_plan a b = same_span a.tos b.tos && (same_span a.ttl b.ttl && (same_span a.src_ip b.src_ip && (same_span a.dst_ip b.dst_ip && (same_number a.proto b.proto && (same_number a.total_len b.total_len && same_number a.sum_at b.sum_at)))))

abbrev pub same_segment_plan : SegmentPlan → SegmentPlan → Bool
same_segment_plan a b = same_span a.src_port b.src_port && (same_span a.dst_port b.dst_port && (same_span a.payload b.payload && (same_number a.control_bits b.control_bits && same_number a.sum_at b.sum_at)))

-- two packets with IP headers of one version
abbrev pub has_same_version : List ℕ → List ℕ → Bool
has_same_version p q = (is_ipv4 p && is_ipv4 q) || (is_ipv6 p && is_ipv6 q)

-- two packets of one version, length and header length, with the same places and the same fixed values
unfoldable pub has_same_places : List ℕ → List ℕ → Bool
has_same_places p q = has_same_version p q && ((length p == length q) && ((header_len p == header_len q) && (same_header_plan (header_plan_of p) (header_plan_of q) && same_segment_plan (segment_plan_of p) (segment_plan_of q))))

-- the packet with its checksums adjusted to what changed from an old packet
abbrev pub packet_sealed : List ℕ → List ℕ → List ℕ
packet_sealed old new = if has_same_places old new then segment_sealed old (header_sealed old new) else new

-- the frame with its checksums adjusted once, from what it was before to what it is after
abbrev pub sealed : List ℕ → List ℕ → List ℕ
sealed before after = take (packet_at after) after ++ packet_sealed (packet before) (packet after)

-- words whose one's complement sum is all ones, their checksum included (RFC 1071, 1)
abbrev pub IsRight : List ℕ → Type 0
IsRight ws = folded (sum ws) ≡ 0xffff

-- the IPv4 header, as far as it is captured
abbrev pub header_of : List ℕ → List ℕ
header_of p = take (header_len p) (drop (in_header 0) p)

-- the TCP segment or UDP datagram, as far as it is captured
abbrev pub segment_of : List ℕ → List ℕ
segment_of p = take (summed_end p - segment_at p) (drop (segment_at p) p)

-- its length: UDP has one of its own, and TCP fills the IP datagram (RFC 793, 3.1; RFC 768; RFC 8200, 8.1)
abbrev pub segment_len : List ℕ → ℕ
segment_len p = if has_udp_len p then udp_len p else datagram_len p - header_len p

-- the words before it in its sum: both addresses, protocol, length (RFC 793, 3.1; RFC 768). For IPv6 the length has
-- 32 bits, of which the upper 16 are 0 here (RFC 8200, 8.1).
abbrev pub pseudo_header : List ℕ → List ℕ
pseudo_header p = header_byte p (protocol_at p) ∷ segment_len p ∷ words (addresses_of p)

-- the checksums that a frame has are right by that sum; UDP may have none
pub record HasRightSums (frame : List ℕ) : Type 0 where
  pub header : IsSome (header_sum_at (packet frame)) → IsRight (words (header_of (packet frame)))
  pub segment : IsSome (segment_sum_at (packet frame)) → ((is_udp (packet frame) ≡ true) × (word (packet frame) (checksum_at (packet frame)) ≡ 0)) ⊎ IsRight (pseudo_header (packet frame) ++ words (segment_of (packet frame)))

-- every number is a byte
abbrev pub IsBytes : List ℕ → Type 0
IsBytes xs = (i : ℕ) → slice_index xs i < 256
