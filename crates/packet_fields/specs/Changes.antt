-- For proofs: how a change of the bytes under a checksum changes the checksum.
use Rattle.std.specs.Prelude.{◌≡◌, ◌<◌, ℕ, ◌+◌, ◌-◌, ◌^◌, List, ◌++◌, length, take, drop, Bool, if◌then◌else◌, ◌==◌, ◌&&◌, Option}
use Rattle.packet_fields.specs.Packets.{in_header, header_len}
use Rattle.packet_fields.specs.Plans.{header_plan_of}
use Rattle.packet_fields.specs.Fields.{bytes_at}
use Rattle.packet_fields.specs.Checksums.{words, is_changed, change_sum, folded, data_of, has_same_version, same_header_plan}
use Rattle.packet_fields.specs.declared.plan.Span.{Span}
use Rattle.packet_fields.specs.declared.sums.Change.{Change}

-- these bytes became those
pub record IsChange (old new : List ℕ) (change : Change) : Type 0 where
  pub total : change.sum ≡ change_sum (words old) (words new)
  pub some_word : change.is_some ≡ is_changed (words old) (words new)
  pub small : change.sum < 2 ^ 40

-- the bytes under the checksum of an IPv4 header that ends at a place
abbrev pub header_bytes : ℕ → List ℕ → List ℕ
header_bytes end p = take 10 (drop (in_header 0) p) ++ take (end - in_header 12) (drop (in_header 12) p)

-- the bytes under the checksum of a transport header that begins at a place
abbrev pub segment_bytes : Span → ℕ → Option Span → List ℕ → List ℕ
segment_bytes addresses start payload p = bytes_at p addresses ++ (take 4 (drop start p) ++ data_of p payload)

-- a checksum after a change
abbrev pub applied : ℕ → Change → ℕ
applied checksum change = if change.is_some then 0xffff - folded ((0xffff - checksum) + change.sum) else checksum

abbrev pub checksum_after : Bool → ℕ → Change → ℕ
checksum_after is_udp checksum change =
    if is_udp then (if checksum == 0 then 0 else (if applied checksum change == 0 then 0xffff else applied checksum change)) else applied checksum change

-- two packets of one version, length and header length, with the same places and fixed values of their headers
abbrev pub has_same_headers : List ℕ → List ℕ → Bool
has_same_headers p q = has_same_version p q && ((length p == length q) && ((header_len p == header_len q) && same_header_plan (header_plan_of p) (header_plan_of q)))
