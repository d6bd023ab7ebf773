-- For proofs: the checksums in a frame.
use Rattle.std.specs.Prelude.{◌≡◌, ◌≢◌, ℕ, List, true, IsSome}
use Rattle.packet_fields.specs.Frames.{word, packet}
use Rattle.packet_fields.specs.Packets.{checksum_at, header_sum_at, is_udp, segment_sum_at}

-- both checksums are there, and UDP's isn't 0, which would mean that there is none (RFC 768)
pub record WritesSums (frame : List ℕ) : Type 0 where
  pub header : IsSome (header_sum_at (packet frame))
  pub segment : IsSome (segment_sum_at (packet frame))
  pub udp : is_udp (packet frame) ≡ true → word (packet frame) (checksum_at (packet frame)) ≢ 0
