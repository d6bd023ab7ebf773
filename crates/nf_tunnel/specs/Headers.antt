-- For proofs: properties of a packet with an IPv4 header.
use Rattle.std.specs.Prelude.{◌≡◌, ◌≤◌, ℕ, List, length, true, if◌then◌else◌, Option, Some, None}
use Rattle.packet_fields.specs.Frames.{packet}
use Rattle.packet_fields.specs.Packets.{header_word, is_ipv4, header_len, datagram_len, segment_at}
use Rattle.packet_fields.specs.declared.plan.Span.{Span}
use Rattle.nf_tunnel.specs.declared.decap.Decap.{Decap}
use Rattle.nf_tunnel.specs.Tunnels.{header_at, leaves}

-- a header of 20 bytes or more, all of them captured
pub record HasHeader (p : List ℕ) : Type 0 where
  pub there : is_ipv4 p ≡ true
  pub captured : segment_at p ≤ length p
  pub room : 22 ≤ length p
  pub least : 20 ≤ header_len p
  pub datagram : datagram_len p ≡ header_word p 2

-- a packet that enters a tunnel
pub record Enters (p : List ℕ) : Type 0 where
  pub header : HasHeader p
  pub within : header_len p ≤ datagram_len p
  pub short : datagram_len p ≤ 65515

-- the place of the outer header of a frame whose packet leaves the tunnel
abbrev pub outer_span : Decap → List ℕ → Option Span
outer_span tunnel frame = if leaves tunnel (packet frame) then Some (record { at = header_at frame; len = header_len (packet frame) }) else None
