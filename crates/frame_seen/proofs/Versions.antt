-- The version of the addresses that a frame shows.
use Rattle.std.proofs.Common.{◌≡◌, ◌≤◌, ◌+◌, ◌∙◌, ℕ, List, length, true, false, refl, ap}
use Rattle.std.specs.Prelude.{◌==◌, Option, Some, None, IfSome}
use Rattle.std.specs.Option.{option_map, option_and_then}
use Rattle.std.proofs.lemmas.Bool.{cond-false}
use Rattle.byteorder.specs.Endian.{big_number}
use Rattle.packet_fields.specs.Frames.{packet}
use Rattle.packet_fields.specs.Packets.{in_header, is_ipv6, has_header, address_len, source_at, destination_at}
use Rattle.packet_fields.specs.Fields.{span, bytes_at, packet_span}
use Rattle.packet_fields.specs.declared.field.Field.TheVariants.{SrcIp, DstIp}
use Rattle.packet_fields.specs.declared.plan.Span.{Span}
use Rattle.packet_fields.proofs.ChecksumSteps.{part_len}
use Rattle.packet_fields.proofs.Spans.{span_within-len, some_moved, in_frame-inside}
use Rattle.policy_text.specs.Meeting.{is_met}
use Rattle.policy_text.specs.declared.clause.Clause.TheVariants.{Src, Dst, Src6, Dst6}
use Rattle.frame_seen.specs.Seeing.{address_of, seen_of}

-- bytes of another length are no address of this version
none_of : (o : Option Span) (frame : List ℕ) (n size : ℕ) → IfSome o (λ s. s.at + s.len ≤ length frame) → IfSome o (λ s. s.len ≡ n) → (n == size) ≡ false → option_and_then (address_of size) (option_map (bytes_at frame) o) ≡ None
none_of None frame n size inside len other = refl
none_of (Some s) frame n size inside len other =
    let bytes_len : length (bytes_at frame s) ≡ n = part_len s.len s.at frame inside ∙ len in
    cond-false (length (bytes_at frame s) == size) (Some (big_number size (bytes_at frame s))) None (ap (λ k. k == size) bytes_len ∙ other)

source_len : (frame : List ℕ) → IfSome (span SrcIp frame) (λ s. s.len ≡ address_len (packet frame))
source_len frame =
    let p = packet frame in
    some_moved (packet_span SrcIp p) _ (λ s. s.len ≡ address_len p) (span_within-len (has_header p) (length p) (in_header (source_at p)) (address_len p))

destination_len : (frame : List ℕ) → IfSome (span DstIp frame) (λ s. s.len ≡ address_len (packet frame))
destination_len frame =
    let p = packet frame in
    some_moved (packet_span DstIp p) _ (λ s. s.len ≡ address_len p) (span_within-len (has_header p) (length p) (in_header (destination_at p)) (address_len p))

address_len-six : (frame : List ℕ) → is_ipv6 (packet frame) ≡ true → (address_len (packet frame) == 4) ≡ false
address_len-six frame six = rw six refl

address_len-four : (frame : List ℕ) → is_ipv6 (packet frame) ≡ false → (address_len (packet frame) == 16) ≡ false
address_len-four frame four = rw four refl

pub no_src : (frame : List ℕ) → is_ipv6 (packet frame) ≡ true → (seen_of frame).src ≡ None
no_src frame six = none_of (span SrcIp frame) frame (address_len (packet frame)) 4 (in_frame-inside SrcIp frame) (source_len frame) (address_len-six frame six)

pub no_dst : (frame : List ℕ) → is_ipv6 (packet frame) ≡ true → (seen_of frame).dst ≡ None
no_dst frame six = none_of (span DstIp frame) frame (address_len (packet frame)) 4 (in_frame-inside DstIp frame) (destination_len frame) (address_len-six frame six)

pub no_src6 : (frame : List ℕ) → is_ipv6 (packet frame) ≡ false → (seen_of frame).src6 ≡ None
no_src6 frame four = none_of (span SrcIp frame) frame (address_len (packet frame)) 16 (in_frame-inside SrcIp frame) (source_len frame) (address_len-four frame four)

pub no_dst6 : (frame : List ℕ) → is_ipv6 (packet frame) ≡ false → (seen_of frame).dst6 ≡ None
no_dst6 frame four = none_of (span DstIp frame) frame (address_len (packet frame)) 16 (in_frame-inside DstIp frame) (destination_len frame) (address_len-four frame four)

pub src_unmet : (frame : List ℕ) (prefix bits : ℕ) → is_ipv6 (packet frame) ≡ true → is_met (seen_of frame) (Src prefix bits) ≡ false
src_unmet frame prefix bits six = rw (no_src frame six) refl

pub dst_unmet : (frame : List ℕ) (prefix bits : ℕ) → is_ipv6 (packet frame) ≡ true → is_met (seen_of frame) (Dst prefix bits) ≡ false
dst_unmet frame prefix bits six = rw (no_dst frame six) refl

pub src6_unmet : (frame : List ℕ) (prefix bits : ℕ) → is_ipv6 (packet frame) ≡ false → is_met (seen_of frame) (Src6 prefix bits) ≡ false
src6_unmet frame prefix bits four = rw (no_src6 frame four) refl

pub dst6_unmet : (frame : List ℕ) (prefix bits : ℕ) → is_ipv6 (packet frame) ≡ false → is_met (seen_of frame) (Dst6 prefix bits) ≡ false
dst6_unmet frame prefix bits four = rw (no_dst6 frame four) refl
