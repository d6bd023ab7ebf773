use Rattle.std.proofs.Common.{◌≡◌, ◌∙◌, ap, arith, sym, List, ℕ, length}
use Rattle.std.specs.Prelude.{None, Some}
use Rattle.packet_fields.specs.Frames.{packet}
use Rattle.packet_fields.specs.Packets.{in_header, protocol_at}
use Rattle.packet_fields.specs.Outlines.{format_of}
use Rattle.packet_fields.specs.declared.packet.HeaderFormat.{HeaderFormat}
use Rattle.packet_fields.specs.declared.transport.SegmentPlan.{SegmentPlan}
use Rattle.packet_fields.proofs.Versions.{no_transport, transport_parts}
use Rattle.packet_fields.proofs.Formats.{segment_plan-none}
use Rattle.packet_fields.proofs.Outlines.{has_segment, version_told}
use Rattle.packet_fields.proofs.outline.Outline.control_bits.Goals as goal

pub returns-in_err-version : goal.returns-in_err-version
returns-in_err-version c =
    let p = packet c.args.frame.now in
    let gone = version_told c.args.frame.now c.args.self.now None c.requires c.in_err-version.was in
    c.from_residual.ensures ∙ ap (λ (s : SegmentPlan). s.control_bits) (segment_plan-none p (no_transport p (sym gone)))

pub bounds-packet-format : goal.bounds-packet-format
bounds-packet-format c =
    let p = packet c.args.frame.now in
    let segment = has_segment c.args.frame.now c.args.self.now c.in_ok-segment.segment c.requires c.in_ok-segment.was in
    let told = version_told c.args.frame.now c.args.self.now (Some c.in_ok-version.version) c.requires c.in_ok-version.was in
    let form : c.format.result ≡ format_of p = c.format.ensures p told in
    let at : c.format.result.protocol ≡ in_header (protocol_at p) = ap (λ (f : HeaderFormat). f.protocol) form in
    let same : length c.packet_in-packet.result.now ≡ length p = ap (λ (xs : List ℕ). length xs) c.packet_in-packet.ensures.packet in
    omega (arith, at, same, (transport_parts p segment.there).captured)
