use Rattle.std.proofs.Common.{◌≡◌, ◌∙◌, sym, ap, arith, ℕ, Bool, Some}
use Rattle.packet_fields.specs.Packets.{in_header, address_len, source_at, segment_sum_at}
use Rattle.packet_fields.specs.Changes.{checksum_after}
use Rattle.packet_fields.specs.declared.packet.HeaderFormat.{HeaderFormat}
use Rattle.packet_fields.specs.declared.transport.SegmentPlan.{SegmentPlan}
use Rattle.packet_fields.proofs.Overwriting.{cong2}
use Rattle.packet_fields.proofs.Versions.{numbers, same_by}
use Rattle.packet_fields.proofs.ChecksumSteps.{has_sum, addresses_in, segment_is_sealed}
use Rattle.packet_fields.proofs.sealing.seal_segment.Goals as goal

pub segment_change-change-requires-clause-addresses : goal.segment_change-change-requires-clause-addresses
segment_change-change-requires-clause-addresses c =
    let p = c.args.old.now in
    let at : segment_sum_at p ≡ Some c.in-Some.at = sym (ap (λ (x : SegmentPlan). x.sum_at) c.requires.plan) ∙ c.in-Some.is in
    let form = c.format-format.ensures p c.requires.version in
    let source : c.format-format.result.src_ip ≡ in_header (source_at p) = ap (λ (f : HeaderFormat). f.src_ip) form in
    let len : c.format-format.result.address_len ≡ address_len p = ap (λ (f : HeaderFormat). f.address_len) form in
    let n = numbers p in
    omega (arith, source, len, n.source, n.address, n.ends, (has_sum p c.in-Some.at at).ends, c.segment_at-start.ensures.at)

pub returns-in-Some : goal.returns-in-Some
returns-in-Some c =
    let p = c.args.old.now in
    let q = c.args.new.now in
    let at : segment_sum_at p ≡ Some c.in-Some.at = sym (ap (λ (x : SegmentPlan). x.sum_at) c.requires.plan) ∙ c.in-Some.is in
    segment_is_sealed p q c.write_word.new.bytes c.in-Some.at c.segment_checksum-checksum.result c.segment_change-change.result (addresses_in c.format-format.result) c.summed_data-payload.result c.segment_at-start.result at
    (same_by c.args.version p q c.requires.version c.requires.same_version).six c.requires.same_header
    c.segment_at-start.ensures.at (ap (λ (f : HeaderFormat). addresses_in f) (c.format-format.ensures p c.requires.version)) c.summed_data-payload.ensures.span c.segment_change-change.ensures
    (c.segment_checksum-checksum.ensures ∙ cong2 (λ (b : Bool) (w : ℕ). checksum_after b w c.segment_change-change.result) c.is_udp-is_udp.ensures c.word.ensures) c.write_word.ensures
