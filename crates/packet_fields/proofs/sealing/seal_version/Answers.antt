use Rattle.std.proofs.Common.{sym}
use Rattle.packet_fields.proofs.Versions.{version_kept}
use Rattle.packet_fields.proofs.Sealed.{same_places, after_header}
use Rattle.packet_fields.proofs.SamePlaces.{headers_parts, same_when, other_headers, other_segment, stays, seals}
use Rattle.packet_fields.proofs.sealing.seal_version.Goals as goal

pub returns-then-not-has_same_headers : goal.returns-then-not-has_same_headers
returns-then-not-has_same_headers c = stays c.args.old.now c.args.new.now (other_headers c.args.old.now c.args.new.now c.if-not-has_same_headers.ensures)

pub has_same_segment-requires-clause-same_version : goal.has_same_segment-requires-clause-same_version
has_same_segment-requires-clause-same_version c =
    version_kept c.args.old.now c.args.new.now c.args.version (headers_parts c.args.old.now c.args.new.now (sym c.if-not-has_same_headers.ensures)).version c.requires

pub seal_header-requires-clause-same_header : goal.seal_header-requires-clause-same_header
seal_header-requires-clause-same_header c = (same_places c.args.old.now c.args.new.now (same_when c.args.old.now c.args.new.now c.if-not-has_same_headers.ensures c.if-has_same_segment.ensures)).header

pub seal_segment-requires-clause-same_version : goal.seal_segment-requires-clause-same_version
seal_segment-requires-clause-same_version c =
    version_kept c.args.old.now c.seal_header.new.new c.args.version
    (after_header c.args.old.now c.args.new.now c.seal_header.new.new (same_when c.args.old.now c.args.new.now c.if-not-has_same_headers.ensures c.if-has_same_segment.ensures) c.seal_header.ensures).version c.requires

pub seal_segment-requires-clause-same_header : goal.seal_segment-requires-clause-same_header
seal_segment-requires-clause-same_header c = (after_header c.args.old.now c.args.new.now c.seal_header.new.new (same_when c.args.old.now c.args.new.now c.if-not-has_same_headers.ensures c.if-has_same_segment.ensures) c.seal_header.ensures).header

pub returns-then-has_same_segment : goal.returns-then-has_same_segment
returns-then-has_same_segment c = seals c.args.old.now c.args.new.now c.seal_header.new.new c.seal_segment.new.new (same_when c.args.old.now c.args.new.now c.if-not-has_same_headers.ensures c.if-has_same_segment.ensures) c.seal_header.ensures c.seal_segment.ensures

pub returns-else-has_same_segment : goal.returns-else-has_same_segment
returns-else-has_same_segment c = stays c.args.old.now c.args.new.now (other_segment c.args.old.now c.args.new.now c.if-has_same_segment.ensures)
