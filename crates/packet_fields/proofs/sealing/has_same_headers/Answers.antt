use Rattle.std.proofs.Common.{◌∙◌, ◌&&◌, length, sym}
use Rattle.std.specs.Prelude.{◌==◌}
use Rattle.std.proofs.lemmas.Bool.{and_left}
use Rattle.packet_fields.specs.Packets.{header_len}
use Rattle.packet_fields.specs.Plans.{header_plan_of}
use Rattle.packet_fields.specs.Checksums.{has_same_version, same_header_plan}
use Rattle.packet_fields.proofs.Versions.{version_from, version_test}
use Rattle.packet_fields.proofs.sealing.has_same_headers.Goals as goal

pub returns-then-not-is_version : goal.returns-then-not-is_version
returns-then-not-is_version c =
    let p = c.args.old.now in
    let q = c.args.new.now in
    sym (and_left (has_same_version p q) ((length p == length q) && ((header_len p == header_len q) && same_header_plan (header_plan_of p) (header_plan_of q))) (sym (c.if-not-is_version.ensures ∙ version_test c.args.version p q c.requires)))

pub header_len-requires-then-old-new : goal.header_len-requires-then-old-new
header_len-requires-then-old-new c = version_from c.args.version c.args.new.now (sym c.if-not-is_version.ensures)

pub has_same_header-requires-clause-new_version : goal.has_same_header-requires-clause-new_version
has_same_header-requires-clause-new_version c = version_from c.args.version c.args.new.now (sym c.if-not-is_version.ensures)
