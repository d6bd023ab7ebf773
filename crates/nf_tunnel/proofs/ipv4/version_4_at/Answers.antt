use Rattle.packet_fields.proofs.Outlines.{start_inside}
use Rattle.nf_tunnel.proofs.ipv4.version_4_at.Goals as goal

pub returns-in-Some-V4-clause-inside : goal.returns-in-Some-V4-clause-inside
returns-in-Some-V4-clause-inside c = start_inside c.args.frame.now c.of-outline.result c.of-outline.ensures
