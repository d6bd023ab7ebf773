use Rattle.std.proofs.Common.{◌∙◌, Some, ap, arith}
use Rattle.packet_fields.specs.declared.packet.IpVersion.{IpVersion}
use Rattle.packet_fields.specs.declared.packet.IpVersion.TheVariants.{V4}
use Rattle.packet_fields.proofs.Versions.{has_version, version_is, header_len-ipv4}
use Rattle.packet_fields.proofs.packet.header_len.Goals as goal

pub bounds-packet-2 : goal.bounds-packet-2
bounds-packet-2 c = (has_version c.args.packet.now c.args.version c.requires).room

pub returns-in-V4-clause-len : goal.returns-in-V4-clause-len
returns-in-V4-clause-len c =
    let there = (version_is c.args.packet.now V4 (c.requires ∙ ap (λ (v : IpVersion). Some v) c.in-V4.is)).0 in
    omega (arith, (header_len-ipv4 c.args.packet.now there).0, c.from.ensures)

pub returns-in-V4-clause-least : goal.returns-in-V4-clause-least
returns-in-V4-clause-least c =
    let there = (version_is c.args.packet.now V4 (c.requires ∙ ap (λ (v : IpVersion). Some v) c.in-V4.is)).0 in
    omega (arith, (header_len-ipv4 c.args.packet.now there).0, (header_len-ipv4 c.args.packet.now there).1, c.from.ensures)
