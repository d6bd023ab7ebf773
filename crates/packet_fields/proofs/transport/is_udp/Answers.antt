use Rattle.std.proofs.Common.{◌≡◌, ap, arith}
use Rattle.packet_fields.specs.Packets.{in_header, protocol_at}
use Rattle.packet_fields.specs.declared.packet.HeaderFormat.{HeaderFormat}
use Rattle.packet_fields.proofs.Versions.{transport_parts}
use Rattle.packet_fields.proofs.transport.is_udp.Goals as goal

pub bounds-packet-format : goal.bounds-packet-format
bounds-packet-format c =
    let at : c.format.result.protocol ≡ in_header (protocol_at c.args.packet.now) = ap (λ (f : HeaderFormat). f.protocol) (c.format.ensures c.args.packet.now c.requires.version) in
    omega (arith, at, (transport_parts c.args.packet.now c.requires.there).captured)
