use Rattle.std.proofs.Common.{◌≡◌, ◌<◌, ◌^◌, ap, arith}
use Rattle.packet_fields.specs.Packets.{in_header, length_at}
use Rattle.packet_fields.specs.declared.packet.HeaderFormat.{HeaderFormat}
use Rattle.packet_fields.proofs.Versions.{transport_parts}
use Rattle.packet_fields.proofs.Formats.{datagram_short}
use Rattle.packet_fields.proofs.transport.datagram_end.Goals as goal

pub word-requires : goal.word-requires
word-requires c =
    let at : c.format-format.result.total_len ≡ in_header (length_at c.args.packet.now) = ap (λ (f : HeaderFormat). f.total_len) (c.format-format.ensures c.args.packet.now c.requires.version) in
    omega (arith, at, (transport_parts c.args.packet.now c.requires.there).length_there)

pub returns-clause-short : goal.returns-clause-short
returns-clause-short c =
    let small : c.word.result < 2 ^ 16 = omega arith in
    let short = datagram_short c.args.packet.now c.format-format.result c.word.result (transport_parts c.args.packet.now c.requires.there) (c.format-format.ensures c.args.packet.now c.requires.version) small c.word.ensures in
    omega (arith, short, c.from.ensures, c.from-2.ensures, c.min.ensures)
