use Rattle.std.proofs.Common.{◌<◌, ◌^◌, arith}
use Rattle.packet_fields.proofs.Formats.{total_is}
use Rattle.packet_fields.proofs.packet.total_len.Goals as goal

pub returns : goal.returns
returns c =
    let small : c.word.result < 2 ^ 16 = omega arith in
    total_is c.args.version c.args.packet.now c.format-format.result c.word.result c.checked_add.result c.requires (c.format-format.ensures c.args.packet.now c.requires) c.if-packet-format.false small c.word.ensures c.checked_add.ensures
