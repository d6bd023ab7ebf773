use Rattle.std.proofs.Common.{arith}
use Rattle.packet_fields.proofs.TagWalk.{has_type}
use Rattle.packet_fields.proofs.places.ether_type.Goals as goal

pub word-requires : goal.word-requires
word-requires c = omega (arith, c.requires, (has_type c.args.frame.now c.if-frame-ge14.true).room)
