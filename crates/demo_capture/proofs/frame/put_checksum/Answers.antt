use Rattle.std.proofs.Common.{◌∙◌, sym}
use Rattle.demo_capture.proofs.Putting.{put_tcp, put_udp, room_tcp, room_udp}
use Rattle.demo_capture.proofs.frame.put_checksum.Goals as goal

pub put_word-requires : goal.put_word-requires
put_word-requires c = room_tcp c.args.draws c.args.frame.now c.requires (sym c.is_tcp.ensures ∙ c.if-is_tcp.true)

pub put_word-requires-else-is_tcp : goal.put_word-requires-else-is_tcp
put_word-requires-else-is_tcp c = room_udp c.args.draws c.args.frame.now c.requires

pub returns-then-is_tcp : goal.returns-then-is_tcp
returns-then-is_tcp c = c.put_word.ensures ∙ put_tcp c.args.checksum c.args.draws c.args.frame.now c.requires (sym c.is_tcp.ensures ∙ c.if-is_tcp.true)

pub returns-else-is_tcp : goal.returns-else-is_tcp
returns-else-is_tcp c = c.put_word-else-is_tcp.ensures ∙ put_udp c.args.checksum c.args.draws c.args.frame.now c.requires (sym c.is_tcp.ensures ∙ c.if-is_tcp.false)
