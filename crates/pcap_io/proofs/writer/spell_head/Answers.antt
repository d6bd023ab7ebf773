use Rattle.std.proofs.Common.{◌∙◌, ap}
use Rattle.pcap_io.specs.Written.{head_bytes, bytes_of}
use Rattle.pcap_io.proofs.JoinedNumbers.{seven_numbers}
use Rattle.pcap_io.proofs.writer.spell_head.Goals as goal

pub returns : goal.returns
unfolding head_bytes
returns c =
    seven_numbers c.put_u32.new.bytes c.put_u16.new.bytes c.put_u16-2.new.bytes c.put_u32-2.new.bytes c.put_u32-3.new.bytes c.put_u32-4.new.bytes c.put_u32-5.new.bytes _ _ _ _ _ _ _
    (c.put_u32-5.auto.bytes ∙ c.put_u32-4.auto.bytes ∙ c.put_u32-3.auto.bytes ∙ c.put_u32-2.auto.bytes ∙ c.put_u16-2.auto.bytes ∙ c.put_u16.auto.bytes ∙ c.put_u32.auto.bytes)
    (c.put_u32.ensures.number ∙ ap (bytes_of c.args.head.now.order 4) c.magic_number.ensures) c.put_u16.ensures.number c.put_u16-2.ensures.number c.put_u32-2.ensures.number c.put_u32-3.ensures.number c.put_u32-4.ensures.number c.put_u32-5.ensures.number
