use Rattle.std.proofs.Common.{◌∙◌, ◌++◌, ap, length, take}
use Rattle.pcap_io.specs.Written.{record_head, bytes_of}
use Rattle.pcap_io.proofs.JoinedNumbers.{four_numbers}
use Rattle.pcap_io.proofs.writer.spell_record_head.Goals as goal

pub returns : goal.returns
unfolding record_head
returns c =
    four_numbers c.put_u32.new.bytes c.put_u32-2.new.bytes c.put_u32-3.new.bytes c.put_u32-4.new.bytes _ _ _ _ (c.put_u32-4.auto.bytes ∙ c.put_u32-3.auto.bytes ∙ c.put_u32-2.auto.bytes ∙ c.put_u32.auto.bytes) c.put_u32.ensures.number c.put_u32-2.ensures.number
    (c.put_u32-3.ensures.number ∙ ap (λ frame. take 8 c.put_u32-2.new.bytes ++ bytes_of c.args.order 4 (length frame)) c.bytes.ensures) c.put_u32-4.ensures.number
