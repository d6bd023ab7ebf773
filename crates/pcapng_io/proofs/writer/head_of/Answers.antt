use Rattle.std.proofs.Common.{◌∙◌}
use Rattle.pcapng_io.proofs.Pieces.{seven_fours}
use Rattle.pcapng_io.proofs.writer.head_of.Goals as goal

pub returns : goal.returns
returns c =
    seven_fours c.put_u32.new.bytes c.put_u32-2.new.bytes c.put_u32-3.new.bytes c.put_u32-4.new.bytes c.put_u32-5.new.bytes c.put_u32-6.new.bytes c.put_u32-7.new.bytes _ _ _ _ _ _ _
    (c.put_u32-7.auto.bytes ∙ c.put_u32-6.auto.bytes ∙ c.put_u32-5.auto.bytes ∙ c.put_u32-4.auto.bytes ∙ c.put_u32-3.auto.bytes ∙ c.put_u32-2.auto.bytes ∙ c.put_u32.auto.bytes)
    c.put_u32.ensures.number c.put_u32-2.ensures.number c.put_u32-3.ensures.number c.put_u32-4.ensures.number c.put_u32-5.ensures.number c.put_u32-6.ensures.number c.put_u32-7.ensures.number
