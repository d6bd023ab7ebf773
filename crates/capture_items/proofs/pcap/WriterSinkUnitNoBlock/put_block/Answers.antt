use Rattle.nfp_outside.specs.declared.slot.Slot.TheVariants.{Out}
use Rattle.nfp_outside.specs.Adding.{appends_none}
use Rattle.capture_items.proofs.pcap.WriterSinkUnitNoBlock.put_block.Goals as goal

pub returns-clause-ok : goal.returns-clause-ok
returns-clause-ok g c = appends_none (g.D.Desk.slots c.args._desk.now Out)
