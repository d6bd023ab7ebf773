use Rattle.std.proofs.Common.{subst}
use Rattle.nfp_outside.specs.declared.slot.Slot.TheVariants.{Capture as CaptureSlot}
use Rattle.capture_bytes.specs.FillingLaws.{unread_none}
use Rattle.pcap_io.specs.Reader.{RefusesHead}
use Rattle.pcap_io.proofs.reader.Reader.begin.Goals as goal

pub returns-clause-refused : goal.returns-clause-refused
returns-clause-refused g c = λ fault is. subst (RefusesHead fault) (unread_none (g.D.Desk.slots c.args.desk.now CaptureSlot)) (c.begin_after.ensures.refused fault is)
