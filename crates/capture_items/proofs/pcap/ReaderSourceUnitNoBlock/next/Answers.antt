use Rattle.std.proofs.Common.{ap, subst, Err}
use Rattle.nfp_outside.specs.declared.slot.Slot.TheVariants.{Capture}
use Rattle.capture_items.specs.Formats.{pcap_left}
use Rattle.capture_items.specs.Sources.{RefusesNext}
use Rattle.capture_items.proofs.Refusing.{format_is, refuses_next}
use Rattle.capture_items.proofs.pcap.ReaderSourceUnitNoBlock.next.Goals as goal

pub returns-in-Err-Capture-clause-refused : goal.returns-in-Err-Capture-clause-refused
returns-in-Err-Capture-clause-refused g c = λ fault is. subst (λ f. RefusesNext pcap_left f c.args.self.now (g.D.Desk.slots c.args.desk.now Capture)) (format_is _ fault is)
    (refuses_next c.in-Err-Capture.fault _ _ (c.in-Err-Capture.ensures.refused c.in-Err-Capture.fault (ap Err c.in-Err-Capture.field-0-is)))
