use Rattle.std.proofs.Common.{◌≡◌, ◌∙◌, ap, sym, subst, false}
use Rattle.nfp_outside.specs.declared.slot.Slot.TheVariants.{Capture as CaptureSlot}
use Rattle.pcap_io.specs.Reader.{ReaderState, reader_at, RefusesRecord}
use Rattle.pcap_io.proofs.reader.Reader.next.Goals as goal

pub returns-in-Err-clause-refused : goal.returns-in-Err-clause-refused
returns-in-Err-clause-refused g c =
    let unspent : false ≡ c.self.inside.spent = sym (ap (λ (r : ReaderState). r.spent) c.self.view_is ∙ c.requires.unspent) in
    let same : reader_at c.self.inside.order c.self.inside.given ≡ c.args.self.now = ap (λ spent. record { order = c.self.inside.order; given = c.self.inside.given; spent = spent }) unspent ∙ c.self.view_is in
    λ fault is. subst (λ reader. RefusesRecord fault reader (g.D.Desk.slots c.args.desk.now CaptureSlot)) same (c.read_next-answer.ensures.refused fault is)
