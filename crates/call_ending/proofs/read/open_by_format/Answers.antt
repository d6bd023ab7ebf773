use Rattle.std.proofs.Common.{◌∙◌, ap, sym, Err}
use Rattle.std.specs.Str.{bytes_eq}
use Rattle.nfp_outside.specs.declared.slot.Slot.TheVariants.{Capture}
use Rattle.capture_bytes.specs.Filling.{unread}
use Rattle.pcapng_io.specs.Blocks.{next_of, start}
use Rattle.call_ending.proofs.Opening.{of_made}
use Rattle.call_ending.proofs.read.open_by_format.Goals as goal

pub returns-in-Err-Ng-clause-err : goal.returns-in-Err-Ng-clause-err
returns-in-Err-Ng-clause-err g c = (
  c.in-Err-Ng.ensures.number c.in-Err-Ng.fault (ap Err c.in-Err-Ng.field-0-is),
  ap (bytes_eq c.args.first.now) (sym c.as_slice.ensures) ∙ sym c.eq.ensures ∙ c.if-eq.true,
  of_made (next_of start) (unread c.args.first.now (g.D.Desk.slots c.args.desk.now Capture)).bytes _ (c.in-Err-Ng.ensures.refused c.in-Err-Ng.fault (ap Err c.in-Err-Ng.field-0-is)).next,
)
