use Rattle.std.proofs.Common.{[], subst, sym}
use Rattle.pcap_io.specs.Written.{head_bytes}
use Rattle.capture_items.specs.Slots.{Breaks, Puts}
use Rattle.capture_items.specs.Putting.{out_refused, puts_out}
use Rattle.nfp_run.proofs.attach.put_head.Goals as goal

pub returns-in-Ok-clause-ok : goal.returns-in-Ok-clause-ok
returns-in-Ok-clause-ok g c =
    subst (λ h. Puts (head_bytes h) [] (g.D.Desk.slots c.args.desk.now) (g.D.Desk.slots c.begin.new.desk)) c.written_head.ensures
    (puts_out (head_bytes c.written_head.result) (g.D.Desk.slots c.args.desk.now) (g.D.Desk.slots c.begin.new.desk) c.in-Ok.ensures.ok c.begin.ensures.cause.later c.begin.ensures.others)

pub returns-in-Err-clause-err : goal.returns-in-Err-clause-err
returns-in-Err-clause-err g c =
    subst (λ h. Breaks (head_bytes h) [] (g.D.Desk.slots c.args.desk.now) (g.D.Desk.slots c.begin.new.desk) c.fault_of.result) c.written_head.ensures
    (subst (λ e. Breaks (head_bytes c.written_head.result) [] (g.D.Desk.slots c.args.desk.now) (g.D.Desk.slots c.begin.new.desk) e) (sym c.fault_of.ensures)
    (out_refused (head_bytes c.written_head.result) (g.D.Desk.slots c.args.desk.now) (g.D.Desk.slots c.begin.new.desk) c.in-Err.fault c.begin.result c.in-Err.is c.in-Err.ensures.err c.begin.ensures.cause c.begin.ensures.others))
