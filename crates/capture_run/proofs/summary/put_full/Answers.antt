use Rattle.std.proofs.Common.{[], ◌++◌, ap, subst}
use Rattle.capture_items.specs.Slots.{Breaks, Puts}
use Rattle.capture_run.proofs.Gathering.{gathers_none}
use Rattle.capture_run.proofs.HandingOn.{handed_on}
use Rattle.capture_run.proofs.summary.put_full.Goals as goal

pub returns-then-len-lt-FULL-clause-ok : goal.returns-then-len-lt-FULL-clause-ok
returns-then-len-lt-FULL-clause-ok g c = gathers_none c.args.held.now.items (g.D.Desk.slots c.args.desk.now)

pub returns-in_err-put_text-clause-err : goal.returns-in_err-put_text-clause-err
returns-in_err-put_text-clause-err g c = handed_on c.from_residual.result c.in_err-put_text.field-0.0 _ c.from_residual.ensures.1
    (subst (λ t. Breaks [] t (g.D.Desk.slots c.args.desk.now) (g.D.Desk.slots c.put_text.new.desk) c.in_err-put_text.field-0.0) c.deref.ensures.value c.in_err-put_text.ensures.err)

pub returns-clause-ok : goal.returns-clause-ok
returns-clause-ok g c = record {
  put = c.args.held.now.items;
  puts = subst (λ t. Puts [] t (g.D.Desk.slots c.args.desk.now) (g.D.Desk.slots c.put_text.new.desk)) c.deref.ensures.value c.in_ok-put_text.ensures.ok;
  parts = ap (λ l. c.args.held.now.items ++ l) c.clear.ensures.items;
}
