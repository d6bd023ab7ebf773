use Rattle.why_report.specs.Report.{in_order}
use Rattle.trace_text.proofs.Keeping.{on_ok, told_all}
use Rattle.trace_text.proofs.acts.push_trace.Goals as goal

pub returns : goal.returns
returns c acts e =
    on_ok c.push_kept.result (told_all c.args.text.now.items c.push_kept.new.text.items (in_order c.args.chain.now c.args.order.now) c.args.acts.now acts c.args.fate.now e) c.push_kept.ensures
