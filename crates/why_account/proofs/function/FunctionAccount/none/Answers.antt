use Rattle.std.proofs.Common.{◌∙◌, ap}
use Rattle.why_report.specs.Report.{place_in}
use Rattle.why_account.proofs.Naming.{place_named}
use Rattle.why_account.proofs.function.FunctionAccount.none.Goals as goal

pub returns : goal.returns
returns c = λ number order are. λ i. record {
  place = (c.place_among.ensures ∙ place_named c.args.names.now order c.bytes.result.now are ∙ ap (place_in order) c.bytes.ensures) i;
  lines = c.in_ok-lines.ensures i;
  used = c.in_ok-used.ensures c.args.decl.now c.in_ok-lines.ensures i;
}
