use Rattle.std.proofs.Common.{length, refl}
use Rattle.std.proofs.lemmas.Option.{slice_get_past, slice_get_read}
use Rattle.why_account.specs.Accounts.{AddsFunctionAt}
use Rattle.why_report.specs.Uses.{AddsFunction}
use Rattle.why_account.proofs.Adding.{function_added, function_missing, on_ok}
use Rattle.why_account.proofs.lines.push_function.Goals as goal

pub returns-in-Some : goal.returns-in-Some
returns-in-Some c =
    on_ok c.push_function_lines.result (AddsFunction c.args.chain.now c.args.decl.now c.in-Some.account.now.lines c.in-Some.account.now.used c.args.text.now.items c.push_function_lines.new.text.items)
    (AddsFunctionAt c.args.chain.now c.args.decl.now c.args.functions.now c.args.place c.args.text.now.items c.push_function_lines.new.text.items)
    (function_added c.args.chain.now c.args.decl.now c.args.functions.now c.args.place c.in-Some.account.now c.args.text.now.items c.push_function_lines.new.text.items
    (slice_get_read c.args.functions.now (length c.args.functions.now) c.args.place c.in-Some.account.now refl c.in-Some.ensures.lookup.3.0 c.in-Some.ensures.lookup.1))
    c.push_function_lines.ensures

pub returns-in-None : goal.returns-in-None
returns-in-None c = function_missing c.args.chain.now c.args.decl.now c.args.functions.now c.args.place c.args.text.now.items (slice_get_past c.args.functions.now c.args.place c.in-None.ensures.lookup.3)
