use Rattle.std.proofs.Common.{List, map, ap, ◌∙◌, ◌≡◌, ◌++◌}
use Rattle.std.specs.Borrow.{Bor}
use Rattle.std.specs.Prelude.{filter_map, slice_get}
use Rattle.policy_text.specs.declared.policy.FunctionDecl.{FunctionDecl}
use Rattle.trace_text.specs.Kept.{kept_acts}
use Rattle.trace_text.specs.Trace.{chain_line, fate_line}
use Rattle.why_report.specs.Report.{in_order}
use Rattle.trace_text.proofs.Keeping.{grown, on_ok}
use Rattle.trace_text.proofs.acts.push_kept.Goals as goal

pub returns : goal.returns
returns c =
    let order : List FunctionDecl = (in_order c.args.chain.now c.args.order.now).order in
    let same : map (λ (d : Bor FunctionDecl). d.now) c.in_ok-order.order.items ≡ order =
    c.in_ok-order.ensures ∙ ap (λ f. filter_map (λ place. slice_get f place) c.as_slice-2.result.now) c.as_slice.ensures
    ∙ ap (λ p. filter_map (λ place. slice_get c.args.chain.now.functions place) p) c.as_slice-2.ensures in
    on_ok c.push_fate_line.result
    (λ third. grown c.args.text.now.items c.push_chain_line.new.text.items c.push_acts.new.text.items c.push_fate_line.new.text.items
    (chain_line c.args.chain.now.name) (kept_acts order c.args.acts.now) (fate_line order c.args.fate.now)
    (c.in_ok-push_chain_line.ensures ∙ ap (λ n. c.args.text.now.items ++ chain_line n) c.bytes.ensures)
    (c.in_ok-push_acts.ensures ∙ ap (λ o. c.push_chain_line.new.text.items ++ kept_acts o c.args.acts.now) (ap (map (λ (d : Bor FunctionDecl). d.now)) c.as_slice-3.ensures.value ∙ same))
    (third ∙ ap (λ o. c.push_acts.new.text.items ++ fate_line o c.args.fate.now) (ap (map (λ (d : Bor FunctionDecl). d.now)) c.as_slice-4.ensures.value ∙ same))) c.push_fate_line.ensures
