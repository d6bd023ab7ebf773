use Rattle.std.proofs.Common.{◌∙◌, ◌++◌, List, ℕ, append_assoc, ap, sym, take}
use Rattle.std.specs.List.{flat_map}
use Rattle.std.proofs.lemmas.List.{take_all}
use Rattle.packet_version.specs.Tallies.{count_of}
use Rattle.capture_report.specs.ChainServiceProofs.{ServiceChain}
use Rattle.capture_report.specs.Report.{copies_lines}
use Rattle.capture_run.proofs.Gathering.{up_to}
use Rattle.capture_run.proofs.summary.push_head.Goals as goal

abbrev copies_told : ServiceChain → List ℕ
copies_told c = copies_lines c.declared.name (count_of c.copies)

pub chains-preserved : goal.chains-preserved
chains-preserved c =
    let done = flat_map copies_told (take c.chains.chain-index c.args.chains.now) in
    c.in_ok-push_copies_lines.ensures ∙ ap (λ n. c.chains.held.items ++ copies_lines n (count_of c.chain-item.result.copies)) c.bytes.ensures
    ∙ ap (λ l. l ++ copies_told c.chain-item.result) c.chains.invariant ∙ append_assoc c.push_totals_line.new.text.items done (copies_told c.chain-item.result)
    ∙ ap (λ l. c.push_totals_line.new.text.items ++ l) (sym (up_to copies_told c.args.chains.now c.chains.chain-index c.chain-item.result c.chain-item.result c.chains-test.true c.chain-item.is))

pub returns : goal.returns
returns c =
    c.chains.invariant ∙ ap (λ l. c.push_totals_line.new.text.items ++ flat_map copies_told l) (take_all c.chains.chain-index c.args.chains.now c.chains-test.false)
    ∙ ap (λ l. l ++ flat_map copies_told c.args.chains.now) c.in_ok-push_totals_line.ensures
