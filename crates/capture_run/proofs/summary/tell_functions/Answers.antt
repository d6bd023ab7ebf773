use Rattle.std.proofs.Common.{◌<◌, [], ◌++◌, length, subst, arith}
use Rattle.piece_walk.specs.Pieces.{functions_in}
use Rattle.capture_report.specs.SegmentRun.{pieces_of}
use Rattle.capture_report.specs.ChainServiceProofs.{pieces_in}
use Rattle.capture_report.specs.Report.{chain_lines}
use Rattle.capture_items.specs.Slots.{Breaks, Gathers}
use Rattle.capture_run.proofs.Gathering.{telling_begins, telling_breaks, telling_goes_on}
use Rattle.capture_run.proofs.HandingOn.{handed_on}
use Rattle.capture_run.proofs.summary.tell_functions.Goals as goal

pub returns-in_err-tell_chain-clause-err : goal.returns-in_err-tell_chain-clause-err
returns-in_err-tell_chain-clause-err g c =
    let inside : c.chains.chain-index < length c.args.chains.now = omega (arith, c.chains-test.true) in
    handed_on c.from_residual.result c.in_err-tell_chain.field-0.0 _ c.from_residual.ensures.1
    (telling_breaks (λ x. chain_lines x.declared (functions_in (pieces_in x))) c.args.chains.now c.chains.chain-index c.chain-item.result c.chain-item.result c.args.held.now.items c.chains.held.items
    (g.D.Desk.slots c.args.desk.now) (g.D.Desk.slots c.chains.desk) (g.D.Desk.slots c.tell_chain.new.desk) c.in_err-tell_chain.field-0.0 c.chains.invariant inside c.chain-item.is
    (subst (λ f. Breaks [] (c.chains.held.items ++ chain_lines c.chain-item.result.declared (functions_in (pieces_of f))) (g.D.Desk.slots c.chains.desk) (g.D.Desk.slots c.tell_chain.new.desk) c.in_err-tell_chain.field-0.0) c.as_slice.ensures
    c.in_err-tell_chain.ensures.err))

pub chains-preserved : goal.chains-preserved
chains-preserved g c =
    let inside : c.chains.chain-index < length c.args.chains.now = omega (arith, c.chains-test.true) in
    telling_goes_on (λ x. chain_lines x.declared (functions_in (pieces_in x))) c.args.chains.now c.chains.chain-index c.chain-item.result c.chain-item.result c.args.held.now.items c.chains.held.items c.tell_chain.new.held.items
    (g.D.Desk.slots c.args.desk.now) (g.D.Desk.slots c.chains.desk) (g.D.Desk.slots c.tell_chain.new.desk) c.chains.invariant inside c.chain-item.is
    (subst (λ f. Gathers (chain_lines c.chain-item.result.declared (functions_in (pieces_of f))) c.chains.held.items c.tell_chain.new.held.items (g.D.Desk.slots c.chains.desk) (g.D.Desk.slots c.tell_chain.new.desk)) c.as_slice.ensures
    c.in_ok-tell_chain.ensures.ok)
    c.tell_chain.ensures.others

pub chains-init : goal.chains-init
chains-init g c = telling_begins (λ x. chain_lines x.declared (functions_in (pieces_in x))) c.args.chains.now c.args.held.now.items (g.D.Desk.slots c.args.desk.now)
