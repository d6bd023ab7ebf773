use Rattle.std.proofs.Common.{◌<◌, [], ◌++◌, length, subst, arith}
use Rattle.piece_walk.specs.Pieces.{functions_in}
use Rattle.capture_report.specs.SegmentRun.{pieces_of}
use Rattle.capture_report.specs.Report.{function_lines}
use Rattle.capture_items.specs.Slots.{Breaks, Gathers}
use Rattle.capture_run.proofs.Gathering.{chain_told, telling_begins, telling_breaks, telling_ends, telling_goes_on}
use Rattle.capture_run.proofs.HandingOn.{handed_on}
use Rattle.capture_run.proofs.summary.tell_chain.Goals as goal

pub returns-in_err-tell_function-clause-err : goal.returns-in_err-tell_function-clause-err
returns-in_err-tell_function-clause-err g c =
    let items = c.as_slice-declared-items.result.now in
    let inside : c.functions.declared-index < length items = omega (arith, c.functions-test.true) in
    handed_on c.from_residual.result c.in_err-tell_function.field-0.0 _ c.from_residual.ensures.1
    (subst (λ t. Breaks [] (c.args.held.now.items ++ t) (g.D.Desk.slots c.args.desk.now) (g.D.Desk.slots c.tell_function.new.desk) c.in_err-tell_function.field-0.0)
    (chain_told c.args.chain.now (functions_in (pieces_of c.args.pieces.now)) items c.as_slice-declared-items.ensures)
    (telling_breaks (function_lines c.args.chain.now.name (functions_in (pieces_of c.args.pieces.now))) items c.functions.declared-index c.declared-item.result c.declared-item.result c.args.held.now.items c.functions.held.items
    (g.D.Desk.slots c.args.desk.now) (g.D.Desk.slots c.functions.desk) (g.D.Desk.slots c.tell_function.new.desk) c.in_err-tell_function.field-0.0 c.functions.invariant inside c.declared-item.is
    (subst (λ n. Breaks [] (c.functions.held.items ++ function_lines n (functions_in (pieces_of c.args.pieces.now)) c.declared-item.result) (g.D.Desk.slots c.functions.desk) (g.D.Desk.slots c.tell_function.new.desk) c.in_err-tell_function.field-0.0) c.bytes.ensures
    c.in_err-tell_function.ensures.err)))

pub functions-preserved : goal.functions-preserved
functions-preserved g c =
    let items = c.as_slice-declared-items.result.now in
    let inside : c.functions.declared-index < length items = omega (arith, c.functions-test.true) in
    telling_goes_on (function_lines c.args.chain.now.name (functions_in (pieces_of c.args.pieces.now))) items c.functions.declared-index c.declared-item.result c.declared-item.result c.args.held.now.items c.functions.held.items c.tell_function.new.held.items
    (g.D.Desk.slots c.args.desk.now) (g.D.Desk.slots c.functions.desk) (g.D.Desk.slots c.tell_function.new.desk) c.functions.invariant inside c.declared-item.is
    (subst (λ n. Gathers (function_lines n (functions_in (pieces_of c.args.pieces.now)) c.declared-item.result) c.functions.held.items c.tell_function.new.held.items (g.D.Desk.slots c.functions.desk) (g.D.Desk.slots c.tell_function.new.desk)) c.bytes.ensures
    c.in_ok-tell_function.ensures.ok)
    c.tell_function.ensures.others

pub returns-clause-ok : goal.returns-clause-ok
returns-clause-ok g c =
    let items = c.as_slice-declared-items.result.now in
    subst (λ t. Gathers t c.args.held.now.items c.functions.held.items (g.D.Desk.slots c.args.desk.now) (g.D.Desk.slots c.functions.desk))
    (chain_told c.args.chain.now (functions_in (pieces_of c.args.pieces.now)) items c.as_slice-declared-items.ensures)
    (telling_ends (function_lines c.args.chain.now.name (functions_in (pieces_of c.args.pieces.now))) items c.functions.declared-index c.args.held.now.items c.functions.held.items (g.D.Desk.slots c.args.desk.now) (g.D.Desk.slots c.functions.desk) c.functions.invariant (omega (arith, c.functions-test.false)))

pub functions-init : goal.functions-init
functions-init g c = telling_begins (function_lines c.args.chain.now.name (functions_in (pieces_of c.args.pieces.now))) c.as_slice-declared-items.result.now c.args.held.now.items (g.D.Desk.slots c.args.desk.now)
