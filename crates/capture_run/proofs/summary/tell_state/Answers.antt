use Rattle.std.proofs.Common.{◌≡◌, ◌∙◌, [], ◌++◌, Some, None, ap, subst, sym}
use Rattle.std.specs.Prelude.{IfErr, OnOk}
use Rattle.std.specs.Option.{option_copied}
use Rattle.piece_walk.specs.Pieces.{functions_in}
use Rattle.capture_report.specs.SegmentRun.{pieces_of}
use Rattle.capture_report.specs.ChainService.{named_lines}
use Rattle.capture_report.specs.Report.{state_text}
use Rattle.capture_items.specs.Slots.{Breaks, Gathers}
use Rattle.capture_run.proofs.Gathering.{gathers_none, state_found}
use Rattle.capture_run.proofs.summary.tell_state.Goals as goal

pub returns-in-Some-clause-ok : goal.returns-in-Some-clause-ok
returns-in-Some-clause-ok g c =
    let same : named_lines c.in-Some.function.now ≡ state_text (functions_in (pieces_of c.args.pieces.now)) c.args.name.now =
    state_found (functions_in (pieces_of c.args.pieces.now)) c.args.name.now (Some c.in-Some.function.now) (ap option_copied (sym c.in-Some.is) ∙ c.function_named.ensures) in
    subst (λ t. OnOk c.tell_rows.result (Gathers t c.args.held.now.items c.tell_rows.new.held.items (g.D.Desk.slots c.args.desk.now) (g.D.Desk.slots c.tell_rows.new.desk))) same c.tell_rows.ensures.ok

pub returns-in-Some-clause-err : goal.returns-in-Some-clause-err
returns-in-Some-clause-err g c =
    let same : named_lines c.in-Some.function.now ≡ state_text (functions_in (pieces_of c.args.pieces.now)) c.args.name.now =
    state_found (functions_in (pieces_of c.args.pieces.now)) c.args.name.now (Some c.in-Some.function.now) (ap option_copied (sym c.in-Some.is) ∙ c.function_named.ensures) in
    subst (λ t. IfErr c.tell_rows.result (Breaks [] (c.args.held.now.items ++ t) (g.D.Desk.slots c.args.desk.now) (g.D.Desk.slots c.tell_rows.new.desk))) same c.tell_rows.ensures.err

pub returns-in-None-clause-ok : goal.returns-in-None-clause-ok
returns-in-None-clause-ok g c =
    let same : [] ≡ state_text (functions_in (pieces_of c.args.pieces.now)) c.args.name.now =
    state_found (functions_in (pieces_of c.args.pieces.now)) c.args.name.now None (ap option_copied (sym c.in-None.is) ∙ c.function_named.ensures) in
    subst (λ t. Gathers t c.args.held.now.items c.args.held.now.items (g.D.Desk.slots c.args.desk.now) (g.D.Desk.slots c.args.desk.now)) same (gathers_none c.args.held.now.items (g.D.Desk.slots c.args.desk.now))
