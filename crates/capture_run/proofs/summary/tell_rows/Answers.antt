use Rattle.std.proofs.Common.{◌<◌, [], ◌++◌, length, refl, subst, arith}
use Rattle.std.specs.Prelude.{slice_index_or}
use Rattle.capture_report.specs.ChainServiceProofs.{named_rows}
use Rattle.capture_items.specs.Slots.{Breaks}
use Rattle.capture_run.proofs.Gathering.{telling_begins, telling_breaks, telling_goes_on}
use Rattle.capture_run.proofs.HandingOn.{handed_on}
use Rattle.capture_run.proofs.summary.tell_rows.Goals as goal

pub returns-in_err-tell_row-clause-err : goal.returns-in_err-tell_row-clause-err
returns-in_err-tell_row-clause-err g c =
    let rows = named_rows c.args.function.now in
    let inside : c.rows.place < length rows = omega (arith, c.rows-test.true, c.state_count-count.ensures.count) in
    handed_on c.from_residual.result c.in_err-tell_row.field-0.0 _ c.from_residual.ensures.1
    (subst (λ t. Breaks [] (c.args.held.now.items ++ t) (g.D.Desk.slots c.args.desk.now) (g.D.Desk.slots c.tell_row.new.desk) c.in_err-tell_row.field-0.0) c.state_count-count.ensures.told
    (telling_breaks (λ row. row) rows c.rows.place (slice_index_or rows c.rows.place []) [] c.args.held.now.items c.rows.held.items (g.D.Desk.slots c.args.desk.now) (g.D.Desk.slots c.rows.desk) (g.D.Desk.slots c.tell_row.new.desk) c.in_err-tell_row.field-0.0
    c.rows.invariant inside refl c.in_err-tell_row.ensures.err))

pub rows-preserved : goal.rows-preserved
rows-preserved g c =
    let rows = named_rows c.args.function.now in
    let inside : c.rows.place < length rows = omega (arith, c.rows-test.true, c.state_count-count.ensures.count) in
    telling_goes_on (λ row. row) rows c.rows.place (slice_index_or rows c.rows.place []) [] c.args.held.now.items c.rows.held.items c.tell_row.new.held.items (g.D.Desk.slots c.args.desk.now) (g.D.Desk.slots c.rows.desk) (g.D.Desk.slots c.tell_row.new.desk)
    c.rows.invariant inside refl c.in_ok-tell_row.ensures.ok c.tell_row.ensures.others

pub rows-init : goal.rows-init
rows-init g c = telling_begins (λ row. row) (named_rows c.args.function.now) c.args.held.now.items (g.D.Desk.slots c.args.desk.now)
