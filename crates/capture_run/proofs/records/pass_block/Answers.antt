use Rattle.capture_items.specs.Putting.{no_memory}
use Rattle.capture_items.specs.declared.fault.RunFault.TheVariants.{OutOfMemory}
use Rattle.capture_run.proofs.HandingOn.{handed_on}
use Rattle.capture_run.proofs.Turns.{before_block, block_broken, takes_block}
use Rattle.capture_run.proofs.records.pass_block.Goals as goal

pub returns-in_err-burst-clause-err : goal.returns-in_err-burst-clause-err
returns-in_err-burst-clause-err g c = handed_on c.from_residual.result OutOfMemory _ c.from_residual.ensures.1 (no_memory _ _ (g.D.Desk.slots c.args.desk.now))

pub returns-in_err-passage-clause-err : goal.returns-in_err-passage-clause-err
returns-in_err-passage-clause-err g c = handed_on c.from_residual-in_err-passage.result c.in_err-passage.field-0.0 _ c.from_residual-in_err-passage.ensures.1
    (before_block g.W.Sink.spelled c.args.cutter.now c.args.beside.now.items c.args.block c.in_ok-burst.burst.items c.args.passage _ _ _ c.in_ok-burst.ensures.burst c.in_err-passage.ensures.err)

pub returns-in_err-put_block-clause-err : goal.returns-in_err-put_block-clause-err
returns-in_err-put_block-clause-err g c = handed_on c.from_residual-in_err-put_block.result c.in_err-put_block.field-0.0 _ c.from_residual-in_err-put_block.ensures.1
    (block_broken g.W.Sink.spelled c.args.cutter.now c.args.beside.now.items c.args.block c.in_ok-burst.burst.items c.args.passage c.in_ok-passage.passage (g.D.Desk.slots c.args.desk.now) (g.D.Desk.slots c.run_held.new.desk) (g.D.Desk.slots c.put_block.new.desk) _
    c.in_ok-burst.ensures.burst c.in_ok-passage.ensures.ok c.in_err-put_block.ensures.err)

pub returns-clause-ok : goal.returns-clause-ok
returns-clause-ok g c =
    takes_block c.bursts_are_counted_in_a_row.ensures.row g.W.Sink.spelled c.args.cutter.now c.cut_now.new.self c.args.beside.now.items c.run_held.new.beside.items c.args.block c.in_ok-burst.burst.items c.args.passage c.in_ok-passage.passage c.put_block.new.writer
    (g.D.Desk.slots c.args.desk.now) (g.D.Desk.slots c.run_held.new.desk) (g.D.Desk.slots c.put_block.new.desk) c.in_ok-burst.ensures.closed c.in_ok-burst.ensures.burst c.in_ok-passage.ensures.none_left c.in_ok-passage.ensures.told c.in_ok-passage.ensures.ok
    c.in_ok-put_block.ensures.spelling c.in_ok-put_block.ensures.ok
