use Rattle.segment_run.proofs.Taken.{sealed_ends}
use Rattle.segment_run.proofs.sealing.seal_all.Goals as goal

pub returns : goal.returns
returns c = λ unit. sealed_ends unit c.args.chain c.args.items.now c.items.item-index c.items.all.items c.items.left.rest.items _ c.items-test.false (c.items.invariant unit)
