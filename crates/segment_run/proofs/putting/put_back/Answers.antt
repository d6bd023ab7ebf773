use Rattle.segment_run.proofs.PuttingBack.{nothing_left}
use Rattle.segment_run.proofs.Rejoining.{put_ends}
use Rattle.segment_run.proofs.putting.put_back.Goals as goal

pub returns : goal.returns
returns c = put_ends c.fates.all.items c.fates.fate-iterator.rest.items _ _
    (nothing_left c.fates.fate-iterator.rest.items c.fates.fate-iterator.rest.len c.fates.fate-iterator.rest.ok.0 c.in-None.ensures.steps.0) c.fates.invariant.due
