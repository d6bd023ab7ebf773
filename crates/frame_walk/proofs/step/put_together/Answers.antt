use Rattle.std.proofs.Common.{◌≡◌, ◌∙◌, ap}
use Rattle.merge_ops.specs.Taking.{merged}
use Rattle.frame_walk.proofs.Joining.{joined_behind, if_ok}
use Rattle.frame_walk.proofs.step.put_together.Goals as goal

pub returns-in-Whole : goal.returns-in-Whole
returns-in-Whole g c = λ whole touch from. if_ok c.join.result _ _ (λ frame is. is ∙ joined_behind whole c.args.base touch c.args.version c.in-Whole.whole c.merged_is_written_last.ensures.values c.merged_is_written_last.ensures.rest from
    (c.in-Whole.ensures.merged ∙ ap (λ arrivals. merged c.args.base arrivals) c.in_ok-arrivals.ensures.items)) c.join.ensures
