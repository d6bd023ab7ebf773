use Rattle.std.specs.Vec.Iter.{into_iter_items}
use Rattle.piped_run.specs.Settling.{settled_own}
use Rattle.piped_run.proofs.Ending.{one_given, one_taken}
use Rattle.piped_run.proofs.back.end_branches.Goals as goal

pub branches-preserved : goal.branches-preserved
branches-preserved g c = (
  λ ends same_drops.
      (one_given (settled_own g.F.Function.notes ends) (λ v. v.items) (into_iter_items c.args.works.now) _ _ c.in-Some.work c.branches.own.items c.push.new.self.items _ c.branches._branch (c.branches.invariant.0 ends same_drops) c.branches.invariant.1 c.in-Some.ensures.cases.0
      (c.in_ok-settle_work-in-Some.ensures ends same_drops) c.in_ok-push-in-Some.ensures.items).given,
  one_taken (into_iter_items c.args.works.now) _ _ c.in-Some.work c.branches._branch c.branches.invariant.1 c.in-Some.ensures.cases.0,
)
