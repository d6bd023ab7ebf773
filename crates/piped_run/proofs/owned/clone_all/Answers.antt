use Rattle.std.proofs.Common.{arith}
use Rattle.piped_run.proofs.Cloning.{none_again, none_by, some_same, one_again, all_again}
use Rattle.piped_run.proofs.owned.clone_all.Goals as goal

pub loop-function-init : goal.loop-function-init
loop-function-init g c = none_again g.F.Function.behaviour _ _ c.in_ok-all.ensures.items

pub loop-function-preserved : goal.loop-function-preserved
loop-function-preserved g c =
    one_again g.F.Function.behaviour _ _ _ c.loop-function.function-index c.function-item.result _ c.loop-function.invariant c.loop-function-test.true c.function-item.is
    (some_same _ _ _ c.in-Some.is c.in_ok-same.ensures.same) (none_by _ _ _ _ c.in-Some.is c.in_ok-same.ensures.which) c.in_ok-push-in-Some.ensures.items

pub returns-clause-same : goal.returns-clause-same
returns-clause-same g c = (all_again g.F.Function.behaviour _ _ c.loop-function.function-index c.loop-function.invariant (omega arith)).0

pub returns-clause-stateless : goal.returns-clause-stateless
returns-clause-stateless g c _ = (all_again g.F.Function.behaviour _ _ c.loop-function.function-index c.loop-function.invariant (omega arith)).1
