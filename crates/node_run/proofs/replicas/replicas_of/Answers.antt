use Rattle.std.proofs.Common.{◌≡◌, arith, refl, subst, sym}
use Rattle.std.specs.Prelude.{IfSome, IsSome}
use Rattle.node_run.proofs.Replicating.{none_made, one_made, all_made}
use Rattle.node_run.proofs.replicas.replicas_of.Goals as goal

pub loop-replica-init : goal.loop-replica-init
loop-replica-init g c = (none_made g.F.BranchWork.kit _ _ c.new-replicas.ensures.items, omega arith)

pub loop-replica-preserved : goal.loop-replica-preserved
loop-replica-preserved g c = (
  one_made g.F.BranchWork.kit _ _ c.loop-replica._replica _ _ c.loop-replica.invariant.0 (subst (λ found. IfSome found (λ work. work ≡ c.args.work.now)) c.in-Some.is c.in_ok-replica.ensures.same) (c.in_ok-replica.ensures.stateless (subst IsSome (sym c.in-Some.is) refl)) c.in_ok-push-in-Some.ensures.items,
  omega (arith, c.loop-replica-test.true),
)

pub returns : goal.returns
returns g c = all_made g.F.BranchWork.kit _ c.args.count c.loop-replica._replica _ c.requires c.loop-replica-test.false c.loop-replica.invariant.1 c.loop-replica.invariant.0
