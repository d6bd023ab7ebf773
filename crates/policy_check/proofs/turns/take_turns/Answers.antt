use Rattle.std.proofs.Common.{sym, ◌∙◌, ap, length}
use Rattle.std.proofs.Math.ListN.{length-set}
use Rattle.policy_check.specs.Edges.{edges_of}
use Rattle.policy_check.proofs.Deciding.{length-replicate, taken-all, stuck-all}
use Rattle.policy_check.proofs.OneTurn.{fewer_wait, HasTurned-start, HasTurned-turn, HasTurned-taken, HasTurned-stuck}
use Rattle.policy_check.proofs.turns.take_turns.Goals as goal

pub turns-init : goal.turns-init
turns-init c =
    let flags = c.in_ok-left.ensures.items_if_clones_equal (λ y e. e) in
    record {
      turned = rw (flags, c.new-order.ensures.items) (HasTurned-start _ _);
      len = ap length flags ∙ length-replicate c.args.count;
    }

pub turns-smaller : goal.turns-smaller
turns-smaller c =
    fewer_wait (edges_of c.args.statements.now) _ _ (sym (rw c.deref.ensures.value at c.in-Some.ensures.ready))

pub turns-preserved : goal.turns-preserved
turns-preserved c = record {
  turned = rw c.in_ok-push.ensures.items (HasTurned-turn _ _ _ _ _ c.turns.invariant.turned (sym (rw c.deref.ensures.value at c.in-Some.ensures.ready)));
  len = length-set c.turns.left.items _ _ ∙ c.turns.invariant.len;
}

pub returns-clause-order : goal.returns-clause-order
returns-clause-order c =
    HasTurned-taken _ _ _ _ c.turns.invariant.turned (sym (rw c.deref.ensures.value at c.in_default.ensures.ready)) ∙ taken-all _ _

pub returns-clause-left : goal.returns-clause-left
returns-clause-left c =
    HasTurned-stuck _ _ _ _ c.turns.invariant.turned (sym (rw c.deref.ensures.value at c.in_default.ensures.ready)) ∙ stuck-all _ _

pub returns-clause-stuck : goal.returns-clause-stuck
returns-clause-stuck c = sym (rw c.deref.ensures.value at c.in_default.ensures.ready)
