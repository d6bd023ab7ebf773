use Rattle.std.proofs.Common.{◌∙◌, sym}
use Rattle.dependency_table.specs.Actions.{has_action, actions}
use Rattle.dependency_table.specs.declared.action.Action.TheVariants.{Pass}
use Rattle.dependency_table.proofs.Walks.{first_hit, first_miss, first_skip}
use Rattle.dependency_table.proofs.side_by_side.first_forbidden.Goals as goal
use Rattle.dependency_table.proofs.side_by_side.first_forbidden.Goals.{then-has_action+in_default, else-has_action}

pub returns-in-Some : goal.returns-in-Some
returns-in-Some c =
    sym (first_hit (has_action c.args.x.now) c.all_actions-first-items.result.now (actions c.args.y.now) c.actions.first-index Pass c.in-Some.second c.actions-test.true
    (sym c.has_action.ensures ∙ c.if-has_action.true) (sym c.first_forbidden_by.ensures ∙ c.in-Some.is)) ∙ c.actions.invariant

pub actions-preserved : goal.actions-preserved
actions-preserved c = elim c.if-has_action.branch [
  | then-has_action+in_default w ↦
      sym (first_miss (has_action c.args.x.now) c.all_actions-first-items.result.now (actions c.args.y.now) c.actions.first-index Pass c.actions-test.true
      (sym c.has_action.ensures ∙ w.if-has_action.true) (sym w.first_forbidden_by.ensures ∙ w.in_default.is)) ∙ c.actions.invariant
  | else-has_action w ↦
      sym (first_skip (has_action c.args.x.now) c.all_actions-first-items.result.now (actions c.args.y.now) c.actions.first-index Pass c.actions-test.true
      (sym c.has_action.ensures ∙ w.if-has_action.false)) ∙ c.actions.invariant
]
