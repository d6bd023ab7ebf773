use Rattle.std.proofs.Common.{◌≡◌, drop, filter}
use Rattle.dependency_table.specs.Actions.{has_action, actions}
use Rattle.dependency_table.specs.Table.{first_forbidden}
use Rattle.dependency_table.proofs.Walks.{first_of}
use Rattle.dependency_table.proofs.side_by_side.first_forbidden.Given as goal

-- the first pair is among those of the rest
abbrev pub invariant-actions : goal.invariant-actions
invariant-actions l = first_of (filter (has_action l.x) (drop l.first-index l.first-items)) (actions l.y) ≡ first_forbidden l.x l.y
