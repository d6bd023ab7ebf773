use Rattle.std.proofs.Common.{◌≡◌, drop, find, filter}
use Rattle.dependency_table.specs.Actions.{has_action, actions}
use Rattle.dependency_table.specs.Table.{forbids}
use Rattle.dependency_table.proofs.side_by_side.first_forbidden_by.Given as goal

-- the first is among the rest
abbrev pub invariant-actions : goal.invariant-actions
invariant-actions l = find (forbids l.first) (filter (has_action l.y) (drop l.second-index l.second-items)) ≡ find (forbids l.first) (actions l.y)
