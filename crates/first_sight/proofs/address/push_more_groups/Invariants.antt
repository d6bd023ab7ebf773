use Rattle.std.proofs.Common.{◌≡◌, ◌++◌, take}
use Rattle.std.specs.Prelude.{codes}
use Rattle.std.specs.List.{flat_map}
use Rattle.std.specs.Net.Text.{hex}
use Rattle.first_sight.proofs.address.push_more_groups.Given as goal

-- the groups so far
abbrev pub invariant-groups : goal.invariant-groups
invariant-groups l = l.text.items ≡ l.fn.text.items ++ flat_map (λ group. codes ":" ++ hex group) (take l.group-index l.groups)
