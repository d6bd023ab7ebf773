use Rattle.std.proofs.Common.{◌≡◌, take, map}
use Rattle.action_profile.specs.FieldSets.{all_fields}
use Rattle.action_profile.specs.Modes.{mode_of}
use Rattle.graph_compile.proofs.lawfulness.are_modes.Given as goal

-- the modes so far are those of their fields
abbrev pub invariant-fields : goal.invariant-fields
invariant-fields l = take l.index l.modes ≡ map (mode_of l.touches) (take l.index all_fields)
