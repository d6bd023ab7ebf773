-- Believed: what a function does to a packet, action by action.
use Rattle.std.specs.Prelude.{List, [], ◌∷◌, ◌++◌, Bool, false, not, map, filter}
use Rattle.std.specs.List.{list_any}
use Rattle.action_profile.specs.declared.rights.Profile.{Profile}
use Rattle.action_profile.specs.FieldSets.{all_fields}
use Rattle.action_profile.specs.Profiles.{reads_of, writes_of}
use Rattle.dependency_table.specs.declared.action.Action.{Action}
use Rattle.dependency_table.specs.declared.action.Action.TheVariants.{Pass, Read, Write, Drop, State, Count, Whole}

-- all actions in order: each field read, in the fields' order, each field written, and the others
unfoldable pub all_actions : List Action
all_actions = map (λ f. Read f) all_fields ++ map (λ f. Write f) all_fields ++ Drop ∷ State ∷ Count ∷ Whole ∷ Pass ∷ []

-- what a function with this profile may do; to pass is to do nothing
abbrev pub may : Profile → Action → Bool
may p (Read f) = reads_of p f
may p (Write f) = writes_of p f
may p Drop = p.drops
may p State = p.state
may p Count = p.counts
may p Whole = p.whole
may p Pass = false

-- a profile has the actions that it may do, and Pass if it may do none
abbrev pub has_action : Profile → Action → Bool
has_action p Pass = not (list_any (may p) all_actions)
has_action p action = may p action

-- the actions of a profile, in order
unfoldable pub actions : Profile → List Action
actions p = filter (has_action p) all_actions
