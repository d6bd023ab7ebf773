-- Believed: the dependency table: function x is before function y, each action of x against each of y.
use Rattle.std.specs.Prelude.{List, Bool, true, false, ◌==◌, ◌&&◌, if◌then◌else◌, Option, map, filter, find}
use Rattle.std.specs.Option.{option_map_or}
use Rattle.std.specs.List.{list_any, flat_map}
use Rattle.packet_fields.specs.Fields.{number_of}
use Rattle.packet_fields.specs.declared.field.Field.{Field}
use Rattle.action_profile.specs.FieldSets.{all_fields, fields, has, is_none}
use Rattle.action_profile.specs.declared.rights.Profile.{Profile}
use Rattle.action_profile.specs.declared.field_set.FieldSet.{FieldSet}
use Rattle.dependency_table.specs.Actions.{actions}
use Rattle.dependency_table.specs.declared.action.Action.{Action}
use Rattle.dependency_table.specs.declared.action.Action.TheVariants.{Read, Write, Drop, State, Count, Whole}
use Rattle.dependency_table.specs.declared.action.Answer.{Answer}
use Rattle.dependency_table.specs.declared.action.Answer.TheVariants.{Free, Copy, Forbidden}

-- two fields are one
abbrev pub is_same : Field → Field → Bool
is_same f g = number_of f == number_of g

-- An action of x forbids one of y: x or y works on the whole frame, y reads what x writes, or keeps a state of drops.
-- No drop of x forbids y to count: y's note of a packet waits until it is known whether x drops the packet.
abbrev pub forbids : Action → Action → Bool
forbids Whole b = true
forbids a Whole = true
forbids (Write f) (Read g) = is_same f g
forbids Drop State = true
forbids Drop Count = false
forbids a b = false

-- an action of x and one of y each need a copy of this field: y writes it, and x reads or writes it
abbrev pub copies : Field → Action → Action → Bool
copies f (Read g) (Write h) = is_same f g && is_same f h
copies f (Write g) (Write h) = is_same f g && is_same f h
copies f a b = false

-- x's actions in order, for each of them y's in order
unfoldable pub pairs : Profile → Profile → List (Action × Action)
pairs x y = flat_map (λ a. map (λ b. (a, b)) (actions y)) (actions x)

-- the first pair of actions that the table forbids
unfoldable pub first_forbidden : Profile → Profile → Option (Action × Action)
first_forbidden x y = find (λ p. forbids p.0 p.1) (pairs x y)

-- some pair of actions copies the field
unfoldable pub is_copied : Profile → Profile → Field → Bool
is_copied x y f = list_any (λ p. copies f p.0 p.1) (pairs x y)

-- all fields copied
unfoldable pub copied : Profile → Profile → FieldSet
copied x y = fields (filter (is_copied x y) all_fields)

-- Copy if some field is copied
abbrev pub free_or_copy : FieldSet → Answer
free_or_copy set = if is_none set then Free else Copy set

-- Forbidden with the first forbidden pair, else Copy with all fields copied, else Free
unfoldable pub pair_of : Profile → Profile → Answer
pair_of x y = option_map_or (λ p. Forbidden p.0 p.1) (first_forbidden x y) (free_or_copy (copied x y))

-- the two may run side by side
abbrev pub is_allowed : Answer → Bool
is_allowed (Forbidden first second) = false
is_allowed answer = true

-- a pair that may run side by side copies the field
abbrev pub copies_field : Answer → Field → Bool
copies_field (Copy set) f = has set f
copies_field answer f = false
