-- For proofs: all fields that a function reads or writes, as one set.
use Rattle.std.specs.Prelude.{if◌then◌else◌}
use Rattle.packet_fields.specs.declared.field.Field.TheVariants.{Tag}
use Rattle.action_profile.specs.declared.field_set.FieldSet.{FieldSet}
use Rattle.action_profile.specs.declared.rights.Profile.{Profile}
use Rattle.action_profile.specs.FieldSets.{with_field}
use Rattle.action_profile.specs.Profiles.{handles_tags}

-- a set of fields, and the tags if the function adds or removes one
abbrev pub with_tags : Profile → FieldSet → FieldSet
with_tags p set = if handles_tags p then with_field set Tag else set
