-- Believed: how a stage passes on the fields of a packet to its branches.
use Rattle.std.specs.Prelude.{◌-◌, ℕ, Bool, false, List, Option, map, filter, position, slice_get}
use Rattle.std.specs.List.{list_any}
use Rattle.std.specs.Option.{option_map_or}
use Rattle.packet_fields.specs.declared.field.Field.{Field}
use Rattle.action_profile.specs.FieldSets.{all_fields, fields}
use Rattle.action_profile.specs.Modes.{modes_of}
use Rattle.action_profile.specs.Profiles.{reads_of, writes_of}
use Rattle.action_profile.specs.declared.parts.StageParts.{StageParts}
use Rattle.action_profile.specs.declared.parts.Touch.{Touch}
use Rattle.action_profile.specs.declared.rights.Profile.{Profile}
use Rattle.graph_compile.specs.declared.graph.Branch.{Branch}

-- the profile at a position of the chain; positions count from 1
abbrev pub profile_at : List Profile → ℕ → Option Profile
profile_at chain position = slice_get chain (position - 1)

-- the function at a position reads a field, and writes it
abbrev pub reads_at : List Profile → Field → ℕ → Bool
reads_at chain f position = option_map_or (λ p. reads_of p f) (profile_at chain position) false

abbrev pub writes_at : List Profile → Field → ℕ → Bool
writes_at chain f position = option_map_or (λ p. writes_of p f) (profile_at chain position) false

-- some function of a branch reads a field, and some writes it
unfoldable pub branch_reads : List Profile → Branch → Field → Bool
branch_reads chain branch f = list_any (reads_at chain f) branch.positions

unfoldable pub branch_writes : List Profile → Branch → Field → Bool
branch_writes chain branch f = list_any (writes_at chain f) branch.positions

-- the fields that the functions of a branch read, and those that they write
unfoldable pub touch_of : List Profile → Branch → Touch
touch_of chain branch = record {
  reads = fields (filter (branch_reads chain branch) all_fields);
  writes = fields (filter (branch_writes chain branch) all_fields);
}

abbrev pub touches_of : List Profile → List Branch → List Touch
touches_of chain branches = map (touch_of chain) branches

-- the parts of a stage: what each branch touches, and from that the mode of each field
unfoldable pub stage_parts : List Profile → List Branch → StageParts
stage_parts chain branches = record {
  modes = modes_of (touches_of chain branches);
  touches = touches_of chain branches;
}
