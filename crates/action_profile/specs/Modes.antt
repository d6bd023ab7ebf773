-- Believed: how a stage passes on a field of a packet, by what each of its branches touches.
use Rattle.std.specs.Prelude.{◌-◌, ◌==◌, ◌&&◌, ◌||◌, ℕ, Bool, not, if◌then◌else◌, List, Some, None, map, count_by, position, slice_index_or}
use Rattle.std.specs.List.{list_any}
use Rattle.std.specs.Option.{option_map_or}
use Rattle.packet_fields.specs.Fields.{number_of}
use Rattle.packet_fields.specs.declared.field.Field.{Field}
use Rattle.action_profile.specs.FieldSets.{all_fields, has}
use Rattle.action_profile.specs.declared.parts.Mode.{Mode}
use Rattle.action_profile.specs.declared.parts.Mode.TheVariants.{Shared, Moved, Copied}
use Rattle.action_profile.specs.declared.parts.StageParts.{StageParts}
use Rattle.action_profile.specs.declared.parts.Touch.{Touch}

-- a branch writes a field, touches it, and only reads it
abbrev pub has_write : Field → Touch → Bool
has_write f touch = has touch.writes f

abbrev pub has_touch : Field → Touch → Bool
has_touch f touch = has touch.reads f || has touch.writes f

abbrev pub only_reads : Field → Touch → Bool
only_reads f touch = has touch.reads f && not (has touch.writes f)

-- a field that some branch writes: moved to `first`, the first such branch, if no other touches it, else copied
abbrev pub written_mode : List Touch → Field → ℕ → Mode
written_mode touches f first =
    if count_by (has_touch f) touches == 1
    then Moved first
    else Copied (if list_any (only_reads f) touches then None else Some first)

-- the mode of a field: shared if no branch writes it
unfoldable pub mode_of : List Touch → Field → Mode
mode_of touches f = option_map_or (written_mode touches f) (position (has_write f) touches) Shared

abbrev pub modes_of : List Touch → List Mode
modes_of touches = map (mode_of touches) all_fields

-- copies of a copied field: one per writing branch, one less if no branch only reads it (the first gets the original)
abbrev pub copies_by_mode : Mode → List Touch → Field → ℕ
copies_by_mode (Copied original) touches f =
    if list_any (only_reads f) touches then count_by (has_write f) touches else count_by (has_write f) touches - 1
copies_by_mode mode touches f = 0

-- the number of copies of a field that a stage makes of each packet that has it
unfoldable pub copies : StageParts → Field → ℕ
copies parts f = copies_by_mode (slice_index_or parts.modes (number_of f) Shared) parts.touches f
