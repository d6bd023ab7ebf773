-- For proofs: how the branches of a stage get the parts of a packet.
use Rattle.std.specs.Prelude.{◌≡◌, ◌≤◌, ℕ, List, [], ◌∷◌, Option, Some, None, Bool, true, false, if◌then◌else◌, option_map}
use Rattle.packet_fields.specs.declared.field.Field.{Field}
use Rattle.action_profile.specs.Modes.{has_touch, mode_of, copies_by_mode}
use Rattle.action_profile.specs.declared.parts.Mode.{Mode}
use Rattle.action_profile.specs.declared.parts.Mode.TheVariants.{Shared, Moved, Copied}
use Rattle.action_profile.specs.declared.parts.Touch.{Touch}
use Rattle.packet_version.specs.Parts.{PlainPart, Parts, as_list, unwritten}
use Rattle.packet_version.specs.Tallies.{count_of, raised}
use Rattle.packet_version.specs.Splitting.{PlainApart, packet_parts}
use Rattle.packet_version.specs.Versions.{PlainVersion}
use Rattle.chain_walk.specs.declared.fixed.Fixed.{Fixed}

-- a branch has the fields that it touches and the packet has, with no writer
abbrev pub dealt_parts : Touch → Parts → Parts
dealt_parts touch parts f = if has_touch f touch then option_map unwritten (parts f) else None

abbrev pub dealt_version : Parts → Fixed → Touch → PlainVersion
dealt_version parts fixed touch = record { parts = as_list (dealt_parts touch parts); touch = touch; fixed = fixed; kept = None }

-- the version that a branch with this touch gets
abbrev pub dealt : PlainApart → Touch → PlainVersion
dealt whole touch = dealt_version (packet_parts whole) whole.fixed touch

-- the original goes to a branch: if it is moved, or if every branch that touches the field writes it
abbrev pub is_given : Mode → Bool
is_given Shared = false
is_given (Moved branch) = true
is_given (Copied None) = false
is_given (Copied (Some branch)) = true

-- what stays after the branches: each part whose original no branch got
abbrev pub kept_part : Mode → Option PlainPart → Option PlainPart
kept_part mode part = if is_given mode then None else option_map unwritten part

abbrev pub kept_parts : List Touch → Parts → Parts
kept_parts touches parts f = kept_part (mode_of touches f) (parts f)

-- the base beside the versions of branches with these touches
abbrev pub based : List Touch → PlainApart → PlainApart
based touches whole = record whole { parts = as_list (kept_parts touches (packet_parts whole)) }

-- the version that the only branch of a stage gets: the base goes with it
abbrev pub dealt_whole : PlainApart → Touch → PlainVersion
dealt_whole whole touch = record (dealt whole touch) { kept = Some (based (touch ∷ []) whole) }

-- the copies that are due for a part, if it is there
abbrev pub copies_due : List Touch → Field → Option PlainPart → ℕ
copies_due touches f None = 0
copies_due touches f (Some part) = copies_by_mode (mode_of touches f) touches f

-- each count rises by the copies that are due for its field
abbrev pub RaisesByDue : List Touch → Parts → List ℕ → List ℕ → Type 0
RaisesByDue touches parts old new = (f : Field) → count_of new f ≡ raised (count_of old f) (copies_due touches f (parts f))

-- each count rises by at most these
abbrev pub RaisesWithinDue : List Touch → Parts → List ℕ → List ℕ → Type 0
RaisesWithinDue touches parts old new = (f : Field) → (count_of old f ≤ count_of new f) × (count_of new f ≤ raised (count_of old f) (copies_due touches f (parts f)))
