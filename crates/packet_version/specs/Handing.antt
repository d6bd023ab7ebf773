-- For proofs: the parts of a packet on their way to the versions of a stage's branches.
use Rattle.std.specs.Prelude.{ℕ, Bool, not, ◌==◌, ◌&&◌, List, Option, Some, None, if◌then◌else◌, map, option_map, count_by}
use Rattle.packet_fields.specs.declared.field.Field.{Field}
use Rattle.packet_fields.specs.declared.field.Field.TheVariants.{Tag, Payload}
use Rattle.chain_walk.specs.declared.fixed.Fixed.{Fixed}
use Rattle.action_profile.specs.FieldSets.{joined, is_none}
use Rattle.action_profile.specs.Modes.{has_write}
use Rattle.action_profile.specs.declared.parts.Touch.{Touch}
use Rattle.packet_version.specs.Parts.{PlainPart, PlainHeld, Parts, as_map, as_list, changed, unwritten}
use Rattle.packet_version.specs.Versions.{PlainVersion, version_parts, with_part, had_by, left_by}
use Rattle.packet_fields.specs.Writing.{rest_of}
use Rattle.packet_version.specs.declared.base.Kept.{Kept}
use Rattle.packet_version.specs.declared.base.Kept.TheVariants.{Own, Lent}

-- what the branches of some versions touch
abbrev pub touches_in : List PlainVersion → List Touch
touches_in versions = map (λ v. v.touch) versions

-- a version with the part, if its branch writes the field
abbrev pub copied_to : Field → PlainPart → PlainVersion → PlainVersion
copied_to f part version = if has_write f version.touch then with_part f (Some (unwritten part)) version else version

-- the same, if there is a part
abbrev pub copied_some : Field → Option PlainPart → PlainVersion → PlainVersion
copied_some f None version = version
copied_some f (Some part) version = copied_to f part version

-- the number of branches that write the field
abbrev pub writers_in : Field → List PlainVersion → ℕ
writers_in f versions = count_by (λ v. has_write f v.touch) versions

-- a branch's own parts, with no writer: those of the fields that it writes
abbrev pub own_parts : Touch → Parts → Parts
own_parts touch parts f = if has_write f touch then option_map unwritten (parts f) else None

abbrev pub with_own : Parts → PlainVersion → PlainVersion
with_own parts version = record version { parts = as_list (own_parts version.touch parts) }

-- the branch reads a field that it doesn't write
unfoldable pub reads_more : Touch → Bool
reads_more touch = not ((joined touch.reads touch.writes).0 == touch.writes.0)

-- the branch writes some field
abbrev pub writes_some : Touch → Bool
writes_some touch = not (is_none touch.writes)

-- the branch writes only fields of fixed length
abbrev pub writes_few : Touch → Bool
writes_few touch = not (has_write Tag touch) && not (has_write Payload touch)

-- a version with a loan of these parts
abbrev pub with_loan : Parts → PlainVersion → PlainVersion
with_loan parts version = record version { parts = as_list (had_by version.touch (version_parts version) parts); kept = None }

-- a version with what is left of the packet
abbrev pub with_packet : PlainHeld → PlainVersion → PlainVersion
with_packet held version = record version {
  parts = as_list (had_by version.touch (version_parts version) (as_map held.parts));
  kept = Some (record { parts = held.parts; rest = rest_of held.frame; fixed = version.fixed });
}

-- the version of a branch that has this packet and writes in it
abbrev pub holding : PlainHeld → Touch → Fixed → PlainVersion
holding held touch fixed = record {
  parts = as_list (had_by touch (as_map held.parts) (as_map held.parts));
  touch = touch;
  fixed = fixed;
  kept = Some (record { parts = as_list (left_by touch (as_map held.parts)); rest = rest_of held.frame; fixed = fixed });
}

-- a version with a loan of these parts, if its branch reads any of them
abbrev pub lent_to : Parts → PlainVersion → PlainVersion
lent_to parts version = if reads_more version.touch then with_loan parts version else version

-- what is kept of a packet
abbrev pub kept_in : Kept → PlainHeld
kept_in (Own held) = held
kept_in (Lent held) = held

-- a packet with another part of a field, or none
abbrev pub with_place : Field → Option PlainPart → PlainHeld → PlainHeld
with_place f part held = record held { parts = as_list (changed f part (as_map held.parts)) }

-- a version that has no field
abbrev pub without_fields : PlainVersion → PlainVersion
without_fields version = record version { parts = as_list (λ f. None) }

-- this number of copies of a part that is there
abbrev pub copies_of : Option PlainPart → ℕ → ℕ
copies_of None count = 0
copies_of (Some part) count = count
