-- For proofs: what a branch of a stage has of a packet.
use Rattle.std.specs.Prelude.{◌≡◌, List, length, Option, Some, None, IfSome, Bool, true, false, ◌||◌, if◌then◌else◌}
use Rattle.packet_fields.specs.declared.field.Field.{Field}
use Rattle.packet_fields.specs.declared.field.Field.TheVariants.{Tag, Payload}
use Rattle.action_profile.specs.Modes.{has_touch, has_write, only_reads}
use Rattle.action_profile.specs.Profiles.{reads_of, writes_of}
use Rattle.action_profile.specs.declared.parts.Touch.{Touch}
use Rattle.action_profile.specs.declared.rights.Profile.{Profile}
use Rattle.packet_version.specs.Parts.{PlainPart, PlainHeld, Parts, as_map, as_list, changed, writer_in, IsPartOf}
use Rattle.packet_version.specs.Splitting.{PlainApart}
use Rattle.packet_version.specs.declared.loan.Loan.{Loan}
use Rattle.packet_version.specs.declared.loan.Loan.TheVariants.{Shared, Whole}
use Rattle.packet_fields.specs.Writing.{rest_of}
use Rattle.chain_walk.specs.declared.fixed.Fixed.{Fixed}

-- The parts of a branch in the fields' order, what the branch touches, and the packet's fixed values; also the packet
-- without what the branch writes, if the branch is the only one of its stage and has it.
pub record PlainVersion : Type 0 where
  pub parts : List (Option PlainPart)
  pub touch : Touch
  pub fixed : Fixed
  pub kept : Option PlainApart

abbrev pub version_parts : PlainVersion → Parts
version_parts version = as_map version.parts

-- the same with this part in a field's place, or none
abbrev pub with_part : Field → Option PlainPart → PlainVersion → PlainVersion
with_part f part version = record version { parts = as_list (changed f part (version_parts version)) }

-- a version without any field
abbrev pub nothing : Touch → Fixed → PlainVersion
nothing touch fixed = record { parts = as_list (λ f. None); touch = touch; fixed = fixed; kept = None }

-- the profile names the field
abbrev pub names : Profile → Field → Bool
names profile f = reads_of profile f || writes_of profile f

-- a branch holds what a profile names: it touches each field that the profile reads or writes, and writes each
-- field that the profile writes
pub record HoldsNamed (profile : Profile) (touch : Touch) : Type 0 where
  pub touched : (f : Field) → names profile f ≡ true → has_touch f touch ≡ true
  pub written : (f : Field) → writes_of profile f ≡ true → has_write f touch ≡ true

-- the parts that are lent, if there are some
abbrev pub lent_parts : Option (Loan PlainHeld) → Parts
lent_parts None f = None
lent_parts (Some (Shared held)) f = as_map held.parts f
lent_parts (Some (Whole held)) f = as_map held.parts f

-- the packet that a branch has
abbrev pub kept_by : Option (Loan PlainHeld) → Fixed → Option PlainApart
kept_by None fixed = None
kept_by (Some (Shared held)) fixed = None
kept_by (Some (Whole held)) fixed = Some (record { parts = held.parts; rest = rest_of held.frame; fixed = fixed })

-- what a branch has of a packet: its own part of each field that it writes, and the lent one of each that it only reads
abbrev pub had_by : Touch → Parts → Parts → Parts
had_by touch own lent f = if has_write f touch then own f else (if only_reads f touch then lent f else None)

-- The same for a branch that has the packet and writes in it: every part is there. Else it has own parts, and a loan.
abbrev pub had_in : Touch → Option PlainHeld → List (Option PlainPart) → Option (Loan PlainHeld) → Parts
had_in touch None own lent = had_by touch (as_map own) (lent_parts lent)
had_in touch (Some held) own lent = had_by touch (as_map held.parts) (as_map held.parts)

-- the parts of a packet without those that a branch writes
abbrev pub left_by : Touch → Parts → Parts
left_by touch parts f = if has_write f touch then None else parts f

-- what a branch has of the packet, besides what it writes
abbrev pub kept_of : Touch → Option PlainHeld → Option (Loan PlainHeld) → Fixed → Option PlainApart
kept_of touch None lent fixed = kept_by lent fixed
kept_of touch (Some held) lent fixed = Some (record { parts = as_list (left_by touch (as_map held.parts)); rest = rest_of held.frame; fixed = fixed })

-- There is a place for each of a branch's own parts, unless it writes in the packet. What it doesn't write has no
-- writer, and each part has its field's length, the tags as whole tags. In the packet it writes fixed lengths alone.
pub record IsHad (touch : Touch) (within : Option PlainHeld) (own : List (Option PlainPart)) (lent : Option (Loan PlainHeld)) : Type 0 where
  pub there : within ≡ None → (f : Field) → has_write f touch ≡ true → length own ≡ 10
  pub unwritten : (f : Field) → has_write f touch ≡ false → writer_in (had_in touch within own lent f) ≡ 0
  pub formed : (f : Field) → IsPartOf f (had_in touch within own lent f)
  pub few : IfSome within (λ held. (has_write Tag touch ≡ false) × (has_write Payload touch ≡ false))
