-- For proofs: what a function sees of its branch's version, and how it writes there.
use Rattle.std.specs.Prelude.{◌≡◌, ◌≢◌, ℕ, ◌≤◌, ◌+◌, List, ◌++◌, length, drop, Option, option_map, Some, None, IsSomeAnd, if◌then◌else◌}
use Rattle.packet_fields.specs.declared.field.Field.{Field}
use Rattle.packet_fields.specs.declared.field.Field.TheVariants.{Tag}
use Rattle.action_profile.specs.declared.parts.Touch.{Touch}
use Rattle.action_profile.specs.declared.rights.Profile.{Profile}
use Rattle.chain_walk.specs.Shown.{Values}
use Rattle.chain_walk.specs.Step.{Behaviour, Step, stepped}
use Rattle.packet_version.specs.Parts.{PlainPart, PlainHeld, Parts, as_list, values_of, rewritten, changed, is_field}
use Rattle.packet_version.specs.declared.loan.Loan.{Loan}
use Rattle.packet_version.specs.Versions.{PlainVersion, version_parts, with_part, HoldsNamed, IsHad}

-- The version, the profile of the function that sees it, and the function's position in its chain.
pub record PlainView : Type 0 where
  pub version : PlainVersion
  pub profile : Profile
  pub position : ℕ

-- the parts that are seen through a view
abbrev pub seen_parts : PlainView → Parts
seen_parts view = version_parts view.version

-- the bytes that are seen through a view
abbrev pub seen_values : PlainView → Field → Option (List ℕ)
seen_values view = values_of (seen_parts view)

-- the view after its function wrote these bytes into a field that is present
abbrev pub wrote : Field → List ℕ → PlainView → PlainView
wrote f bytes view = record view { version = with_part f (option_map (rewritten bytes view.position) (seen_parts view f)) view.version }

-- the view after its function put a tag before the others
abbrev pub pushed : List ℕ → PlainView → PlainView
pushed tag view = record view { version = with_part Tag (option_map (λ part. rewritten (tag ++ part.bytes) view.position part) (seen_parts view Tag)) view.version }

-- the view after its function took the first tag away
abbrev pub popped : PlainView → PlainView
popped view = record view { version = with_part Tag (option_map (λ part. rewritten (drop 4 part.bytes) view.position part) (seen_parts view Tag)) view.version }

-- a part with its new bytes, if there are some
abbrev pub rewritten_by : Option (List ℕ) → ℕ → Option PlainPart → Option PlainPart
rewritten_by None position part = part
rewritten_by (Some bytes) position part = option_map (rewritten bytes position) part

-- the view after its function wrote these values
abbrev pub wrote_all : Values → PlainView → PlainView
wrote_all new view = record view { version = record view.version { parts = as_list (λ f. rewritten_by (new f) view.position (seen_parts view f)) } }

-- what a function does with the packet that it sees through a view
abbrev pub viewed : {F : Type 0} → Behaviour F → F → PlainView → Step F
viewed b f view = stepped b view.version.fixed f (seen_values view)

-- a field is present, with bytes for which this holds
abbrev pub HasBytes : PlainView → Field → (List ℕ → Type 0) → Type 0
HasBytes view f P = IsSomeAnd (seen_values view f) P

-- a further tag fits after the tags of a part
abbrev pub HasTagRoom : PlainView → Type 0
HasTagRoom view = IsSomeAnd (seen_parts view Tag) (λ part. length part.bytes + 4 ≤ part.room)

-- a new value for this field alone, or none
abbrev pub alone : Field → Option (List ℕ) → Values
alone f new g = if is_field f g then new else None

-- what a view keeps: the version holds what the profile names
pub record IsView (profile : Profile) (touch : Touch) (within : Option PlainHeld) (own : List (Option PlainPart)) (lent : Option (Loan PlainHeld)) : Type 0 where
  pub had : IsHad touch within own lent
  pub holds : HoldsNamed profile touch

-- One field of a view became this part. Every other field is unchanged, and so is all else: what the branch touches and
-- has, the fixed values, the profile and the position.
pub record WroteAlone (f : Field) (part : Option PlainPart) (before after : PlainView) : Type 0 where
  pub whole : seen_parts after ≡ changed f part (seen_parts before)
  pub own : seen_parts after f ≡ part
  pub others : (g : Field) → f ≢ g → seen_parts after g ≡ seen_parts before g
  pub touch : after.version.touch ≡ before.version.touch
  pub fixed : after.version.fixed ≡ before.version.fixed
  pub kept : after.version.kept ≡ before.version.kept
  pub profile : after.profile ≡ before.profile
  pub position : after.position ≡ before.position
