-- For proofs: the functions of a branch, one after another on the branch's version of a packet.
use Rattle.std.specs.Prelude.{ℕ, ◌-◌, List, [], ◌∷◌, set, slice_get, if◌then◌else◌, Option, Some, None}
use Rattle.packet_fields.specs.Writing.{over}
use Rattle.packet_fields.specs.declared.field.Field.{Field}
use Rattle.action_profile.specs.Modes.{has_touch}
use Rattle.action_profile.specs.declared.parts.Touch.{Touch}
use Rattle.chain_walk.specs.Shown.{Values}
use Rattle.chain_walk.specs.Step.{Behaviour, stepped, is_drop}
use Rattle.chain_walk.specs.declared.fixed.Fixed.{Fixed}

-- The values of the fields as a branch has them, and the chain position of the function that last wrote each in this
-- stage, 0 if none did.
pub record Version : Type 0 where
  pub values : Values
  pub writers : Field → ℕ

-- What leaves a branch: its version, or the position of the function that dropped the packet.
pub data BranchEnd : Type 0 where
  Live : (version : Version) → BranchEnd
  Nil : (position : ℕ) → BranchEnd

-- the position of a function that wrote a new value, and else the former writer
abbrev pub writer_by : Option (List ℕ) → ℕ → ℕ → ℕ
writer_by None position old = old
writer_by (Some new) position old = position

-- a version in which the function at this position wrote these values
abbrev pub written_at : ℕ → Values → Version → Version
written_at position new v = record { values = over new v.values; writers = λ f. writer_by (new f) position (v.writers f) }

-- a branch gets the fields that it touches, with no writer
abbrev pub dealt : Touch → Values → BranchEnd
dealt touch values = Live (record { values = λ f. if has_touch f touch then values f else None; writers = λ f. 0 })

-- a function after what arrived at it
unfoldable pub moved_function : {F : Type 0} → Behaviour F → Fixed → F → BranchEnd → F
moved_function b fixed f (Nil q) = f
moved_function b fixed f (Live v) = (stepped b fixed f v.values).after

-- what continues from the function at this position
unfoldable pub moved_end : {F : Type 0} → Behaviour F → Fixed → ℕ → F → BranchEnd → BranchEnd
moved_end b fixed p f (Nil q) = Nil q
moved_end b fixed p f (Live v) =
    if is_drop (stepped b fixed f v.values).verdict then Nil p else Live (written_at p (stepped b fixed f v.values).written v)

-- The functions of a chain as a branch leaves them, and what leaves the branch.
pub record Ran (F : Type 0) : Type 0 where
  pub functions : List F
  pub arrival : BranchEnd

-- the function at a position, which counts from 1, if there is one
unfoldable pub met : {F : Type 0} → Behaviour F → Fixed → ℕ → Option F → List F → BranchEnd → Ran F
met b fixed q None fs a = record { functions = fs; arrival = a }
met b fixed q (Some f) fs a = record { functions = set fs (q - 1) (moved_function b fixed f a); arrival = moved_end b fixed q f a }

-- the functions at these positions, in turn
unfoldable pub in_turn : {F : Type 0} → Behaviour F → Fixed → List ℕ → List F → BranchEnd → Ran F
in_turn b fixed [] fs a = record { functions = fs; arrival = a }
in_turn b fixed (q ∷ qs) fs a =
    in_turn b fixed qs (met b fixed q (slice_get fs (q - 1)) fs a).functions (met b fixed q (slice_get fs (q - 1)) fs a).arrival
