-- For proofs: what a branch leaves of a version.
use Rattle.std.specs.Prelude.{◌≡◌, ◌≤◌, ◌+◌, ℕ, List, [], ◌∷◌, Some}
use Rattle.action_profile.specs.declared.parts.Touch.{Touch}
use Rattle.action_profile.specs.declared.rights.Profile.{Profile}
use Rattle.chain_walk.specs.Shown.{Values, AreWellFormed}
use Rattle.packet_version.specs.Parts.{values_of}
use Rattle.graph_compile.specs.Parts.{profile_at}
use Rattle.packet_version.specs.Splitting.{PlainApart}
use Rattle.packet_version.specs.Versions.{PlainVersion, version_parts, HoldsNamed}
use Rattle.merge_ops.specs.Behind.{IsMadeOf}
use Rattle.merge_ops.specs.declared.arrival.Arrival.{Arrival}
use Rattle.merge_ops.specs.declared.arrival.Arrival.TheVariants as came
use Rattle.graph_run.specs.Carrying.{wrote_at}
use Rattle.graph_run.specs.Rooms.{HasRoomFrom}

-- a branch with this touch holds what the functions at these positions name; the positions rise from one bound to another
unfoldable pub Holds : List Profile → Touch → ℕ → ℕ → List ℕ → Type 0
Holds chain touch low high [] = low ≤ high
Holds chain touch low high (q ∷ qs) = (1 ≤ q) × (low ≤ q) × ((p : Profile) × (profile_at chain q ≡ Some p) × HoldsNamed p touch) × Holds chain touch (q + 1) high qs

-- A version that a branch with this touch made of a packet, and that goes on from this position.
pub record IsCarried (chain : List Profile) (whole : PlainApart) (touch : Touch) (position : ℕ) (version : PlainVersion) : Type 0 where
  pub made : IsMadeOf whole touch version
  pub fixed : version.fixed ≡ whole.fixed
  pub formed : AreWellFormed (values_of (version_parts version))
  pub room : HasRoomFrom chain position (version_parts version)

-- A version is ready for the functions at these positions.
pub record IsReady (chain : List Profile) (positions : List ℕ) (version : PlainVersion) : Type 0 where
  pub whole : PlainApart
  pub low : ℕ
  pub high : ℕ
  pub holds : Holds chain version.touch low high positions
  pub carried : IsCarried chain whole version.touch low version

-- a branch's result: a version that goes on from a position, or a drop
abbrev pub IsCarriedBy : List Profile → PlainApart → Touch → ℕ → Arrival → Type 0
IsCarriedBy chain whole touch position (came.Version version) = IsCarried chain whole touch position version
IsCarriedBy chain whole touch position (came.Nil p) = Unit {0}
IsCarriedBy chain whole touch position came.Short = ⊥

-- a version in the result has the same of the packet as the one before
abbrev pub KeepsPacket : PlainVersion → Arrival → Type 0
KeepsPacket version (came.Version after) = after.kept ≡ version.kept
KeepsPacket version (came.Nil p) = Unit {0}
KeepsPacket version came.Short = ⊥

-- a version in the result is the one before, with what the function at this position wrote
abbrev pub IsWhatWasWritten : ℕ → Values → PlainVersion → Arrival → Type 0
IsWhatWasWritten position new version (came.Version after) = after ≡ wrote_at position new version
IsWhatWasWritten position new version (came.Nil p) = Unit {0}
IsWhatWasWritten position new version came.Short = ⊥
