-- For proofs: how the functions of a branch change a packet's version.
use Rattle.std.specs.Prelude.{◌≡◌, ◌<◌, ◌⊎◌, ◌++◌, ℕ, List, Bool, true, false, length, slice_index_or}
use Rattle.action_profile.specs.declared.rights.Profile.{Profile}
use Rattle.chain_walk.specs.Shown.{Values}
use Rattle.chain_walk.specs.Step.{Behaviour, stepped}
use Rattle.chain_walk.specs.declared.fixed.Fixed.{Fixed}
use Rattle.packet_version.specs.Versions.{PlainVersion}
use Rattle.merge_ops.specs.declared.arrival.Arrival.{Arrival}
use Rattle.merge_ops.specs.declared.arrival.Arrival.TheVariants as came
use Rattle.stream_law.specs.Owned.{IsOwnReady}
use Rattle.packet_messages.specs.Messages.{PlainMessage, PlainMessage.Live, PlainMessage.Nil, PlainMessage.Short}

-- a version is ready for functions with these profiles and positions, and anything else passes on
abbrev pub IsReadyMessage : List Profile → List ℕ → PlainMessage PlainVersion → Type 0
IsReadyMessage own positions (Live version) = IsOwnReady own positions version
IsReadyMessage own positions (Nil p) = Unit {0}
IsReadyMessage own positions Short = Unit {0}

-- a packet has a version with it
abbrev pub is_live : PlainMessage PlainVersion → Bool
is_live (Live version) = true
is_live (Nil p) = false
is_live Short = false

-- a branch's result, as a message
abbrev pub as_sent : Arrival → PlainMessage PlainVersion
as_sent (came.Version version) = Live version
as_sent (came.Nil p) = Nil p
as_sent came.Short = Short

-- a function unchanged, or after its step, whatever it saw
abbrev pub IsOrMoved : {F : Type 0} → Behaviour F → F → F → Type 0
IsOrMoved b was now = (now ≡ was) ⊎ ((fixed : Fixed) × (values : Values) × (now ≡ (stepped b fixed was values).after))

-- Each function is in its place, unchanged or after its step.
pub record EachStays {F : Type 0} (b : Behaviour F) (old new : List F) : Type 0 where
  pub count : length new ≡ length old
  pub each : (k : ℕ) (d : F) → k < length old → IsOrMoved b (slice_index_or old k d) (slice_index_or new k d)

-- all of these are added to a list
abbrev pub AddsAll : {A : Type 0} → List A → List A → List A → Type 0
AddsAll all old new = new ≡ old ++ all

-- the first of them are
pub record AddsSome {A : Type 0} (all old new : List A) : Type 0 where
  pub added : List A
  pub left : List A
  pub adds : new ≡ old ++ added
  pub of : added ++ left ≡ all
