-- For proofs: the arrivals of a base: what the branches of its stage made of the versions that they got.
use Rattle.std.specs.Prelude.{◌≡◌, ◌≢◌, ◌<◌, ℕ, List, length, Option, Some, None, is_some, option_map, map, slice_index_or}
use Rattle.packet_fields.specs.declared.field.Field.{Field}
use Rattle.packet_fields.specs.declared.field.Field.TheVariants.{Tag}
use Rattle.action_profile.specs.declared.parts.Touch.{Touch}
use Rattle.packet_version.specs.Parts.{Parts, values_of, writers_of}
use Rattle.packet_version.specs.Splitting.{PlainApart, IsWhole, packet_parts}
use Rattle.packet_version.specs.Versions.{PlainVersion, version_parts}
use Rattle.packet_version.specs.Dealing.{dealt_parts, dealt, based}
use Rattle.merge_ops.specs.Merging.{part_of, last_writer}
use Rattle.merge_ops.specs.Taking.{arrival_at}
use Rattle.merge_ops.specs.declared.arrival.Arrival.{Arrival}
use Rattle.merge_ops.specs.declared.arrival.Arrival.TheVariants.{Version, Nil, Short}

-- no branch: it touches nothing
abbrev pub no_touch : Touch
no_touch = record { reads = record { 0 = 0 }; writes = record { 0 = 0 } }

abbrev pub lengths_of : Parts → Field → Option ℕ
lengths_of parts f = option_map (λ p. length p.bytes) (parts f)

-- What a branch with this touch may have made of the version that it got: it has the same fields, the
-- packet's own value in each field without a writer, and each field except the tags has its length.
pub record IsMadeOf (whole : PlainApart) (touch : Touch) (version : PlainVersion) : Type 0 where
  pub touched : version.touch ≡ touch
  pub there : (f : Field) → is_some (version_parts version f) ≡ is_some (dealt_parts touch (packet_parts whole) f)
  pub own : (f : Field) → writers_of (version_parts version) f ≡ 0 → values_of (version_parts version) f ≡ values_of (dealt_parts touch (packet_parts whole)) f
  pub lengths : (f : Field) → f ≢ Tag → lengths_of (version_parts version) f ≡ lengths_of (dealt_parts touch (packet_parts whole)) f

-- an arrival from a branch with this touch
abbrev pub IsFrom : PlainApart → Touch → Arrival → Type 0
IsFrom whole touch (Version v) = IsMadeOf whole touch v
IsFrom whole touch (Nil p) = Unit {0}
IsFrom whole touch Short = Unit {0}

-- The base of a packet that went to branches with these touches, and an arrival from each, in branch order.
pub record AreFrom (whole : PlainApart) (touches : List Touch) (base : PlainApart) (arrivals : List Arrival) : Type 0 where
  pub fits : IsWhole (packet_parts whole) whole.rest
  pub behind : base ≡ based touches whole
  pub count : length arrivals ≡ length touches
  pub each : (b : ℕ) → b < length touches → IsFrom whole (slice_index_or touches b no_touch) (arrival_at arrivals b)

-- these are the arrivals of the base of some packet
pub record AreArrivals (base : PlainApart) (arrivals : List Arrival) : Type 0 where
  pub whole : PlainApart
  pub touches : List Touch
  pub from : AreFrom whole touches base arrivals

-- the branch that an arrival comes from had the whole packet, of which this is the base
abbrev pub KeepsBase : PlainApart → Arrival → Type 0
KeepsBase base (Version v) = v.kept ≡ Some base
KeepsBase base (Nil p) = Unit {0}
KeepsBase base Short = Unit {0}

-- the value of a field after the stage: the one written last, or the packet's own if none was written
abbrev pub value_by : PlainApart → List Arrival → Field → Option ℕ → Option (List ℕ)
value_by whole arrivals f None = values_of (packet_parts whole) f
value_by whole arrivals f (Some branch) = option_map (λ p. p.bytes) (part_of f (arrival_at arrivals branch))

abbrev pub value_behind : PlainApart → List Arrival → Field → Option (List ℕ)
value_behind whole arrivals f = value_by whole arrivals f (last_writer arrivals f)

-- the versions that branches with these touches get, as they arrive if no branch has a function
abbrev pub dealt_arrival : PlainApart → Touch → Arrival
dealt_arrival whole touch = Version (dealt whole touch)

abbrev pub dealt_arrivals : PlainApart → List Touch → List Arrival
dealt_arrivals whole touches = map (dealt_arrival whole) touches
