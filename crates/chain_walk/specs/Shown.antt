-- Believed: what a network function sees of a packet.
use Rattle.std.specs.Prelude.{◌≡◌, ℕ, List, length, Bool, true, ◌&&◌, if◌then◌else◌, Option, None, is_some, IfSome}
use Rattle.packet_fields.specs.Frames.{packet, is_tag_list}
use Rattle.packet_fields.specs.Packets.{total_len, protocol, control_bits}
use Rattle.packet_fields.specs.Fields.{ether_type, IsLengthOf}
use Rattle.packet_fields.specs.declared.field.Field.{Field}
use Rattle.packet_fields.specs.declared.field.Field.TheVariants.{Tag}
use Rattle.action_profile.specs.Profiles.{reads_of, writes_of}
use Rattle.action_profile.specs.declared.rights.Profile.{Profile}
use Rattle.chain_walk.specs.declared.fixed.Fixed.{Fixed}

-- the bytes of each field that a packet has
abbrev pub Values : Type 0
Values = Field → Option (List ℕ)

-- Values as the fields of a frame have them: each has its field's length, and the tags are whole.
pub record AreWellFormed (values : Values) : Type 0 where
  pub lengths : (f : Field) → IfSome (values f) (λ bytes. IsLengthOf f (length bytes))
  pub tags : IfSome (values Tag) (λ tags. is_tag_list tags ≡ true)

-- The values of the fields that a function reads, which of the fields that it writes are there, and the values that
-- no function writes.
pub record Shown : Type 0 where
  pub values : Values
  pub has : Field → Bool
  pub fixed : Fixed

-- what a function with this profile sees of a packet
abbrev pub shown_by : Profile → Fixed → Values → Shown
shown_by profile fixed values = record {
  values = λ f. if reads_of profile f then values f else None;
  has = λ f. writes_of profile f && is_some (values f);
  fixed = fixed;
}

-- the values of a frame that no function writes, and the time of its capture, in nanoseconds
abbrev pub fixed_of : ℕ → List ℕ → Fixed
fixed_of time frame = record {
  time = time;
  ether_type = ether_type frame;
  proto = protocol (packet frame);
  ip_len = total_len (packet frame);
  tcp_flags = control_bits (packet frame);
}
