-- Worked rows, computed by the definitions.
use Rattle.std.proofs.Common.{◌≡◌, ℕ, List, [], ◌∷◌, ◌++◌, refl, Some, None, true}
use Rattle.packet_fields.specs.Frames.{tags_len}
use Rattle.packet_fields.specs.Packets.{is_ipv4, is_ipv6, has_transport}
use Rattle.packet_fields.specs.Writing.{written_in, rest_of}
use Rattle.packet_fields.specs.declared.field.Field.{Field}
use Rattle.packet_fields.specs.declared.field.Field.TheVariants.{LinkDst, LinkSrc, Tag, Tos, Ttl, SrcIp, DstIp, SrcPort, DstPort, Payload}
use Rattle.action_profile.specs.FieldSets.{fields}
use Rattle.action_profile.specs.Profiles.{profile_of, endpoints, writes_of}
use Rattle.action_profile.specs.Modes.{mode_of, modes_of, has_touch, has_write}
use Rattle.action_profile.specs.declared.kind.Kind.TheVariants.{Balancer}
use Rattle.action_profile.specs.declared.parts.Mode.TheVariants.{Shared, Moved, Copied}
use Rattle.action_profile.specs.declared.parts.Touch.{Touch}
use Rattle.packet_version.specs.Parts.{as_list, as_map, values_of}
use Rattle.chain_walk.specs.Shown.{fixed_of}
use Rattle.packet_version.specs.Splitting.{PlainApart, split_parts, joined, packet_parts}
use Rattle.packet_version.specs.Versions.{HoldsNamed, names}
use Rattle.packet_version.specs.Dealing.{dealt, based, copies_due}

-- from 02:00:00:00:00:01 to 02:00:00:00:00:02
abbrev addresses : List ℕ
addresses = 2 ∷ 0 ∷ 0 ∷ 0 ∷ 0 ∷ 2 ∷ 2 ∷ 0 ∷ 0 ∷ 0 ∷ 0 ∷ 1 ∷ []

-- UDP from 10.0.0.1:1000 to 10.0.0.2:53, without data, 42 bytes
abbrev pub packet : List ℕ
packet =
    addresses ++ (8 ∷ 0 ∷ 0x45 ∷ 0 ∷ 0 ∷ 28 ∷ 0 ∷ 0 ∷ 0 ∷ 0 ∷ 64 ∷ 17 ∷ 0x66 ∷ 0xcf ∷ 10 ∷ 0 ∷ 0 ∷ 1 ∷ 10 ∷ 0 ∷ 0 ∷ 2 ∷ []) ++ (3 ∷ 0xe8 ∷ 0 ∷ 53 ∷ 0 ∷ 8 ∷ 0 ∷ 0 ∷ [])

abbrev short : List ℕ
short = addresses ++ 8 ∷ []

abbrev apart : ℕ → List ℕ → PlainApart
apart taggers frame = record { parts = as_list (split_parts taggers frame); rest = rest_of frame; fixed = fixed_of 7 frame }

joined_short : joined (apart 0 short) ≡ short
unfolding written_in tags_len is_ipv4 is_ipv6 has_transport
joined_short = refl

joined_packet : joined (apart 0 packet) ≡ packet
unfolding written_in tags_len is_ipv4 is_ipv6 has_transport
joined_packet = refl

-- the tags of a frame without any have room for those that two functions add
tag_room : packet_parts (apart 2 packet) Tag ≡ Some (record { bytes = []; writer = 0; room = 8 })
unfolding tags_len
tag_room = refl

-- a monitor beside a firewall that a balancer follows
abbrev pub watches : Touch
watches = record { reads = fields endpoints; writes = record { 0 = 0 } }

abbrev pub balances : Touch
balances = record { reads = fields (Tag ∷ endpoints); writes = fields (DstIp ∷ []) }

abbrev pub stage : List Touch
stage = watches ∷ balances ∷ []

destination_mode : mode_of stage DstIp ≡ Copied None
unfolding mode_of
destination_mode = refl

source_mode : mode_of stage SrcIp ≡ Shared
unfolding mode_of
source_mode = refl

untouched_mode : mode_of stage Payload ≡ Shared
unfolding mode_of
untouched_mode = refl

-- one branch alone, and two that both write
moved_mode : mode_of (watches ∷ record { reads = record { 0 = 0 }; writes = fields (Tos ∷ []) } ∷ []) Tos ≡ Moved 1
unfolding mode_of
moved_mode = refl

both_mode : mode_of (record { reads = record { 0 = 0 }; writes = fields (Tos ∷ []) } ∷ record { reads = record { 0 = 0 }; writes = fields (Tos ∷ []) } ∷ []) Tos ≡ Copied (Some 0)
unfolding mode_of
both_mode = refl

-- the destination is copied once, and no other field
one_copy : copies_due stage DstIp (split_parts 0 packet DstIp) ≡ 1
unfolding mode_of tags_len is_ipv4 is_ipv6
one_copy = refl

no_copy : copies_due stage SrcPort (split_parts 0 packet SrcPort) ≡ 0
unfolding mode_of tags_len is_ipv4 is_ipv6 has_transport
no_copy = refl

-- a frame without the field needs none
no_copy_of_nothing : copies_due stage DstIp (split_parts 0 short DstIp) ≡ 0
unfolding is_ipv4 is_ipv6
no_copy_of_nothing = refl

-- the monitor gets no tags and no data
watched : values_of (as_map (dealt (apart 0 packet) watches).parts) Tag ≡ None
unfolding tags_len
watched = refl

watched_port : values_of (as_map (dealt (apart 0 packet) watches).parts) DstPort ≡ Some (0 ∷ 53 ∷ [])
unfolding tags_len is_ipv4 is_ipv6 has_transport
watched_port = refl

-- what no branch touches stays in the base
kept_data : values_of (packet_parts (based stage (apart 0 packet))) Payload ≡ Some []
unfolding mode_of tags_len is_ipv4 is_ipv6 has_transport
kept_data = refl

-- a branch of a balancer holds what a balancer names
pub balancer_holds : HoldsNamed (profile_of Balancer) balances
balancer_holds = record { touched = touched; written = written }
  where
    touched : (f : Field) → names (profile_of Balancer) f ≡ true → has_touch f balances ≡ true
    touched LinkDst named = named
    touched LinkSrc named = named
    touched Tag named = refl
    touched Tos named = named
    touched Ttl named = named
    touched SrcIp named = refl
    touched DstIp named = refl
    touched SrcPort named = refl
    touched DstPort named = refl
    touched Payload named = named

    written : (f : Field) → writes_of (profile_of Balancer) f ≡ true → has_write f balances ≡ true
    written LinkDst writes = writes
    written LinkSrc writes = writes
    written Tag writes = writes
    written Tos writes = writes
    written Ttl writes = writes
    written SrcIp writes = writes
    written DstIp writes = refl
    written SrcPort writes = writes
    written DstPort writes = writes
    written Payload writes = writes

-- a monitor beside a balancer: the modes of all fields
abbrev pub beside : List Touch
beside = record { reads = record { 0 = 0x1e0 }; writes = record { 0 = 0 } } ∷ record { reads = record { 0 = 0x1e0 }; writes = record { 0 = 64 } } ∷ []

pub beside_modes : modes_of beside ≡ Shared ∷ Shared ∷ Shared ∷ Shared ∷ Shared ∷ Shared ∷ Copied None ∷ Shared ∷ Shared ∷ Shared ∷ []
unfolding mode_of
beside_modes = refl
