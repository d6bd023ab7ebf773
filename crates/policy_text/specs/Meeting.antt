-- Believed: which packets meet a clause.
use Rattle.std.specs.Prelude.{ℕ, ◌-◌, ◌/◌, ◌^◌, Bool, true, false, ◌==◌, ◌&&◌, nat_le, bit_and, Option, is_some}
use Rattle.std.specs.Option.{option_map_or}
use Rattle.std.specs.List.{list_all}
use Rattle.policy_text.specs.declared.clause.Clause.{Clause}
use Rattle.policy_text.specs.declared.clause.Clause.TheVariants.{Src, Dst, Src6, Dst6, Sport, Dport, Proto, TagId, NoTag, Version4, Version6, Flags}
use Rattle.policy_text.specs.declared.clause.Match.{Match}
use Rattle.policy_text.specs.declared.seen.Seen.{Seen}
use Rattle.policy_text.specs.declared.seen.TagSeen.{TagSeen}
use Rattle.policy_text.specs.declared.seen.TagSeen.TheVariants.{Bare, Id}

-- the first bits of an address of this width, all of them if there are no more
abbrev pub first_bits : ℕ → ℕ → ℕ → ℕ
first_bits width bits address = address / 2 ^ (width - bits)

-- the IPv4 address, of 32 bits (RFC 791), begins with the prefix's first bits
abbrev pub is_within : ℕ → ℕ → ℕ → Bool
is_within prefix bits address = first_bits 32 bits address == first_bits 32 bits prefix

-- the IPv6 address, of 128 bits (RFC 4291, 2.3), begins with the prefix's first bits
abbrev pub is_within6 : ℕ → ℕ → ℕ → Bool
is_within6 prefix bits address = first_bits 128 bits address == first_bits 128 bits prefix

abbrev pub is_between : ℕ → ℕ → ℕ → Bool
is_between low high port = nat_le low port && nat_le port high

abbrev pub has_id : ℕ → TagSeen → Bool
has_id id (Id n) = n == id
has_id id tag = false

abbrev pub is_bare : TagSeen → Bool
is_bare Bare = true
is_bare tag = false

abbrev pub is_type : ℕ → Option ℕ → Bool
is_type number ether_type = option_map_or (λ t. t == number) ether_type false

-- of TCP's control bits that are in the mask (RFC 793, 3.1), exactly these are 1
abbrev pub has_bits : ℕ → ℕ → ℕ → Bool
has_bits mask set flags = bit_and flags mask == set

-- A clause on an absent value isn't met: so a packet of one version of IP doesn't meet a prefix of the other.
abbrev pub is_met : Seen → Clause → Bool
is_met seen (Src prefix bits) = option_map_or (is_within prefix bits) seen.src false
is_met seen (Dst prefix bits) = option_map_or (is_within prefix bits) seen.dst false
is_met seen (Src6 prefix bits) = option_map_or (is_within6 prefix bits) seen.src6 false
is_met seen (Dst6 prefix bits) = option_map_or (is_within6 prefix bits) seen.dst6 false
is_met seen (Sport low high) = option_map_or (is_between low high) seen.sport false
is_met seen (Dport low high) = option_map_or (is_between low high) seen.dport false
is_met seen (Proto p) = option_map_or (λ x. x == p) seen.proto false
is_met seen (TagId id) = has_id id seen.tag
is_met seen NoTag = is_bare seen.tag
is_met seen Version4 = is_type 0x0800 seen.ether_type && is_some seen.src
is_met seen Version6 = is_type 0x86DD seen.ether_type && is_some seen.src6
is_met seen (Flags mask set) = option_map_or (has_bits mask set) seen.tcp_flags false

-- every clause is met
abbrev pub is_fitting : Match → Seen → Bool
is_fitting fit seen = list_all (is_met seen) fit.clauses
