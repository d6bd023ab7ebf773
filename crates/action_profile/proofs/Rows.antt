-- Rows of the table, computed by the definitions.
use Rattle.std.proofs.Common.{◌≡◌, refl, true, false}
use Rattle.packet_fields.specs.declared.field.Field.TheVariants.{LinkDst, Tag, SrcIp, Payload}
use Rattle.action_profile.specs.declared.kind.Kind.TheVariants.{Firewall, Nat, Monitor, Nexthop, Tagger, Untagger, Encap, Decap}
use Rattle.action_profile.specs.Profiles.{reads_of, writes_of, profile_of}

firewall_reads_tags : reads_of (profile_of Firewall) Tag ≡ true
firewall_reads_tags = refl

firewall_writes_no_tags : writes_of (profile_of Firewall) Tag ≡ false
firewall_writes_no_tags = refl

-- bits 5 to 8: both addresses and both ports
nat_writes : (profile_of Nat).writes ≡ record { 0 = 0x1e0 }
nat_writes = refl

monitor_reads_no_data : reads_of (profile_of Monitor) Payload ≡ false
monitor_reads_no_data = refl

nexthop_writes : writes_of (profile_of Nexthop) LinkDst ≡ true
nexthop_writes = refl

-- to add or to remove a tag reads and writes the tags
tagger_reads : reads_of (profile_of Tagger) Tag ≡ true
tagger_reads = refl

untagger_writes : writes_of (profile_of Untagger) Tag ≡ true
untagger_writes = refl

untagger_reads_no_address : reads_of (profile_of Untagger) SrcIp ≡ false
untagger_reads_no_address = refl

-- both ends of a tunnel rewrite a packet whole and list no field
entry_is_whole : profile_of Encap ≡ record { reads = record { 0 = 0 }; writes = record { 0 = 0 }; drops = false; state = false; counts = false; adds = false; removes = false; whole = true }
entry_is_whole = refl

exit_is_whole : profile_of Decap ≡ profile_of Encap
exit_is_whole = refl
