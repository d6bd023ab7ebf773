-- Rows of the table, computed by the definitions.
use Rattle.std.proofs.Common.{◌≡◌, refl, [], ◌∷◌, true}
use Rattle.packet_fields.specs.declared.field.Field.TheVariants.{Tag, Tos, Ttl, SrcIp, DstIp, SrcPort, DstPort, Payload}
use Rattle.action_profile.specs.declared.kind.Kind.TheVariants.{Firewall, Signature, Nat, Balancer, Monitor, Marker, Hop, Redactor, Tagger, Untagger}
use Rattle.action_profile.specs.FieldSets.{fields}
use Rattle.action_profile.specs.Profiles.{plain, profile_of}
use Rattle.dependency_table.specs.Actions.{all_actions, actions}
use Rattle.dependency_table.specs.Table.{pairs, first_forbidden, is_copied, copied, pair_of}
use Rattle.dependency_table.specs.declared.action.Action.TheVariants.{Pass, Read, Write, Drop, State, Count, Whole}
use Rattle.dependency_table.specs.declared.action.Answer.TheVariants.{Free, Copy, Forbidden}

-- the actions of a tagger, in the fields' order
tagger_actions : actions (profile_of Tagger) ≡ Read Tag ∷ Read SrcIp ∷ Write Tag ∷ []
unfolding actions all_actions
tagger_actions = refl

idle_actions : actions (plain [] []) ≡ Pass ∷ []
unfolding actions all_actions
idle_actions = refl

drop_before_state : pair_of (profile_of Firewall) (profile_of Nat) ≡ Forbidden Drop State
unfolding pair_of first_forbidden pairs actions all_actions copied is_copied
drop_before_state = refl

-- a monitor beside a firewall counts a packet only after it is known whether the firewall drops it
drop_before_count : pair_of (profile_of Firewall) (profile_of Monitor) ≡ Free
unfolding pair_of first_forbidden pairs actions all_actions copied is_copied
drop_before_count = refl

monitor_actions : actions (profile_of Monitor) ≡ Read SrcIp ∷ Read DstIp ∷ Read SrcPort ∷ Read DstPort ∷ Count ∷ []
unfolding actions all_actions
monitor_actions = refl

write_before_read : pair_of (profile_of Nat) (profile_of Monitor) ≡ Forbidden (Write SrcIp) (Read SrcIp)
unfolding pair_of first_forbidden pairs actions all_actions copied is_copied
write_before_read = refl

balancer_before_nat : pair_of (profile_of Balancer) (profile_of Nat) ≡ Forbidden (Write DstIp) (Read DstIp)
unfolding pair_of first_forbidden pairs actions all_actions copied is_copied
balancer_before_nat = refl

two_hops : pair_of (profile_of Hop) (profile_of Hop) ≡ Forbidden (Write Ttl) (Read Ttl)
unfolding pair_of first_forbidden pairs actions all_actions copied is_copied
two_hops = refl

two_that_drop : pair_of (profile_of Firewall) (profile_of Signature) ≡ Free
unfolding pair_of first_forbidden pairs actions all_actions copied is_copied
two_that_drop = refl

-- the data, read by one and written by the other
data_copied : pair_of (profile_of Signature) (profile_of Redactor) ≡ Copy (fields (Payload ∷ []))
unfolding pair_of first_forbidden pairs actions all_actions copied is_copied
data_copied = refl

-- the type of service, written by both
service_copied : pair_of (profile_of Marker) (profile_of Marker) ≡ Copy (fields (Tos ∷ []))
unfolding pair_of first_forbidden pairs actions all_actions copied is_copied
service_copied = refl

-- the tags, which the untagger both reads and writes
tags_copied : pair_of (profile_of Firewall) (profile_of Untagger) ≡ Copy (fields (Tag ∷ []))
unfolding pair_of first_forbidden pairs actions all_actions copied is_copied
tags_copied = refl

idle_before_whole : pair_of (plain [] []) (record (plain [] []) { whole = true }) ≡ Forbidden Pass Whole
unfolding pair_of first_forbidden pairs actions all_actions copied is_copied
idle_before_whole = refl
