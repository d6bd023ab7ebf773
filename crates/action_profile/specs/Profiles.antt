-- Believed: what each kind of function may do.
use Rattle.std.specs.Prelude.{List, [], ◌∷◌, Bool, true, false, ◌&&◌, ◌||◌}
use Rattle.packet_fields.specs.declared.field.Field.{Field}
use Rattle.packet_fields.specs.declared.field.Field.TheVariants.{LinkDst, LinkSrc, Tag, Tos, Ttl, SrcIp, DstIp, SrcPort, DstPort, Payload}
use Rattle.action_profile.specs.declared.kind.Kind.{Kind}
use Rattle.action_profile.specs.declared.kind.Kind.TheVariants.{Firewall, Signature, Nat, Balancer, Monitor, Limiter, Marker, Nexthop, Hop, Redactor, Tagger, Untagger, Encap, Decap}
use Rattle.action_profile.specs.declared.rights.Profile.{Profile}
use Rattle.action_profile.specs.FieldSets.{has, fields}

-- the list of tags
abbrev pub is_tag : Field → Bool
is_tag Tag = true
is_tag f = false

-- it adds or removes a tag
abbrev pub handles_tags : Profile → Bool
handles_tags p = p.adds || p.removes

-- a function reads a field; to add or to remove a tag reads the tags
abbrev pub reads_of : Profile → Field → Bool
reads_of p f = has p.reads f || (is_tag f && handles_tags p)

-- a function writes a field; to add or to remove a tag writes the tags
abbrev pub writes_of : Profile → Field → Bool
writes_of p f = has p.writes f || (is_tag f && handles_tags p)

-- reads and writes these fields, and does nothing else
abbrev pub plain : List Field → List Field → Profile
plain reads writes = record { reads = fields reads; writes = fields writes; drops = false; state = false; counts = false; adds = false; removes = false; whole = false }

-- both addresses and both ports
abbrev pub endpoints : List Field
endpoints = SrcIp ∷ DstIp ∷ SrcPort ∷ DstPort ∷ []

-- the kinds: what each reads, what it writes, and what else it may do
abbrev pub profile_of : Kind → Profile
profile_of Firewall = record (plain (Tag ∷ endpoints) []) { drops = true }
profile_of Signature = record (plain (Payload ∷ []) []) { drops = true }
profile_of Nat = record (plain endpoints endpoints) { drops = true; state = true }
profile_of Balancer = record (plain (SrcIp ∷ SrcPort ∷ DstIp ∷ []) (DstIp ∷ [])) { state = true }
profile_of Monitor = record (plain endpoints []) { counts = true }
profile_of Limiter = record (plain (SrcIp ∷ []) []) { drops = true; state = true }
profile_of Marker = plain endpoints (Tos ∷ [])
profile_of Nexthop = plain (DstIp ∷ []) (LinkDst ∷ LinkSrc ∷ [])
profile_of Hop = record (plain (Ttl ∷ []) (Ttl ∷ [])) { drops = true }
profile_of Redactor = plain (Payload ∷ []) (Payload ∷ [])
profile_of Tagger = record (plain (SrcIp ∷ []) []) { adds = true }
profile_of Untagger = record (plain [] []) { removes = true }
profile_of Encap = record (plain [] []) { whole = true }
profile_of Decap = record (plain [] []) { whole = true }
