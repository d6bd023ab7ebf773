-- Rows worked by hand: a frame that two chains would take.
use Rattle.std.proofs.Common.{◌≡◌, ℕ, List, [], ◌∷◌, ◌++◌, Some, None, refl}
use Rattle.packet_fields.specs.Frames.{tags_len}
use Rattle.packet_fields.specs.Packets.{has_transport, is_ipv4, is_ipv6}
use Rattle.policy_text.specs.declared.clause.Clause.TheVariants.{Src, Sport, TagId}
use Rattle.policy_text.specs.declared.clause.Match.{Match}
use Rattle.classifier.specs.Classes.{class_of}

abbrev addresses : List ℕ
addresses = 2 ∷ 0 ∷ 0 ∷ 0 ∷ 0 ∷ 2 ∷ 2 ∷ 0 ∷ 0 ∷ 0 ∷ 0 ∷ 1 ∷ []

-- UDP from 10.0.0.1, port 1000, to 10.0.0.2, port 53, without data and without tags
abbrev frame : List ℕ
frame = addresses
    ++ (8 ∷ 0 ∷ 0x45 ∷ 0 ∷ 0 ∷ 28 ∷ 0 ∷ 0 ∷ 0 ∷ 0 ∷ 64 ∷ 17 ∷ 0x66 ∷ 0xcf ∷ 10 ∷ 0 ∷ 0 ∷ 1 ∷ 10 ∷ 0 ∷ 0 ∷ 2 ∷ []
    ++ (3 ∷ 0xe8 ∷ 0 ∷ 53 ∷ 0 ∷ 8 ∷ 0 ∷ 0 ∷ []))

-- VLAN 7; 10.0.0.0/8; port 1000
abbrev tagged : Match
tagged = record { clauses = TagId 7 ∷ [] }

abbrev inside : Match
inside = record { clauses = Src 0x0a000000 8 ∷ [] }

abbrev of_port : Match
of_port = record { clauses = Sport 1000 1000 ∷ [] }

first_of_two : class_of (tagged ∷ inside ∷ of_port ∷ []) frame ≡ Some 1
unfolding tags_len is_ipv4 is_ipv6
first_of_two = refl

first_by_order : class_of (of_port ∷ tagged ∷ inside ∷ []) frame ≡ Some 0
unfolding tags_len is_ipv4 is_ipv6 has_transport
first_by_order = refl

of_none : class_of (tagged ∷ tagged ∷ []) frame ≡ None
unfolding tags_len
of_none = refl
