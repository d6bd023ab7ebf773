-- Worked rows of a marker, computed by the definitions.
use Rattle.std.proofs.Common.{◌≡◌, ℕ, List, [], ◌∷◌, refl}
use Rattle.std.specs.Prelude.{Option, Some, None, codes}
use Rattle.packet_fields.specs.declared.field.Field.TheVariants.{Tos, SrcIp, DstIp}
use Rattle.action_profile.specs.declared.kind.Kind.TheVariants as kinds
use Rattle.policy_text.specs.declared.policy.FunctionDecl.{FunctionDecl}
use Rattle.chain_walk.specs.Shown.{Values}
use Rattle.chain_walk.specs.Step.{stepped}
use Rattle.chain_walk.specs.declared.fixed.Fixed.{Fixed}
use Rattle.packet_function.specs.Deciding.{decided}
use Rattle.packet_function.specs.declared.deciding.DecidingLine.{DecidingLine}
use Rattle.packet_function.specs.declared.deciding.DecidingLine.TheVariants.{Rule}
use Rattle.function_lines.specs.KindLines.{refused_line}
use Rattle.nf_mark.specs.MarkerLines.{line_of, marker_lines}
use Rattle.nf_mark.specs.Markers.{marker_of, marker_behaviour, marker_decides, tos_for}
use Rattle.nf_mark.specs.DecidingRules.{place_met}

-- packets from 10.0.0.9 get 16, and else those to 198.51.100.0/30 get 184 (expedited forwarding, RFC 3246)
declared : FunctionDecl
declared = record {
  name = codes "mark";
  line = 3;
  kind = kinds.Marker;
  settings =
      (record { line = 4; words = codes "rule" ∷ codes "tos" ∷ codes "16" ∷ codes "src" ∷ codes "10.0.0.9" ∷ [] }) ∷
      (record { line = 5; words = codes "rule" ∷ codes "tos" ∷ codes "184" ∷ codes "dst" ∷ codes "198.51.100.0/30" ∷ [] }) ∷ [];
}

may_stand : refused_line marker_lines declared ≡ None
unfolding line_of declared
may_stand = refl

-- a clause on tags is refused, and so is a number of more than eight bits
no_tag : line_of (codes "rule" ∷ codes "tos" ∷ codes "8" ∷ codes "src" ∷ codes "10.0.0.9" ∷ codes "tag" ∷ codes "7" ∷ []) ≡ None
unfolding line_of
no_tag = refl

no_bare_tag : line_of (codes "rule" ∷ codes "tos" ∷ codes "8" ∷ codes "tag" ∷ codes "none" ∷ []) ≡ None
unfolding line_of
no_bare_tag = refl

no_wide_number : line_of (codes "rule" ∷ codes "tos" ∷ codes "256" ∷ []) ≡ None
unfolding line_of
no_wide_number = refl

-- a rule without clauses
any_packet : line_of (codes "rule" ∷ codes "tos" ∷ codes "08" ∷ []) ≡ Some (record { tos = 8; fit = record { clauses = [] } })
unfolding line_of
any_packet = refl

udp : Fixed
udp = record { time = 0; ether_type = Some 2048; proto = Some 17; ip_len = Some 28; tcp_flags = None }

packet : Option (List ℕ) → List ℕ → List ℕ → Values
packet tos src dst Tos = tos
packet tos src dst SrcIp = Some src
packet tos src dst DstIp = Some dst
packet tos src dst f = None

-- what is written as the type of service
written : Option (List ℕ) → List ℕ → List ℕ → Option (List ℕ)
written tos src dst = (stepped marker_behaviour udp (marker_of declared) (packet tos src dst)).written Tos

-- a packet that meets both rules gets the first one's value
first_rule : written (Some (0 ∷ [])) (10 ∷ 0 ∷ 0 ∷ 9 ∷ []) (198 ∷ 51 ∷ 100 ∷ 3 ∷ []) ≡ Some (16 ∷ [])
unfolding line_of declared udp packet written tos_for
first_rule = refl

second_rule : written (Some (0 ∷ [])) (10 ∷ 0 ∷ 0 ∷ 8 ∷ []) (198 ∷ 51 ∷ 100 ∷ 3 ∷ []) ≡ Some (184 ∷ [])
unfolding line_of declared udp packet written tos_for
second_rule = refl

-- one that meets none keeps its own
no_rule : written (Some (0 ∷ [])) (10 ∷ 0 ∷ 0 ∷ 8 ∷ []) (198 ∷ 51 ∷ 100 ∷ 4 ∷ []) ≡ None
unfolding line_of declared udp packet written tos_for
no_rule = refl

-- and if there is no type of service, nothing is written
no_field : written None (10 ∷ 0 ∷ 0 ∷ 9 ∷ []) (198 ∷ 51 ∷ 100 ∷ 3 ∷ []) ≡ None
unfolding line_of declared udp packet written tos_for
no_field = refl

-- the rules that decide
deciding : Option (List ℕ) → List ℕ → List ℕ → List DecidingLine
deciding tos src dst = decided marker_behaviour marker_decides udp (marker_of declared) (packet tos src dst)

first_decides : deciding (Some (0 ∷ [])) (10 ∷ 0 ∷ 0 ∷ 9 ∷ []) (198 ∷ 51 ∷ 100 ∷ 3 ∷ []) ≡ Rule 0 ∷ []
unfolding line_of declared udp packet deciding place_met
first_decides = refl

second_decides : deciding (Some (0 ∷ [])) (10 ∷ 0 ∷ 0 ∷ 8 ∷ []) (198 ∷ 51 ∷ 100 ∷ 3 ∷ []) ≡ Rule 1 ∷ []
unfolding line_of declared udp packet deciding place_met
second_decides = refl

none_decides : deciding (Some (0 ∷ [])) (10 ∷ 0 ∷ 0 ∷ 8 ∷ []) (198 ∷ 51 ∷ 100 ∷ 4 ∷ []) ≡ []
unfolding line_of declared udp packet deciding place_met
none_decides = refl

-- no rule decides on a packet that has no type of service
none_without_field : deciding None (10 ∷ 0 ∷ 0 ∷ 9 ∷ []) (198 ∷ 51 ∷ 100 ∷ 3 ∷ []) ≡ []
unfolding line_of declared udp packet deciding place_met
none_without_field = refl
