-- Worked rows of a nexthop, computed by the definitions.
use Rattle.std.proofs.Common.{◌≡◌, ℕ, List, [], ◌∷◌, refl}
use Rattle.std.specs.Prelude.{Option, Some, None, codes}
use Rattle.packet_fields.specs.declared.field.Field.{Field}
use Rattle.packet_fields.specs.declared.field.Field.TheVariants.{LinkDst, LinkSrc, DstIp}
use Rattle.action_profile.specs.declared.kind.Kind.TheVariants as kinds
use Rattle.policy_text.specs.declared.policy.FunctionDecl.{FunctionDecl}
use Rattle.chain_walk.specs.Shown.{Values}
use Rattle.chain_walk.specs.Step.{stepped}
use Rattle.chain_walk.specs.declared.fixed.Fixed.{Fixed}
use Rattle.packet_function.specs.Deciding.{decided}
use Rattle.packet_function.specs.declared.deciding.DecidingLine.{DecidingLine}
use Rattle.packet_function.specs.declared.deciding.DecidingLine.TheVariants.{Rule}
use Rattle.function_lines.specs.KindLines.{refused_line}
use Rattle.nf_mark.specs.NexthopLines.{line_of, nexthop_lines}
use Rattle.nf_mark.specs.Nexthops.{nexthop_of, nexthop_behaviour, nexthop_decides}
use Rattle.nf_mark.specs.DecidingRules.{place_met}

-- 198.51.100.0/24 goes to 02:00:00:00:00:0a, and everything else to 02:00:00:00:00:0c
declared : FunctionDecl
declared = record {
  name = codes "next";
  line = 3;
  kind = kinds.Nexthop;
  settings =
      (record { line = 4; words = codes "rule" ∷ codes "198.51.100.0/24" ∷ codes "to" ∷ codes "02:00:00:00:00:0a" ∷ codes "from" ∷ codes "02:00:00:00:00:0B" ∷ [] }) ∷
      (record { line = 5; words = codes "rule" ∷ codes "0.0.0.0/0" ∷ codes "to" ∷ codes "02:00:00:00:00:0c" ∷ codes "from" ∷ codes "02:00:00:00:00:0d" ∷ [] }) ∷ [];
}

may_stand : refused_line nexthop_lines declared ≡ None
unfolding line_of declared
may_stand = refl

-- the addresses have their words before them, in this order, and six bytes
swapped_words : line_of (codes "rule" ∷ codes "0.0.0.0/0" ∷ codes "from" ∷ codes "02:00:00:00:00:0a" ∷ codes "to" ∷ codes "02:00:00:00:00:0b" ∷ []) ≡ None
unfolding line_of
swapped_words = refl

five_bytes : line_of (codes "rule" ∷ codes "0.0.0.0/0" ∷ codes "to" ∷ codes "02:00:00:00:0a" ∷ codes "from" ∷ codes "02:00:00:00:00:0b" ∷ []) ≡ None
unfolding line_of
five_bytes = refl

udp : Fixed
udp = record { time = 0; ether_type = Some 2048; proto = Some 17; ip_len = Some 28; tcp_flags = None }

-- a frame from 02:00:00:00:00:02 to 02:00:00:00:00:01
packet : Option (List ℕ) → Values
packet dst LinkDst = Some (2 ∷ 0 ∷ 0 ∷ 0 ∷ 0 ∷ 1 ∷ [])
packet dst LinkSrc = Some (2 ∷ 0 ∷ 0 ∷ 0 ∷ 0 ∷ 2 ∷ [])
packet dst DstIp = dst
packet dst f = None

written : Option (List ℕ) → Field → Option (List ℕ)
written dst = (stepped nexthop_behaviour udp (nexthop_of declared) (packet dst)).written

-- the first rule whose prefix holds the destination
first_to : written (Some (198 ∷ 51 ∷ 100 ∷ 7 ∷ [])) LinkDst ≡ Some (2 ∷ 0 ∷ 0 ∷ 0 ∷ 0 ∷ 10 ∷ [])
unfolding line_of declared udp packet written
first_to = refl

first_from : written (Some (198 ∷ 51 ∷ 100 ∷ 7 ∷ [])) LinkSrc ≡ Some (2 ∷ 0 ∷ 0 ∷ 0 ∷ 0 ∷ 11 ∷ [])
unfolding line_of declared udp packet written
first_from = refl

second_to : written (Some (198 ∷ 51 ∷ 101 ∷ 7 ∷ [])) LinkDst ≡ Some (2 ∷ 0 ∷ 0 ∷ 0 ∷ 0 ∷ 12 ∷ [])
unfolding line_of declared udp packet written
second_to = refl

-- a packet without a destination stays unchanged
no_destination : written None LinkDst ≡ None
unfolding line_of declared udp packet written
no_destination = refl

-- the rules that decide
deciding : Option (List ℕ) → List DecidingLine
deciding dst = decided nexthop_behaviour nexthop_decides udp (nexthop_of declared) (packet dst)

first_decides : deciding (Some (198 ∷ 51 ∷ 100 ∷ 7 ∷ [])) ≡ Rule 0 ∷ []
unfolding line_of declared udp packet deciding place_met
first_decides = refl

second_decides : deciding (Some (198 ∷ 51 ∷ 101 ∷ 7 ∷ [])) ≡ Rule 1 ∷ []
unfolding line_of declared udp packet deciding place_met
second_decides = refl

none_decides : deciding None ≡ []
unfolding line_of declared udp packet deciding place_met
none_decides = refl
