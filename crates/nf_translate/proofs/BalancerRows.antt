-- Worked rows of a balancer, computed by the definitions.
use Rattle.std.proofs.Common.{◌≡◌, ℕ, List, [], ◌∷◌, refl}
use Rattle.std.specs.Prelude.{codes, Some, None}
use Rattle.std.specs.Fmt.{digits}
use Rattle.std.specs.Net.Addr.{ipv4_bits}
use Rattle.std.specs.Net.Text.{hex}
use Rattle.packet_fields.specs.declared.field.Field.TheVariants.{SrcIp, DstIp, SrcPort}
use Rattle.action_profile.specs.declared.kind.Kind.TheVariants as kinds
use Rattle.policy_text.specs.Addresses6.{address6_of}
use Rattle.policy_text.specs.declared.policy.FunctionDecl.{FunctionDecl}
use Rattle.policy_text.specs.declared.policy.Setting.{Setting}
use Rattle.chain_walk.specs.Shown.{Values}
use Rattle.chain_walk.specs.Step.{Step, stepped}
use Rattle.chain_walk.specs.declared.fixed.Fixed.{Fixed}
use Rattle.function_lines.specs.KindLines.{refused_line, refused_lines}
use Rattle.first_sight.specs.Addresses.{dotted}
use Rattle.nf_translate.specs.BalancerLines.{line_of, balancer_lines}
use Rattle.packet_function.specs.Deciding.{decided}
use Rattle.packet_function.specs.declared.deciding.DecidingLine.{DecidingLine}
use Rattle.packet_function.specs.declared.deciding.DecidingLine.TheVariants.{Rule}
use Rattle.nf_translate.specs.Balancers.{PlainBalancer, balancer_of, balancer_behaviour, balancer_decides, flow_line, flow_lines}

-- 10.0.0.1, and the backends 10.0.1.1 and 10.0.1.2
declared : FunctionDecl
declared = record {
  name = codes "lb";
  line = 3;
  kind = kinds.Balancer;
  settings =
      (record { line = 4; words = codes "set" ∷ codes "vip" ∷ codes "10.0.0.1" ∷ [] }) ∷
      (record { line = 5; words = codes "rule" ∷ codes "backend" ∷ codes "10.0.1.1" ∷ [] }) ∷
      (record { line = 6; words = codes "rule" ∷ codes "backend" ∷ codes "10.0.1.2" ∷ [] }) ∷ [];
}

may_stand : refused_line balancer_lines declared ≡ None
unfolding line_of declared
may_stand = refl

-- without a backend the `fn` line is refused
no_backend : refused_line balancer_lines (record { name = codes "lb"; line = 3; kind = kinds.Balancer; settings = (record { line = 4; words = codes "set" ∷ codes "vip" ∷ codes "10.0.0.1" ∷ [] }) ∷ [] }) ≡ Some 3
unfolding line_of
no_backend = refl

-- a prefix is no address
no_address : line_of (codes "rule" ∷ codes "backend" ∷ codes "10.0.1.0/24" ∷ []) ≡ None
unfolding line_of address6_of
no_address = refl

-- what the packet of a TCP flow shows
tcp : Fixed
tcp = record { time = 0; ether_type = Some 2048; proto = Some 6; ip_len = Some 40; tcp_flags = Some 2 }

packet : List ℕ → List ℕ → List ℕ → Values
packet source port destination SrcIp = Some source
packet source port destination SrcPort = Some port
packet source port destination DstIp = Some destination
packet source port destination f = None

step : PlainBalancer → Values → Step PlainBalancer
step b v = stepped balancer_behaviour tcp b v

first : Values
first = packet (192 ∷ 168 ∷ 0 ∷ 7 ∷ []) (1 ∷ 0 ∷ []) (10 ∷ 0 ∷ 0 ∷ 1 ∷ [])

other : Values
other = packet (192 ∷ 168 ∷ 0 ∷ 7 ∷ []) (1 ∷ 1 ∷ []) (10 ∷ 0 ∷ 0 ∷ 1 ∷ [])

once : PlainBalancer
once = (step (balancer_of declared) first).after

twice : PlainBalancer
twice = (step once other).after

-- the first flow goes to the first backend, the second to the second, and the first stays where it was
first_written : (step (balancer_of declared) first).written DstIp ≡ Some (10 ∷ 0 ∷ 1 ∷ 1 ∷ [])
unfolding line_of declared step first packet tcp
first_written = refl

second_written : (step once other).written DstIp ≡ Some (10 ∷ 0 ∷ 1 ∷ 2 ∷ [])
unfolding line_of declared step once first other packet tcp
second_written = refl

again_written : (step twice first).written DstIp ≡ Some (10 ∷ 0 ∷ 1 ∷ 1 ∷ [])
unfolding line_of declared step twice once first other packet tcp
again_written = refl

-- a packet to another address goes on unchanged, and is no flow
passed_by : (step once (packet (192 ∷ 168 ∷ 0 ∷ 9 ∷ []) (1 ∷ 0 ∷ []) (10 ∷ 0 ∷ 0 ∷ 2 ∷ []))).written DstIp ≡ None
unfolding line_of declared step once first packet tcp
passed_by = refl

two_lines : flow_lines twice ≡ codes "  flow 6 192.168.0.7 256 backend 10.0.1.1\n  flow 6 192.168.0.7 257 backend 10.0.1.2\n"
unfolding line_of declared step twice once first other packet tcp flow_line dotted digits ipv4_bits
two_lines = refl

-- the same with IPv6: 2001:db8::2, and the backend 2001:db8::9 (RFC 3849)
declared6 : FunctionDecl
declared6 = record {
  name = codes "lb";
  line = 3;
  kind = kinds.Balancer;
  settings =
      (record { line = 4; words = codes "set" ∷ codes "vip" ∷ codes "2001:db8::2" ∷ [] }) ∷
      (record { line = 5; words = codes "rule" ∷ codes "backend" ∷ codes "2001:db8::9" ∷ [] }) ∷ [];
}

may_stand6 : refused_line balancer_lines declared6 ≡ None
unfolding line_of address6_of declared6
may_stand6 = refl

-- what the packet of a UDP flow shows, from 2001:db8::1 to the virtual address
udp : Fixed
udp = record { time = 0; ether_type = Some 34525; proto = Some 17; ip_len = Some 48; tcp_flags = None }

address6 : ℕ → List ℕ
address6 host = 32 ∷ 1 ∷ 13 ∷ 184 ∷ 0 ∷ 0 ∷ 0 ∷ 0 ∷ 0 ∷ 0 ∷ 0 ∷ 0 ∷ 0 ∷ 0 ∷ 0 ∷ host ∷ []

step6 : Values → Step PlainBalancer
step6 v = stepped balancer_behaviour udp (balancer_of declared6) v

first6 : Values
first6 = packet (address6 1) (3 ∷ 232 ∷ []) (address6 2)

written6 : (step6 first6).written DstIp ≡ Some (address6 9)
unfolding line_of address6_of declared6 step6 first6 address6 packet udp
written6 = refl

one_line6 : flow_lines (step6 first6).after ≡ codes "  flow 17 2001:db8:0:0:0:0:0:1 1000 backend 2001:db8:0:0:0:0:0:9\n"
unfolding line_of address6_of declared6 step6 first6 address6 packet udp flow_line digits hex
one_line6 = refl

-- a packet to an address that has the same first eight bytes goes on unchanged
passed_by6 : (step6 (packet (address6 1) (3 ∷ 232 ∷ []) (address6 3))).written DstIp ≡ None
unfolding line_of address6_of declared6 step6 address6 packet udp
passed_by6 = refl

-- a declaration at line 3, and its lines
lines : List Setting → FunctionDecl
lines settings = record { name = codes "lb"; line = 3; kind = kinds.Balancer; settings = settings }

vip : ℕ → List ℕ → Setting
vip line address = record { line = line; words = codes "set" ∷ codes "vip" ∷ address ∷ [] }

backend : ℕ → List ℕ → Setting
backend line address = record { line = line; words = codes "rule" ∷ codes "backend" ∷ address ∷ [] }

-- a backend of the other version is refused, and the `fn` line isn't, though there is no other backend
other_version : refused_lines balancer_lines (lines (vip 4 (codes "10.0.0.1") ∷ backend 5 (codes "2001:db8::9") ∷ [])) ≡ 5 ∷ []
unfolding line_of address6_of lines vip backend
other_version = refl

other_version6 : refused_lines balancer_lines (lines (vip 4 (codes "2001:db8::2") ∷ backend 5 (codes "2001:db8::9") ∷ backend 6 (codes "10.0.1.1") ∷ [])) ≡ 6 ∷ []
unfolding line_of address6_of lines vip backend
other_version6 = refl

-- so is one before the virtual address
backend_before : refused_lines balancer_lines (lines (backend 4 (codes "2001:db8::9") ∷ backend 5 (codes "10.0.1.1") ∷ vip 6 (codes "10.0.0.1") ∷ [])) ≡ 4 ∷ []
unfolding line_of address6_of lines vip backend
backend_before = refl

-- the first virtual address counts, though a second is refused
first_counts : refused_lines balancer_lines (lines (vip 4 (codes "10.0.0.1") ∷ vip 5 (codes "2001:db8::2") ∷ backend 6 (codes "10.0.1.1") ∷ [])) ≡ 5 ∷ []
unfolding line_of address6_of lines vip backend
first_counts = refl

-- without a valid virtual address, no backend is refused, but the `fn` line is
unread : refused_lines balancer_lines (lines (vip 4 (codes "10.0.0") ∷ backend 5 (codes "10.0.1.1") ∷ backend 6 (codes "2001:db8::9") ∷ [])) ≡ 4 ∷ 3 ∷ []
unfolding line_of address6_of lines vip backend
unread = refl

-- the lines that decide: the backends take turns, and a flow that is known stays with its backend
decided_by : PlainBalancer → Values → List DecidingLine
decided_by b v = decided balancer_behaviour balancer_decides tcp b v

first_by : decided_by (balancer_of declared) first ≡ Rule 0 ∷ []
unfolding line_of declared decided_by first packet tcp
first_by = refl

second_by : decided_by once other ≡ Rule 1 ∷ []
unfolding line_of declared decided_by step once first other packet tcp
second_by = refl

again_by : decided_by twice first ≡ Rule 0 ∷ []
unfolding line_of declared decided_by step twice once first other packet tcp
again_by = refl

-- no line decides on a packet to another address
passed_by_none : decided_by once (packet (192 ∷ 168 ∷ 0 ∷ 9 ∷ []) (1 ∷ 0 ∷ []) (10 ∷ 0 ∷ 0 ∷ 2 ∷ [])) ≡ []
unfolding line_of declared decided_by step once first packet tcp
passed_by_none = refl
