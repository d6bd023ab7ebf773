-- Worked rows of a translation, computed by the definitions.
use Rattle.std.proofs.Common.{◌≡◌, ℕ, List, [], ◌∷◌, refl}
use Rattle.std.specs.Prelude.{codes, Some, None}
use Rattle.std.specs.Fmt.{digits}
use Rattle.packet_fields.specs.declared.field.Field.TheVariants.{SrcIp, DstIp, SrcPort, DstPort}
use Rattle.action_profile.specs.declared.kind.Kind.TheVariants as kinds
use Rattle.policy_text.specs.declared.policy.FunctionDecl.{FunctionDecl}
use Rattle.chain_walk.specs.Shown.{Values}
use Rattle.chain_walk.specs.Step.{Step, stepped}
use Rattle.chain_walk.specs.declared.fixed.Fixed.{Fixed}
use Rattle.chain_walk.specs.declared.verdict.Verdict.TheVariants.{Drop}
use Rattle.function_lines.specs.KindLines.{refused_line}
use Rattle.first_sight.specs.Addresses.{dotted}
use Rattle.nf_translate.specs.NatLines.{line_of, nat_lines}
use Rattle.packet_function.specs.Deciding.{decided}
use Rattle.packet_function.specs.declared.deciding.DecidingLine.{DecidingLine}
use Rattle.packet_function.specs.declared.deciding.DecidingLine.TheVariants as deciding
use Rattle.packet_function.specs.declared.deciding.SettingKey.TheVariants as keys
use Rattle.nf_translate.specs.Nats.{PlainNat, nat_of, nat_behaviour, nat_decides, mapping_line, mapping_lines, passed}

-- 10.0.0.0/8 inside, and the ports 4000 and 4001 of 203.0.113.1
declared : FunctionDecl
declared = record {
  name = codes "out";
  line = 3;
  kind = kinds.Nat;
  settings =
      (record { line = 4; words = codes "set" ∷ codes "inside" ∷ codes "10.0.0.0/8" ∷ [] }) ∷
      (record { line = 5; words = codes "set" ∷ codes "public" ∷ codes "203.0.113.1" ∷ [] }) ∷
      (record { line = 6; words = codes "set" ∷ codes "ports" ∷ codes "4000-4001" ∷ [] }) ∷ [];
}

may_stand : refused_line nat_lines declared ≡ None
unfolding line_of declared
may_stand = refl

-- without ports the `fn` line is refused
no_ports : refused_line nat_lines (record {
  name = codes "out";
  line = 3;
  kind = kinds.Nat;
  settings =
      (record { line = 4; words = codes "set" ∷ codes "inside" ∷ codes "10.0.0.0/8" ∷ [] }) ∷
      (record { line = 5; words = codes "set" ∷ codes "public" ∷ codes "203.0.113.1" ∷ [] }) ∷ [];
}) ≡ Some 3
unfolding line_of
no_ports = refl

-- one port alone, and port 0, are refused
no_dash : line_of (codes "set" ∷ codes "ports" ∷ codes "80" ∷ []) ≡ None
unfolding line_of
no_dash = refl

from_zero : line_of (codes "set" ∷ codes "ports" ∷ codes "0-5" ∷ []) ≡ None
unfolding line_of
from_zero = refl

-- what the packet of a flow shows, and no other value
with_protocol : ℕ → Fixed
with_protocol proto = record { time = 0; ether_type = Some 2048; proto = Some proto; ip_len = Some 40; tcp_flags = None }

packet : List ℕ → List ℕ → List ℕ → List ℕ → Values
packet src sport dst dport SrcIp = Some src
packet src sport dst dport SrcPort = Some sport
packet src sport dst dport DstIp = Some dst
packet src sport dst dport DstPort = Some dport
packet src sport dst dport f = None

step : PlainNat → ℕ → Values → Step PlainNat
step n proto v = stepped nat_behaviour (with_protocol proto) n v

-- from the port 256 of the host 10.0.0.5, 10.0.0.6 or 10.0.0.7 to a server's port 80
leaves : ℕ → Values
leaves host = packet (10 ∷ 0 ∷ 0 ∷ host ∷ []) (1 ∷ 0 ∷ []) (198 ∷ 51 ∷ 100 ∷ 1 ∷ []) (0 ∷ 80 ∷ [])

-- from the server to the port 4000 of the public address
returns : Values
returns = packet (198 ∷ 51 ∷ 100 ∷ 1 ∷ []) (0 ∷ 80 ∷ []) (203 ∷ 0 ∷ 113 ∷ 1 ∷ []) (15 ∷ 160 ∷ [])

once : PlainNat
once = (step (nat_of declared) 6 (leaves 5)).after

twice : PlainNat
twice = (step once 6 (leaves 6)).after

-- the first endpoint has the first port, and the second the second
first_address : (step (nat_of declared) 6 (leaves 5)).written SrcIp ≡ Some (203 ∷ 0 ∷ 113 ∷ 1 ∷ [])
unfolding line_of declared step leaves packet with_protocol
first_address = refl

first_port : (step (nat_of declared) 6 (leaves 5)).written SrcPort ≡ Some (15 ∷ 160 ∷ [])
unfolding line_of declared step leaves packet with_protocol
first_port = refl

second_port : (step once 6 (leaves 6)).written SrcPort ≡ Some (15 ∷ 161 ∷ [])
unfolding line_of declared step once leaves packet with_protocol
second_port = refl

-- a known endpoint keeps its port, and a third finds none left
again_port : (step twice 6 (leaves 5)).written SrcPort ≡ Some (15 ∷ 160 ∷ [])
unfolding line_of declared step twice once leaves packet with_protocol
again_port = refl

none_left : (step twice 6 (leaves 7)).verdict ≡ Drop
unfolding line_of declared step twice once leaves packet with_protocol
none_left = refl

-- a reply goes to the endpoint that has the port, if it is of its protocol
back_address : (step twice 6 returns).written DstIp ≡ Some (10 ∷ 0 ∷ 0 ∷ 5 ∷ [])
unfolding line_of declared step twice once leaves returns packet with_protocol
back_address = refl

back_port : (step twice 6 returns).written DstPort ≡ Some (1 ∷ 0 ∷ [])
unfolding line_of declared step twice once leaves returns packet with_protocol
back_port = refl

other_protocol : (step twice 17 returns).verdict ≡ Drop
unfolding line_of declared step twice once leaves returns packet with_protocol
other_protocol = refl

nobody_there : (step (nat_of declared) 6 returns).verdict ≡ Drop
unfolding line_of declared step returns packet with_protocol
nobody_there = refl

-- a packet of IPv6, here from 2001:db8::1 to 2001:db8::2 (RFC 3849), passes unchanged
address6 : ℕ → List ℕ
address6 host = 32 ∷ 1 ∷ 13 ∷ 184 ∷ 0 ∷ 0 ∷ 0 ∷ 0 ∷ 0 ∷ 0 ∷ 0 ∷ 0 ∷ 0 ∷ 0 ∷ 0 ∷ host ∷ []

passes6 : step twice 17 (packet (address6 1) (1 ∷ 0 ∷ []) (address6 2) (15 ∷ 160 ∷ [])) ≡ passed twice
unfolding step address6 packet with_protocol
passes6 = refl

two_lines : mapping_lines twice ≡ codes "  map 6 10.0.0.5 256 port 4000\n  map 6 10.0.0.6 256 port 4001\n"
unfolding line_of declared step twice once leaves packet with_protocol mapping_line dotted digits
two_lines = refl

-- the lines that decide: a known endpoint leaves by `set inside`, and for a third the ports ran out
lines : PlainNat → ℕ → Values → List DecidingLine
lines n proto v = decided nat_behaviour nat_decides (with_protocol proto) n v

leaves_by : lines twice 6 (leaves 5) ≡ deciding.Set keys.Inside ∷ []
unfolding line_of declared lines step twice once leaves packet with_protocol
leaves_by = refl

ran_out_by : lines twice 6 (leaves 7) ≡ deciding.Set keys.Ports ∷ []
unfolding line_of declared lines step twice once leaves packet with_protocol
ran_out_by = refl

-- a reply comes in by `set public`, and the declaration drops what is sent to nobody
back_by : lines twice 6 returns ≡ deciding.Set keys.Public ∷ []
unfolding line_of declared lines step twice once leaves returns packet with_protocol
back_by = refl

nobody_by : lines (nat_of declared) 6 returns ≡ deciding.Declaration ∷ []
unfolding line_of declared lines returns packet with_protocol
nobody_by = refl

passes6_by : lines twice 17 (packet (address6 1) (1 ∷ 0 ∷ []) (address6 2) (15 ∷ 160 ∷ [])) ≡ []
unfolding lines address6 packet with_protocol
passes6_by = refl
