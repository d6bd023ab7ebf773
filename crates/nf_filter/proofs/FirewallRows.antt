-- Worked rows of a firewall, computed by the definitions.
use Rattle.std.proofs.Common.{◌≡◌, ℕ, List, [], ◌∷◌, refl}
use Rattle.std.specs.Prelude.{codes, Some, None}
use Rattle.packet_fields.specs.declared.field.Field.TheVariants.{SrcIp}
use Rattle.action_profile.specs.declared.kind.Kind.TheVariants as kinds
use Rattle.policy_text.specs.declared.policy.FunctionDecl.{FunctionDecl}
use Rattle.chain_walk.specs.Shown.{Values}
use Rattle.chain_walk.specs.Step.{stepped}
use Rattle.chain_walk.specs.declared.fixed.Fixed.{Fixed}
use Rattle.chain_walk.specs.declared.verdict.Verdict.{Verdict}
use Rattle.chain_walk.specs.declared.verdict.Verdict.TheVariants.{Pass, Drop}
use Rattle.function_lines.specs.KindLines.{refused_line}
use Rattle.packet_function.specs.Deciding.{decided as decided_by}
use Rattle.packet_function.specs.declared.deciding.DecidingLine.{DecidingLine}
use Rattle.packet_function.specs.declared.deciding.DecidingLine.TheVariants as deciding
use Rattle.packet_function.specs.declared.deciding.SettingKey.TheVariants as keys
use Rattle.nf_filter.specs.Firewalls.{firewall_of, firewall_behaviour, firewall_decides, passes}
use Rattle.nf_filter.specs.Lines.{line_of, firewall_lines}

-- 10.0.0.9 may open connections of TCP, and no other source of IPv4; nothing of IPv6 passes
declared : FunctionDecl
declared = record {
  name = codes "fw";
  line = 3;
  kind = kinds.Firewall;
  settings =
      (record { line = 4; words = codes "rule" ∷ codes "allow" ∷ codes "src" ∷ codes "10.0.0.9" ∷ [] }) ∷
      (record { line = 5; words = codes "rule" ∷ codes "deny" ∷ codes "flags" ∷ codes "syn" ∷ codes "!ack" ∷ [] }) ∷
      (record { line = 6; words = codes "rule" ∷ codes "deny" ∷ codes "version" ∷ codes "6" ∷ [] }) ∷ [];
}

may_stand : refused_line firewall_lines declared ≡ None
unfolding line_of declared
may_stand = refl

-- what a packet of TCP shows, of this EtherType and with these flags
tcp : ℕ → ℕ → Fixed
tcp ether_type flags = record { time = 0; ether_type = Some ether_type; proto = Some 6; ip_len = Some 40; tcp_flags = Some flags }

from : List ℕ → Values
from source SrcIp = Some source
from source f = None

decided : ℕ → ℕ → List ℕ → Verdict
decided ether_type flags source = (stepped firewall_behaviour (tcp ether_type flags) (firewall_of declared) (from source)).verdict

-- the first rule decides, though the second is met too
allowed_opens : decided 0x0800 2 (10 ∷ 0 ∷ 0 ∷ 9 ∷ []) ≡ Pass
unfolding line_of declared from decided tcp passes
allowed_opens = refl

other_opens : decided 0x0800 2 (10 ∷ 0 ∷ 0 ∷ 8 ∷ []) ≡ Drop
unfolding line_of declared from decided tcp passes
other_opens = refl

-- SYN and ACK together answer, and no rule is met: the default decides
other_answers : decided 0x0800 18 (10 ∷ 0 ∷ 0 ∷ 8 ∷ []) ≡ Pass
unfolding line_of declared from decided tcp passes
other_answers = refl

of_ipv6 : decided 0x86DD 16 (32 ∷ 1 ∷ 13 ∷ 184 ∷ 0 ∷ 0 ∷ 0 ∷ 0 ∷ 0 ∷ 0 ∷ 0 ∷ 0 ∷ 0 ∷ 0 ∷ 0 ∷ 1 ∷ []) ≡ Drop
unfolding line_of declared from decided tcp passes
of_ipv6 = refl

-- The same connection is allowed by the first rule and denied to others by the second. Where no rule is met, the default
-- decides, though no line sets it.
deciding_lines : FunctionDecl → ℕ → ℕ → List ℕ → List DecidingLine
deciding_lines decl ether_type flags source = decided_by firewall_behaviour firewall_decides (tcp ether_type flags) (firewall_of decl) (from source)

first_decides : deciding_lines declared 0x0800 2 (10 ∷ 0 ∷ 0 ∷ 9 ∷ []) ≡ deciding.Rule 0 ∷ []
unfolding line_of declared from deciding_lines tcp
first_decides = refl

second_decides : deciding_lines declared 0x0800 2 (10 ∷ 0 ∷ 0 ∷ 8 ∷ []) ≡ deciding.Rule 1 ∷ []
unfolding line_of declared from deciding_lines tcp
second_decides = refl

default_decides : deciding_lines declared 0x0800 18 (10 ∷ 0 ∷ 0 ∷ 8 ∷ []) ≡ deciding.Set keys.Default ∷ []
unfolding line_of declared from deciding_lines tcp
default_decides = refl

-- a `set default` between two rules isn't counted with them
between : FunctionDecl
between = record {
  name = codes "fw";
  line = 3;
  kind = kinds.Firewall;
  settings =
      (record { line = 4; words = codes "rule" ∷ codes "allow" ∷ codes "src" ∷ codes "10.0.0.9" ∷ [] }) ∷
      (record { line = 5; words = codes "set" ∷ codes "default" ∷ codes "deny" ∷ [] }) ∷
      (record { line = 6; words = codes "rule" ∷ codes "allow" ∷ codes "version" ∷ codes "6" ∷ [] }) ∷ [];
}

behind_default : deciding_lines between 0x86DD 16 (32 ∷ 1 ∷ 13 ∷ 184 ∷ 0 ∷ 0 ∷ 0 ∷ 0 ∷ 0 ∷ 0 ∷ 0 ∷ 0 ∷ 0 ∷ 0 ∷ 0 ∷ 1 ∷ []) ≡ deciding.Rule 1 ∷ []
unfolding line_of between from deciding_lines tcp
behind_default = refl

default_denies : deciding_lines between 0x0800 2 (10 ∷ 0 ∷ 0 ∷ 8 ∷ []) ≡ deciding.Set keys.Default ∷ []
unfolding line_of between from deciding_lines tcp
default_denies = refl
