-- For proofs: what findings read of a declaration, as the functions that are made of declarations have it.
use Rattle.std.specs.Prelude.{List, [], map, ℕ, Option, codes}
use Rattle.std.specs.Option.{option_map, option_or}
use Rattle.std.specs.declared.net.ip_addr.IpAddr.{IpAddr}
use Rattle.std.specs.declared.net.ipv4_addr.Ipv4Addr.{Ipv4Addr}
use Rattle.policy_text.specs.Addresses6.{address6_of}
use Rattle.policy_text.specs.Values.{address_of}
use Rattle.policy_text.specs.declared.clause.Match.{Match}
use Rattle.policy_text.specs.declared.policy.FunctionDecl.{FunctionDecl}
use Rattle.nf_filter.specs.declared.firewall.Firewall.{Firewall}
use Rattle.nf_filter.specs.declared.firewall.Rule.{Rule}
use Rattle.nf_translate.specs.Addresses.{ipv4_address, ipv6_address}
use Rattle.nf_translate.specs.Nats.{PlainNat}
use Rattle.nf_tunnel.specs.TunnelLines.{ipv4_address as end_address}
use Rattle.policy_lint.specs.declared.nats.NatLines.{NatLines}
use Rattle.policy_lint.specs.declared.rule_line.RuleLine.{RuleLine}
use Rattle.policy_lint.specs.Firewalls.{default_of}
use Rattle.policy_lint.specs.Nats.{value_of}
use Rattle.policy_lint.specs.Rules.{rules_of}

-- a firewall's rule: whether it allows, and its clauses
abbrev pub read_rule : RuleLine → Rule
read_rule r = record { allow = r.allow; fit = r.fit }

-- the firewall of the rules and of the default that findings read
abbrev pub read_firewall : FunctionDecl → Firewall
read_firewall decl = record { default = default_of decl; rules = map read_rule (rules_of decl) }

-- the clauses of the rules that findings read, rule by rule
abbrev pub read_fits : FunctionDecl → List Match
read_fits decl = map (λ (r : RuleLine). r.fit) (rules_of decl)

-- the nat of the lines that findings read, which has seen no packet
abbrev pub read_nat : NatLines → PlainNat
read_nat n = record {
  settings = record { inside = n.prefix; inside_bits = n.bits; public_address = n.public; low = n.low; high = n.high };
  mappings = [];
}

-- the virtual address of a balancer, of either version of IP
abbrev pub read_virtual : FunctionDecl → Option IpAddr
read_virtual decl = option_or (option_map (λ (v : ℕ × ℕ). ipv4_address v.1) (value_of address_of (codes "vip") decl)) (option_map (λ (v : ℕ × ℕ). ipv6_address v.1) (value_of address6_of (codes "vip") decl))

-- an end of a tunnel, `entry` or `exit`
abbrev pub read_end : List ℕ → FunctionDecl → Option Ipv4Addr
read_end key decl = option_map (λ (v : ℕ × ℕ). end_address v.1) (value_of address_of key decl)
