-- Rows that were worked out by hand.
use Rattle.std.specs.Prelude.{◌≡◌, [], ◌∷◌, refl, codes}
use Rattle.action_profile.specs.declared.kind.Kind.TheVariants.{Firewall, Nat, Limiter, Hop}
use Rattle.policy_text.specs.declared.policy.FunctionDecl.{FunctionDecl}
use Rattle.policy_text.specs.declared.policy.Setting.{Setting}
use Rattle.packet_function.specs.declared.deciding.DecidingLine.TheVariants.{Rule, Set}
use Rattle.packet_function.specs.declared.deciding.SettingKey.TheVariants.{Default, Inside, Ports}
use Rattle.declared_lines.specs.DeclaredLines.{number_of, deciders}

abbrev deny_src : Setting
deny_src = record { line = 4; words = codes "rule" ∷ codes "deny" ∷ codes "src" ∷ codes "10.0.0.9" ∷ [] }

abbrev deny_dst : Setting
deny_dst = record { line = 5; words = codes "rule" ∷ codes "deny" ∷ codes "dst" ∷ codes "10.0.0.77" ∷ [] }

abbrev allow_all : Setting
allow_all = record { line = 6; words = codes "set" ∷ codes "default" ∷ codes "allow" ∷ [] }

-- `fn fw firewall` in line 3, and two rules
abbrev two_rules : FunctionDecl
two_rules = record { name = codes "fw"; line = 3; kind = Firewall; settings = deny_src ∷ deny_dst ∷ [] }

firewall_without_default : deciders two_rules ≡ 3 ∷ 4 ∷ 5 ∷ []
firewall_without_default = refl

first_rule : number_of two_rules (Rule 0) ≡ 4
first_rule = refl

second_rule : number_of two_rules (Rule 1) ≡ 5
second_rule = refl

no_default : number_of two_rules (Set Default) ≡ 3
no_default = refl

-- the same with `set default` behind the rules
abbrev with_default : FunctionDecl
with_default = record { name = codes "fw"; line = 3; kind = Firewall; settings = deny_src ∷ deny_dst ∷ allow_all ∷ [] }

firewall_with_default : deciders with_default ≡ 4 ∷ 5 ∷ 6 ∷ []
firewall_with_default = refl

default_line : number_of with_default (Set Default) ≡ 6
default_line = refl

-- `fn t hop` in line 6
hop : deciders (record { name = codes "t"; line = 6; kind = Hop; settings = [] }) ≡ 6 ∷ []
hop = refl

abbrev public_line : Setting
public_line = record { line = 8; words = codes "set" ∷ codes "public" ∷ codes "203.0.113.9" ∷ [] }

abbrev inside_line : Setting
inside_line = record { line = 9; words = codes "set" ∷ codes "inside" ∷ codes "10.0.0.0/8" ∷ [] }

-- a nat without `set ports`, whose `fn` line stands for it
abbrev two_settings : FunctionDecl
two_settings = record { name = codes "n"; line = 7; kind = Nat; settings = public_line ∷ inside_line ∷ [] }

nat_lines : deciders two_settings ≡ 7 ∷ 8 ∷ 9 ∷ []
nat_lines = refl

nat_inside : number_of two_settings (Set Inside) ≡ 9
nat_inside = refl

nat_ports : number_of two_settings (Set Ports) ≡ 7
nat_ports = refl

limiter : deciders (record { name = codes "l"; line = 2; kind = Limiter; settings = (record { line = 3; words = codes "set" ∷ codes "rate" ∷ codes "100" ∷ [] }) ∷ [] }) ≡ 3 ∷ []
limiter = refl
