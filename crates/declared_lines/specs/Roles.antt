-- For proofs: which roles the lines of a kind can have when they decide, and the order of the lines of a declaration.
use Rattle.std.specs.Prelude.{◌<◌, length, All, AllPairs, Bool, true, false, ◌||◌, nat_lt, is_some}
use Rattle.action_profile.specs.declared.kind.Kind.{Kind}
use Rattle.action_profile.specs.declared.kind.Kind.TheVariants.{Firewall, Signature, Nat, Balancer, Limiter, Marker, Nexthop, Hop, Redactor, Tagger}
use Rattle.policy_text.specs.declared.policy.FunctionDecl.{FunctionDecl}
use Rattle.packet_function.specs.declared.deciding.DecidingLine.{DecidingLine}
use Rattle.packet_function.specs.declared.deciding.DecidingLine.TheVariants.{Rule, Set, Declaration}
use Rattle.packet_function.specs.declared.deciding.SettingKey.TheVariants.{Default, Inside, Public, Ports, Rate}
use Rattle.declared_lines.specs.DeclaredLines.{rule_lines, set_line, declaration_decides}

-- a line of this role decides in some function of the kind
abbrev pub uses : Kind → DecidingLine → Bool
uses Firewall (Rule place) = true
uses Firewall (Set Default) = true
uses Signature (Rule place) = true
uses Nat (Set Inside) = true
uses Nat (Set Public) = true
uses Nat (Set Ports) = true
uses Nat Declaration = true
uses Balancer (Rule place) = true
uses Limiter (Set Rate) = true
uses Marker (Rule place) = true
uses Nexthop (Rule place) = true
uses Hop Declaration = true
uses Redactor (Rule place) = true
uses Tagger (Rule place) = true
uses kind line = false

-- the declaration has a line of this role, or its `fn` line stands for it
abbrev pub has_line : FunctionDecl → DecidingLine → Bool
has_line decl (Rule place) = nat_lt place (length (rule_lines decl))
has_line decl (Set key) = is_some (set_line decl key) || declaration_decides decl decl.kind
has_line decl Declaration = true

-- The lines of a declaration stand in the order of the text: the `fn` line first, and then its settings.
pub record LinesRise (decl : FunctionDecl) : Type 0 where
  pub first : All (λ s. decl.line < s.line) decl.settings
  pub settings : AllPairs (λ s t. s.line < t.line) decl.settings
