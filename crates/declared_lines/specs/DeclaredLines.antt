-- Believed: the line numbers of a declaration, by the roles of its lines, and which of its lines can decide.
use Rattle.std.specs.Prelude.{ℕ, List, [], ◌∷◌, ◌++◌, map, filter, find, Bool, true, false, ◌&&◌, ◌||◌, if◌then◌else◌, Option, is_none, slice_index_or, codes}
use Rattle.std.specs.Option.{option_map, unwrap_or}
use Rattle.std.specs.Str.{bytes_eq}
use Rattle.action_profile.specs.declared.kind.Kind.{Kind}
use Rattle.action_profile.specs.declared.kind.Kind.TheVariants.{Firewall, Signature, Nat, Balancer, Limiter, Marker, Nexthop, Hop, Redactor, Tagger}
use Rattle.policy_text.specs.declared.policy.FunctionDecl.{FunctionDecl}
use Rattle.policy_text.specs.declared.policy.Setting.{Setting}
use Rattle.function_lines.specs.KindLines.{word_of}
use Rattle.packet_function.specs.declared.deciding.DecidingLine.{DecidingLine}
use Rattle.packet_function.specs.declared.deciding.DecidingLine.TheVariants.{Rule, Set, Declaration}
use Rattle.packet_function.specs.declared.deciding.SettingKey.{SettingKey}
use Rattle.packet_function.specs.declared.deciding.SettingKey.TheVariants.{Default, Inside, Public, Ports, Rate}

abbrev pub key_word : SettingKey → List ℕ
key_word Default = codes "default"
key_word Inside = codes "inside"
key_word Public = codes "public"
key_word Ports = codes "ports"
key_word Rate = codes "rate"

-- a `rule` line
abbrev pub is_rule : Setting → Bool
is_rule s = bytes_eq (word_of s 0) (codes "rule")

-- a `set` line of this key
abbrev pub sets : SettingKey → Setting → Bool
sets key s = bytes_eq (word_of s 0) (codes "set") && bytes_eq (word_of s 1) (key_word key)

-- the numbers of the `rule` lines, in order
abbrev pub rule_lines : FunctionDecl → List ℕ
rule_lines decl = map (λ s. s.line) (filter is_rule decl.settings)

-- the number of the first `set` line of this key, none if there is none
abbrev pub set_line : FunctionDecl → SettingKey → Option ℕ
set_line decl key = option_map (λ s. s.line) (find (sets key) decl.settings)

-- The number of the line that has this role. Where the declaration has no such line, the `fn` line stands for it.
abbrev pub number_of : FunctionDecl → DecidingLine → ℕ
number_of decl (Rule place) = slice_index_or (rule_lines decl) place decl.line
number_of decl (Set key) = unwrap_or (set_line decl key) decl.line
number_of decl Declaration = decl.line

-- a `set` or `rule` line can decide in a function of this kind
abbrev pub can_decide : Kind → Setting → Bool
can_decide Firewall s = is_rule s || sets Default s
can_decide Signature s = is_rule s
can_decide Nat s = sets Inside s || sets Public s || sets Ports s
can_decide Balancer s = is_rule s
can_decide Limiter s = sets Rate s
can_decide Marker s = is_rule s
can_decide Nexthop s = is_rule s
can_decide Redactor s = is_rule s
can_decide Tagger s = is_rule s
can_decide kind s = false

-- the `fn` line can decide: that of a firewall only if it has no `set default`
abbrev pub declaration_decides : FunctionDecl → Kind → Bool
declaration_decides decl Firewall = is_none (set_line decl Default)
declaration_decides decl Nat = true
declaration_decides decl Hop = true
declaration_decides decl kind = false

-- the numbers of the lines that can decide; the `fn` line stands before the others
abbrev pub deciders : FunctionDecl → List ℕ
deciders decl = (if declaration_decides decl decl.kind then decl.line ∷ [] else []) ++ map (λ s. s.line) (filter (can_decide decl.kind) decl.settings)
