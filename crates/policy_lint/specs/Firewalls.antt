-- For proofs: what a firewall drops altogether, and of which version of IP alone.
use Rattle.std.specs.Prelude.{List, [], ◌∷◌, Bool, true, false, not, ◌&&◌, ◌||◌, find, codes}
use Rattle.std.specs.Option.{option_map_or}
use Rattle.std.specs.List.{list_any}
use Rattle.std.specs.Str.{bytes_eq}
use Rattle.action_profile.specs.declared.kind.Kind.{Kind}
use Rattle.action_profile.specs.declared.kind.Kind.TheVariants.{Firewall}
use Rattle.policy_text.specs.declared.clause.Clause.{Clause}
use Rattle.policy_text.specs.declared.policy.FunctionDecl.{FunctionDecl}
use Rattle.policy_text.specs.declared.policy.Setting.{Setting}
use Rattle.policy_lint.specs.declared.rule_line.RuleLine.{RuleLine}
use Rattle.policy_lint.specs.Rules.{word_of, rules_of}

-- `set default deny`
abbrev pub sets_deny : Setting → Bool
sets_deny s = bytes_eq (word_of s.words 0) (codes "set") && (bytes_eq (word_of s.words 1) (codes "default") && bytes_eq (word_of s.words 2) (codes "deny"))

-- whether a packet passes that meets no rule
abbrev pub default_of : FunctionDecl → Bool
default_of decl = not (list_any sets_deny decl.settings)

abbrev pub is_empty : List Clause → Bool
is_empty [] = true
is_empty (clause ∷ clauses) = false

-- a rule that allows, or that each packet meets
abbrev pub ends : RuleLine → Bool
ends r = r.allow || is_empty r.fit.clauses

-- no packet passes: the first such rule denies, or there is none and the default denies
abbrev pub drops_by : Bool → List RuleLine → Bool
drops_by default rules = option_map_or (λ r. not r.allow) (find ends rules) (not default)

abbrev pub is_firewall : Kind → Bool
is_firewall Firewall = true
is_firewall kind = false

abbrev pub drops_all : FunctionDecl → Bool
drops_all decl = is_firewall decl.kind && drops_by (default_of decl) (rules_of decl)
