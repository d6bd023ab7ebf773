-- For proofs: firewalls that let all pass or none, by what all of their rules say.
use Rattle.std.specs.Prelude.{List, [], ◌∷◌, ◌++◌, Bool, true, false, not, ◌&&◌, ◌||◌}
use Rattle.std.specs.List.{list_all, list_any}
use Rattle.policy_text.specs.declared.clause.Clause.{Clause}
use Rattle.policy_text.specs.declared.policy.FunctionDecl.{FunctionDecl}
use Rattle.policy_lint.specs.declared.finding.Finding.{Finding}
use Rattle.policy_lint.specs.declared.finding.Finding.TheVariants.{DropsNone, DropsEach}
use Rattle.policy_lint.specs.declared.rule_line.RuleLine.{RuleLine}
use Rattle.policy_lint.specs.declared.versions.Version.TheVariants.{Ipv4, Ipv6}
use Rattle.policy_lint.specs.Firewalls.{is_firewall, default_of}
use Rattle.policy_lint.specs.Gathering.{told_if}
use Rattle.policy_lint.specs.Rules.{rules_of}
use Rattle.policy_lint.specs.Versions.{takes_all}

-- the clause takes all packets of a version of IP, as `rule allow src ::/0`
abbrev pub takes_version : Clause → Bool
takes_version c = takes_all Ipv4 c || takes_all Ipv6 c

abbrev pub names_all : RuleLine → Bool
names_all r = list_any takes_version r.fit.clauses

abbrev pub allows_some : RuleLine → Bool
allows_some r = r.allow && not (names_all r)

abbrev pub are_some : List RuleLine → Bool
are_some [] = false
are_some (r ∷ rules) = true

-- there are rules, all of them allow, and none says that a version of IP is meant to pass
abbrev pub allows_alone : List RuleLine → Bool
allows_alone rules = are_some rules && list_all allows_some rules

-- there are rules, and all of them deny
abbrev pub denies_all : List RuleLine → Bool
denies_all rules = are_some rules && list_all (λ r. not r.allow) rules

abbrev pub drops_none : FunctionDecl → Bool
drops_none decl = is_firewall decl.kind && (default_of decl && allows_alone (rules_of decl))

abbrev pub drops_each : FunctionDecl → Bool
drops_each decl = is_firewall decl.kind && (not (default_of decl) && denies_all (rules_of decl))

-- what is odd in a firewall by itself
abbrev pub told_firewall : FunctionDecl → List Finding
told_firewall decl = told_if (drops_none decl) (DropsNone decl.line) ++ told_if (drops_each decl) (DropsEach decl.line)
