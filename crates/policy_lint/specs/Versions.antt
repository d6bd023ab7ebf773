-- For proofs: firewalls that deny by addresses of one version of IP alone.
use Rattle.std.specs.Prelude.{ℕ, ◌≡◌, List, [], ◌++◌, Bool, true, false, not, ◌&&◌, ◌==◌, if◌then◌else◌, find, Option, None}
use Rattle.std.specs.List.{list_all, list_any, flat_map}
use Rattle.std.specs.Option.{option_map, option_to_list}
use Rattle.policy_text.specs.declared.clause.Clause.{Clause}
use Rattle.policy_text.specs.declared.clause.Clause.TheVariants.{Src, Dst, Src6, Dst6, Version4, Version6}
use Rattle.policy_text.specs.declared.clause.Match.{Match}
use Rattle.policy_text.specs.declared.policy.ChainPolicy.{ChainPolicy}
use Rattle.policy_text.specs.declared.policy.FunctionDecl.{FunctionDecl}
use Rattle.policy_text.specs.declared.seen.Seen.{Seen}
use Rattle.policy_lint.specs.declared.finding.Finding.{Finding}
use Rattle.policy_lint.specs.declared.finding.Finding.TheVariants.{DeniesIpv4Alone, DeniesIpv6Alone}
use Rattle.policy_lint.specs.declared.rule_line.RuleLine.{RuleLine}
use Rattle.policy_lint.specs.declared.versions.Version.{Version}
use Rattle.policy_lint.specs.declared.versions.Version.TheVariants.{Ipv4, Ipv6}
use Rattle.policy_lint.specs.Firewalls.{is_firewall, is_empty, default_of}
use Rattle.policy_lint.specs.Rules.{rules_of}

abbrev pub other_than : Version → Version
other_than Ipv4 = Ipv6
other_than Ipv6 = Ipv4

-- the clause is a prefix of this version
abbrev pub is_prefix : Version → Clause → Bool
is_prefix Ipv4 (Src prefix bits) = true
is_prefix Ipv4 (Dst prefix bits) = true
is_prefix Ipv6 (Src6 prefix bits) = true
is_prefix Ipv6 (Dst6 prefix bits) = true
is_prefix version clause = false

-- the clause asks for this version: by a prefix, or by its number
abbrev pub is_of : Version → Clause → Bool
is_of Ipv4 (Src prefix bits) = true
is_of Ipv4 (Dst prefix bits) = true
is_of Ipv4 Version4 = true
is_of Ipv6 (Src6 prefix bits) = true
is_of Ipv6 (Dst6 prefix bits) = true
is_of Ipv6 Version6 = true
is_of version clause = false

-- it takes all addresses of this version
abbrev pub takes_all : Version → Clause → Bool
takes_all Ipv4 (Src prefix bits) = bits == 0
takes_all Ipv4 (Dst prefix bits) = bits == 0
takes_all Ipv4 Version4 = true
takes_all Ipv6 (Src6 prefix bits) = bits == 0
takes_all Ipv6 (Dst6 prefix bits) = bits == 0
takes_all Ipv6 Version6 = true
takes_all version clause = false

abbrev pub asks_by : Version → Match → Bool
asks_by version fit = list_any (is_of version) fit.clauses

-- a rule denies by an address of this version, or some rule asks for this version, or for nothing
abbrev pub is_denied_by : Version → RuleLine → Bool
is_denied_by version r = not r.allow && list_any (is_prefix version) r.fit.clauses

abbrev pub denies_by : Version → List RuleLine → Bool
denies_by version rules = list_any (is_denied_by version) rules

abbrev pub names : Version → List RuleLine → Bool
names version rules = list_any (λ r. asks_by version r.fit) rules

abbrev pub has_open : List RuleLine → Bool
has_open rules = list_any (λ r. is_empty r.fit.clauses) rules

-- some rule denies by addresses of this version, none asks for the other or for nothing
abbrev pub denies_alone : Version → List RuleLine → Bool
denies_alone version rules = denies_by version rules && (not (names (other_than version) rules) && not (has_open rules))

-- packets of this version may come to the chain: no chain before takes all of them, and it doesn't ask for the other version
abbrev pub comes : Version → List ChainPolicy → ChainPolicy → Bool
comes version before chain = not (asks_by (other_than version) chain.fit) && not (list_any (λ (c : ChainPolicy). list_all (takes_all version) c.fit.clauses) before)

-- of this version alone, though packets of the other come
abbrev pub is_alone : Version → List ChainPolicy → ChainPolicy → List RuleLine → Bool
is_alone version before chain rules = denies_alone version rules && comes (other_than version) before chain

-- the rules of a firewall, none where it is none
abbrev pub firewall_rules : FunctionDecl → List RuleLine
firewall_rules decl = if is_firewall decl.kind then rules_of decl else []

-- the rules of all firewalls of a chain
abbrev pub all_rules : List FunctionDecl → List RuleLine
all_rules functions = flat_map firewall_rules functions

-- a firewall that drops what meets none of its rules
abbrev pub drops_rest : FunctionDecl → Bool
drops_rest decl = is_firewall decl.kind && not (default_of decl)

-- with the line of the firewall whose rule is the first that denies by this version
abbrev pub told_version : Version → (ℕ → Finding) → List ChainPolicy → ChainPolicy → List RuleLine → Option Finding
told_version version told before chain rules =
    if is_alone version before chain rules then option_map (λ (r : RuleLine). told r.owner) (find (is_denied_by version) rules) else None

abbrev pub told_alone : List ChainPolicy → ChainPolicy → List RuleLine → List Finding
told_alone before chain rules =
    option_to_list (told_version Ipv4 (λ line. DeniesIpv4Alone line) before chain rules)
    ++ option_to_list (told_version Ipv6 (λ line. DeniesIpv6Alone line) before chain rules)

-- of a chain each of whose firewalls lets pass what meets none of its rules
abbrev pub alone_in : List ChainPolicy → ChainPolicy → List Finding
alone_in before chain = if list_any drops_rest chain.functions then [] else told_alone before chain (all_rules chain.functions)

-- a packet has no address of this version
abbrev pub Lacks : Version → Seen → Type 0
Lacks Ipv4 seen = (seen.src ≡ None) × (seen.dst ≡ None)
Lacks Ipv6 seen = (seen.src6 ≡ None) × (seen.dst6 ≡ None)
