-- For proofs: the rules of a declared function of which the first that a packet meets decides, as its lines spell them.
use Rattle.std.specs.Prelude.{ℕ, List, [], ◌∷◌, if◌then◌else◌, Option, None, slice_index_or, filter_map, codes}
use Rattle.std.specs.Option.{option_map}
use Rattle.std.specs.Str.{bytes_eq}
use Rattle.action_profile.specs.declared.kind.Kind.{Kind}
use Rattle.action_profile.specs.declared.kind.Kind.TheVariants.{Firewall, Marker, Nexthop, Tagger}
use Rattle.policy_text.specs.declared.clause.Match.{Match}
use Rattle.policy_text.specs.declared.policy.FunctionDecl.{FunctionDecl}
use Rattle.policy_text.specs.declared.policy.Setting.{Setting}
use Rattle.policy_text.specs.Clauses.{clause_of}
use Rattle.function_lines.specs.Rules.{fit_of}
use Rattle.policy_lint.specs.declared.rule_line.RuleLine.{RuleLine}

-- a word of a line, none past its end
abbrev pub word_of : List (List ℕ) → ℕ → List ℕ
word_of words place = slice_index_or words place []

-- Where the clauses of a rule stand: a firewall's behind `rule allow` or `rule deny`,
unfoldable pub firewall_fit : List (List ℕ) → Option Match
firewall_fit (lead ∷ verdict ∷ clauses) = fit_of clauses
firewall_fit words = None

-- a marker's behind `rule tos` and a number,
unfoldable pub marker_fit : List (List ℕ) → Option Match
marker_fit (lead ∷ key ∷ tos ∷ clauses) = fit_of clauses
marker_fit words = None

-- a tagger's behind `rule vid` and a number, `pcp` and a number;
unfoldable pub tagger_fit : List (List ℕ) → Option Match
tagger_fit (lead ∷ id_key ∷ vid ∷ priority_key ∷ priority ∷ clauses) = fit_of clauses
tagger_fit words = None

-- and a nexthop's prefix is that of a clause on destinations
unfoldable pub nexthop_fit : List (List ℕ) → Option Match
nexthop_fit (lead ∷ prefix ∷ words) = option_map (λ clause. record { clauses = clause ∷ [] }) (clause_of (codes "dst") prefix)
nexthop_fit words = None

-- what a rule of this kind asks for, none where the kind has no such rules
abbrev pub fit_by : Kind → List (List ℕ) → Option Match
fit_by Firewall words = firewall_fit words
fit_by Marker words = marker_fit words
fit_by Tagger words = tagger_fit words
fit_by Nexthop words = nexthop_fit words
fit_by kind words = None

abbrev pub rule_fit : Kind → List (List ℕ) → Option Match
rule_fit kind words = if bytes_eq (word_of words 0) (codes "rule") then fit_by kind words else None

-- the rule that a line is, of the function on another line: whether it allows, and its clauses
abbrev pub rule_of : Kind → ℕ → Setting → Option RuleLine
rule_of kind owner s = option_map (λ fit. record { line = s.line; owner = owner; allow = bytes_eq (word_of s.words 1) (codes "allow"); fit = fit }) (rule_fit kind s.words)

-- all rules of a function, in order
abbrev pub rules_of : FunctionDecl → List RuleLine
rules_of decl = filter_map (rule_of decl.kind decl.line) decl.settings
