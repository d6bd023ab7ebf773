-- For proofs: what each finding means, in the words of the language.
use Rattle.std.specs.Prelude.{ℕ, ◌≡◌, ◌<◌, ◌≤◌, ◌⊎◌, List, [], ◌∷◌, ◌++◌, length, reverse, filter_map, Bool, true, false, Some, slice_get, codes}
use Rattle.std.specs.List.{list_any}
use Rattle.std.specs.Option.{option_map_or}
use Rattle.packet_fields.specs.declared.field.Field.TheVariants.{SrcIp}
use Rattle.action_profile.specs.Profiles.{profile_of, writes_of}
use Rattle.policy_text.specs.Addresses6.{address6_of}
use Rattle.policy_text.specs.Meeting.{is_within, is_met, is_fitting}
use Rattle.policy_text.specs.Values.{address_of}
use Rattle.policy_text.specs.declared.clause.Clause.{Clause}
use Rattle.policy_text.specs.declared.clause.Match.{Match}
use Rattle.policy_text.specs.declared.policy.ChainPolicy.{ChainPolicy}
use Rattle.policy_text.specs.declared.policy.FunctionDecl.{FunctionDecl}
use Rattle.policy_text.specs.declared.policy.Setting.{Setting}
use Rattle.policy_text.specs.declared.seen.Seen.{Seen}
use Rattle.policy_check.specs.declared.fault.Order.{Order}
use Rattle.function_lines.specs.Rules.{first_met}
use Rattle.policy_lint.specs.declared.finding.Finding.{Finding}
use Rattle.policy_lint.specs.declared.finding.Finding.TheVariants.{ChainTaken, RuleCovered, NeverReached, LimiterBehind, DeniesIpv4Alone, DeniesIpv6Alone, PublicInside, SharedPorts, ClausesClash, BitsPastLength, MarksIpv6, QuotedPattern, CommaPattern, CutPattern, GlobPattern, RegexPattern, DropsNone, DropsEach, SmallBurst, MatchExcludes, VipExcluded, SourceRewritten, HiddenInTunnel, RedactedBefore, LimiterApart}
use Rattle.policy_lint.specs.declared.nats.NatLines.{NatLines}
use Rattle.policy_lint.specs.declared.rule_line.RuleLine.{RuleLine}
use Rattle.policy_lint.specs.declared.versions.Version.{Version}
use Rattle.policy_lint.specs.declared.versions.Version.TheVariants.{Ipv4, Ipv6}
use Rattle.policy_lint.specs.Apart.{takes_from}
use Rattle.policy_lint.specs.Behind.{line_at, is_limiter}
use Rattle.policy_lint.specs.Findings.{chain_asking, rule_asking, order_at}
use Rattle.policy_lint.specs.Firewalls.{default_of, is_firewall}
use Rattle.policy_lint.specs.Gathering.{Asking}
use Rattle.policy_lint.specs.Limits.{burst_of}
use Rattle.policy_lint.specs.Nats.{value_of, nat_of, nats_of, is_loose}
use Rattle.policy_lint.specs.Opposing.{IsOfPacket}
use Rattle.policy_lint.specs.Patterns.{is_quoted, ends_in_comma, is_glob, is_regex, is_pattern_line, text_of, is_cut_at}
use Rattle.policy_lint.specs.Rules.{rules_of}
use Rattle.policy_lint.specs.Spelling.{is_loose_fit, is_marker}
use Rattle.policy_lint.specs.Walking.{is_rewritten, vip4, vip6, rewrites_source, hides, is_erasable, redacts}
use Rattle.policy_lint.specs.Versions.{other_than, asks_by, names, is_denied_by, all_rules, drops_rest}

-- one of the things
pub record IsOne {T : Type 0} (things : List T) (t : T) : Type 0 where
  pub front : List T
  pub back : List T
  pub is : things ≡ front ++ t ∷ back

-- two of the things, the first before the second
pub record Follows {T : Type 0} (things : List T) (earlier later : T) : Type 0 where
  pub before : List T
  pub after : List T
  pub is : things ≡ before ++ later ∷ after
  pub among : IsOne before earlier

-- what meets the clauses of the one on this line meets those of the one on the other line, which is before it
pub record IsCovered {T : Type 0} (asks : Asking T) (things : List T) (line other : ℕ) : Type 0 where
  pub earlier : T
  pub later : T
  pub follows : Follows things earlier later
  pub at_line : asks.line later ≡ line
  pub at_other : asks.line earlier ≡ other
  pub nothing_left : (seen : Seen) → is_fitting (asks.fit later) seen ≡ true → is_fitting (asks.fit earlier) seen ≡ true

-- so of a rule of some function
pub record IsRuleCovered (chains : List ChainPolicy) (line other : ℕ) : Type 0 where
  pub chain : ChainPolicy
  pub decl : FunctionDecl
  pub of_chains : IsOne chains chain
  pub of_chain : IsOne chain.functions decl
  pub covered : IsCovered rule_asking (rules_of decl) line other

-- the function on this line stands behind that on the other line in the order of a chain
pub record StandsBehind (chains : List ChainPolicy) (orders : List Order) (line other : ℕ) : Type 0 where
  pub before : List ChainPolicy
  pub chain : ChainPolicy
  pub after : List ChainPolicy
  pub is : chains ≡ before ++ chain ∷ after
  pub earlier : ℕ
  pub later : ℕ
  pub follows : Follows (order_at orders (length before)) earlier later
  pub at_line : line_at chain.functions later ≡ line
  pub at_other : line_at chain.functions earlier ≡ other

-- no packet passes a firewall: its first rule that is met denies, or its default
abbrev pub PassesNone : FunctionDecl → Type 0
PassesNone decl = (seen : Seen) → option_map_or (λ (r : RuleLine). r.allow) (first_met (λ (r : RuleLine). r.fit) seen (rules_of decl)) (default_of decl) ≡ false

pub record IsNeverReached (chains : List ChainPolicy) (orders : List Order) (line other : ℕ) : Type 0 where
  pub behind : StandsBehind chains orders line other
  pub dropper : FunctionDecl
  pub is_there : slice_get behind.chain.functions behind.earlier ≡ Some dropper
  pub filters : is_firewall dropper.kind ≡ true
  pub passes_none : PassesNone dropper

pub record IsLimiterBehind (chains : List ChainPolicy) (orders : List Order) (line other : ℕ) : Type 0 where
  pub behind : StandsBehind chains orders line other
  pub writer : FunctionDecl
  pub writer_is : slice_get behind.chain.functions behind.earlier ≡ Some writer
  pub writes : writes_of (profile_of writer.kind) SrcIp ≡ true
  pub limiter : FunctionDecl
  pub limiter_is : slice_get behind.chain.functions behind.later ≡ Some limiter
  pub limits : is_limiter limiter.kind ≡ true

-- of the rules of a chain's firewalls one denies by an address of this version, none names one of the other, and each firewall
-- lets pass what meets none of its rules
pub record DeniesAlone (version : Version) (chains : List ChainPolicy) (line : ℕ) : Type 0 where
  pub chain : ChainPolicy
  pub of_chains : IsOne chains chain
  pub rule : RuleLine
  pub of_rules : IsOne (all_rules chain.functions) rule
  pub at_line : rule.owner ≡ line
  pub denies : is_denied_by version rule ≡ true
  pub unnamed : names (other_than version) (all_rules chain.functions) ≡ false
  pub lets : list_any drops_rest chain.functions ≡ false

pub record IsPublicInside (chains : List ChainPolicy) (line inside : ℕ) : Type 0 where
  pub nat : NatLines
  pub of_nats : IsOne (nats_of chains) nat
  pub at_line : nat.public_line ≡ line
  pub at_inside : nat.inside_line ≡ inside
  pub within : is_within nat.prefix nat.bits nat.public ≡ true

pub record HasSharedPorts (chains : List ChainPolicy) (line other : ℕ) : Type 0 where
  pub earlier : NatLines
  pub later : NatLines
  pub follows : Follows (nats_of chains) earlier later
  pub at_line : later.ports_line ≡ line
  pub at_other : earlier.ports_line ≡ other
  pub same : later.public ≡ earlier.public
  pub begins_below : later.low ≤ earlier.high
  pub ends_above : earlier.low ≤ later.high

-- a chain on this line whose clauses are such
pub record IsChainLine (is : Match → Type 0) (chains : List ChainPolicy) (line : ℕ) : Type 0 where
  pub chain : ChainPolicy
  pub of_chains : IsOne chains chain
  pub at_line : chain.line ≡ line
  pub so : is chain.fit

-- a function that is such
pub record IsFunction (is : FunctionDecl → Type 0) (chains : List ChainPolicy) : Type 0 where
  pub chain : ChainPolicy
  pub decl : FunctionDecl
  pub of_chains : IsOne chains chain
  pub of_chain : IsOne chain.functions decl
  pub so : is decl

-- a rule of a function that is such
pub record IsRule (is : FunctionDecl → RuleLine → Type 0) (line : ℕ) (decl : FunctionDecl) : Type 0 where
  pub rule : RuleLine
  pub of_rules : IsOne (rules_of decl) rule
  pub at_line : rule.line ≡ line
  pub so : is decl rule

-- a line of a function that is such
pub record IsSetting (is : FunctionDecl → Setting → Type 0) (line : ℕ) (decl : FunctionDecl) : Type 0 where
  pub setting : Setting
  pub of_settings : IsOne decl.settings setting
  pub at_line : setting.line ≡ line
  pub so : is decl setting

-- the clauses of a line, of a chain or of a rule, are such
abbrev pub HasClauses : (Match → Type 0) → List ChainPolicy → ℕ → Type 0
HasClauses is chains line = IsChainLine is chains line ⊎ IsFunction (IsRule (λ decl r. is r.fit) line) chains

-- no packet meets all of the clauses
abbrev pub MeetsNone : Match → Type 0
MeetsNone fit = (seen : Seen) → IsOfPacket seen → is_fitting fit seen ≡ false

-- the prefix inside of a nat has bits past its length
pub record IsLooseNat (chains : List ChainPolicy) (line : ℕ) : Type 0 where
  pub nat : NatLines
  pub of_nats : IsOne (nats_of chains) nat
  pub at_line : nat.inside_line ≡ line
  pub so : is_loose nat ≡ true

-- the pattern of a line is a text that is such
abbrev pub HasPattern : (List ℕ → Bool) → List ChainPolicy → ℕ → Type 0
HasPattern is chains line = IsFunction (IsSetting (λ decl s. is (text_of decl.kind s) ≡ true) line) chains

-- every packet passes a firewall: its first rule that is met allows, or its default
abbrev pub PassesAll : FunctionDecl → Type 0
PassesAll decl = (seen : Seen) → option_map_or (λ (r : RuleLine). r.allow) (first_met (λ (r : RuleLine). r.fit) seen (rules_of decl)) (default_of decl) ≡ true

-- a firewall on this line that is such
pub record IsFirewall (is : FunctionDecl → Type 0) (line : ℕ) (decl : FunctionDecl) : Type 0 where
  pub filters : is_firewall decl.kind ≡ true
  pub at_line : decl.line ≡ line
  pub so : is decl

-- a limiter whose burst, on this line, is less than what a frame of Ethernet carries
pub record IsSmallBurst (line : ℕ) (decl : FunctionDecl) : Type 0 where
  pub bytes : ℕ
  pub is : burst_of decl ≡ Some (line, bytes)
  pub small : bytes < 1500

-- a function in the order of a chain, behind the functions at these places, that is such
pub record IsPlaced (is : ChainPolicy → List ℕ → FunctionDecl → Type 0) (chains : List ChainPolicy) (orders : List Order) : Type 0 where
  pub before : List ChainPolicy
  pub chain : ChainPolicy
  pub after : List ChainPolicy
  pub of_chains : chains ≡ before ++ chain ∷ after
  pub front : List ℕ
  pub place : ℕ
  pub back : List ℕ
  pub of_order : order_at orders (length before) ≡ front ++ place ∷ back
  pub decl : FunctionDecl
  pub is_there : slice_get chain.functions place ≡ Some decl
  pub so : is chain front decl

-- no packet that meets a clause of the chain's match meets these clauses, and what the clause asks for isn't rewritten before
pub record IsExcluded (chain : ChainPolicy) (front : List ℕ) (clauses : Match) : Type 0 where
  pub other : Clause
  pub of_match : IsOne chain.fit.clauses other
  pub kept : is_rewritten chain.functions front other ≡ false
  pub never : (seen : Seen) → IsOfPacket seen → is_met seen other ≡ true → is_fitting clauses seen ≡ false

-- so of a rule
abbrev pub IsRuleExcluded : ℕ → ℕ → ChainPolicy → List ℕ → FunctionDecl → Type 0
IsRuleExcluded line by chain front decl = (chain.line ≡ by) × IsRule (λ d r. IsExcluded chain front r.fit) line decl

-- and of the destination that a balancer's virtual address is
pub record IsVipExcluded (line by : ℕ) (chain : ChainPolicy) (front : List ℕ) (decl : FunctionDecl) : Type 0 where
  pub vip : Clause
  pub of_lines : (vip4 (value_of address_of (codes "vip") decl) ≡ Some (line, vip)) ⊎ (vip6 (value_of address6_of (codes "vip") decl) ≡ Some (line, vip))
  pub of_chain : chain.line ≡ by
  pub excluded : IsExcluded chain front (record { clauses = vip ∷ [] })

-- the function at one of the places before is such, and on this line
pub record IsBefore (is : FunctionDecl → Type 0) (line : ℕ) (chain : ChainPolicy) (front : List ℕ) : Type 0 where
  pub place : ℕ
  pub among : IsOne front place
  pub at_line : line_at chain.functions place ≡ line
  pub decl : FunctionDecl
  pub is_there : slice_get chain.functions place ≡ Some decl
  pub so : is decl

abbrev pub IsRuleRewritten : ℕ → ℕ → ChainPolicy → List ℕ → FunctionDecl → Type 0
IsRuleRewritten line by chain front decl = IsRule (λ d r. IsBefore (λ nat. rewrites_source r.fit.clauses nat ≡ true) by chain front) line decl

abbrev pub IsRuleHidden : ℕ → ℕ → ChainPolicy → List ℕ → FunctionDecl → Type 0
IsRuleHidden line by chain front decl = IsRule (λ d r. IsBefore (λ encap. hides r.fit.clauses encap ≡ true) by chain (reverse front)) line decl

abbrev pub IsRedacted : ℕ → ℕ → ChainPolicy → List ℕ → FunctionDecl → Type 0
IsRedacted line by chain front decl = IsSetting (λ d s. (is_erasable (text_of d.kind s) ≡ true) × IsBefore (λ redactor. redacts (text_of d.kind s) redactor ≡ true) by chain front) line decl

-- a chain of limiters that takes packets from the inside of a nat in a chain after it
pub record IsLimiterApart (chains : List ChainPolicy) (line inside : ℕ) : Type 0 where
  pub earlier : ChainPolicy
  pub later : ChainPolicy
  pub follows : Follows chains earlier later
  pub nat : NatLines
  pub of_nats : IsOne (filter_map nat_of later.functions) nat
  pub at_line : earlier.line ≡ line
  pub at_inside : nat.inside_line ≡ inside
  pub takes : takes_from nat earlier ≡ true

abbrev pub Means : List Bool → List ChainPolicy → List Order → Finding → Type 0
Means cuts chains orders (ChainTaken line by) = IsCovered chain_asking chains line by
Means cuts chains orders (RuleCovered line by) = IsRuleCovered chains line by
Means cuts chains orders (NeverReached line by) = IsNeverReached chains orders line by
Means cuts chains orders (LimiterBehind line by) = IsLimiterBehind chains orders line by
Means cuts chains orders (DeniesIpv4Alone line) = DeniesAlone Ipv4 chains line
Means cuts chains orders (DeniesIpv6Alone line) = DeniesAlone Ipv6 chains line
Means cuts chains orders (PublicInside line inside) = IsPublicInside chains line inside
Means cuts chains orders (SharedPorts line by) = HasSharedPorts chains line by
Means cuts chains orders (ClausesClash line) = HasClauses MeetsNone chains line
Means cuts chains orders (BitsPastLength line) = HasClauses (λ fit. is_loose_fit fit ≡ true) chains line ⊎ IsLooseNat chains line
Means cuts chains orders (MarksIpv6 line) = IsFunction (IsRule (λ decl r. (is_marker decl.kind ≡ true) × (asks_by Ipv6 r.fit ≡ true)) line) chains
Means cuts chains orders (QuotedPattern line) = HasPattern is_quoted chains line
Means cuts chains orders (CommaPattern line) = HasPattern ends_in_comma chains line
Means cuts chains orders (CutPattern line) = IsFunction (IsSetting (λ decl s. (is_pattern_line decl.kind s ≡ true) × (is_cut_at cuts s.line ≡ true)) line) chains
Means cuts chains orders (GlobPattern line) = HasPattern is_glob chains line
Means cuts chains orders (RegexPattern line) = HasPattern is_regex chains line
Means cuts chains orders (DropsNone line) = IsFunction (IsFirewall PassesAll line) chains
Means cuts chains orders (DropsEach line) = IsFunction (IsFirewall PassesNone line) chains
Means cuts chains orders (SmallBurst line) = IsFunction (IsSmallBurst line) chains
Means cuts chains orders (MatchExcludes line by) = IsPlaced (IsRuleExcluded line by) chains orders
Means cuts chains orders (VipExcluded line by) = IsPlaced (IsVipExcluded line by) chains orders
Means cuts chains orders (SourceRewritten line by) = IsPlaced (IsRuleRewritten line by) chains orders
Means cuts chains orders (HiddenInTunnel line by) = IsPlaced (IsRuleHidden line by) chains orders
Means cuts chains orders (RedactedBefore line by) = IsPlaced (IsRedacted line by) chains orders
Means cuts chains orders (LimiterApart line by) = IsLimiterApart chains line by
