-- For proofs: what is odd in a function by the functions before it in the order of its chain. A place is that of a function as declared, counted from 0.
use Rattle.std.specs.Prelude.{ℕ, ◌≡◌, List, [], ◌∷◌, ◌++◌, Bool, true, false, not, ◌&&◌, ◌==◌, find, reverse, if◌then◌else◌, nat_lt, length, slice_get, Option, Some, None, codes}
use Rattle.std.specs.Option.{option_map, option_map_or, option_and_then, option_to_list}
use Rattle.std.specs.List.{list_any}
use Rattle.std.specs.Str.{bytes_eq}
use Rattle.packet_fields.specs.declared.field.Field.TheVariants.{Tag, SrcIp, DstIp, SrcPort, DstPort}
use Rattle.action_profile.specs.Profiles.{profile_of, writes_of}
use Rattle.action_profile.specs.declared.kind.Kind.{Kind}
use Rattle.action_profile.specs.declared.kind.Kind.TheVariants.{Balancer, Encap, Redactor, Signature}
use Rattle.policy_text.specs.Addresses6.{address6_of}
use Rattle.policy_text.specs.Meeting.{is_within}
use Rattle.policy_text.specs.Values.{address_of}
use Rattle.policy_text.specs.declared.clause.Clause.{Clause}
use Rattle.policy_text.specs.declared.clause.Clause.TheVariants.{Src, Dst, Src6, Dst6, Sport, Dport, Proto, TagId, NoTag, Version4, Version6, Flags}
use Rattle.policy_text.specs.declared.policy.ChainPolicy.{ChainPolicy}
use Rattle.policy_text.specs.declared.policy.FunctionDecl.{FunctionDecl}
use Rattle.policy_text.specs.declared.policy.Setting.{Setting}
use Rattle.policy_lint.specs.declared.finding.Finding.{Finding}
use Rattle.policy_lint.specs.declared.finding.Finding.TheVariants.{MatchExcludes, VipExcluded, SourceRewritten, HiddenInTunnel, RedactedBefore}
use Rattle.policy_lint.specs.declared.nats.NatLines.{NatLines}
use Rattle.policy_lint.specs.declared.rule_line.RuleLine.{RuleLine}
use Rattle.policy_lint.specs.Behind.{is_at, line_at, is_whole}
use Rattle.policy_lint.specs.Gathering.{told_if, gathered}
use Rattle.policy_lint.specs.Implying.{lies_in}
use Rattle.policy_lint.specs.Nats.{value_of, nat_of}
use Rattle.policy_lint.specs.Opposing.{opposes}
use Rattle.policy_lint.specs.Patterns.{text_of}
use Rattle.policy_lint.specs.Rules.{rules_of}

-- Clauses of a chain's match.

-- the function writes what the clause asks for
abbrev pub rewrites : Clause → FunctionDecl → Bool
rewrites (Src prefix bits) decl = writes_of (profile_of decl.kind) SrcIp
rewrites (Src6 prefix bits) decl = writes_of (profile_of decl.kind) SrcIp
rewrites (Dst prefix bits) decl = writes_of (profile_of decl.kind) DstIp
rewrites (Dst6 prefix bits) decl = writes_of (profile_of decl.kind) DstIp
rewrites (Sport low high) decl = writes_of (profile_of decl.kind) SrcPort
rewrites (Dport low high) decl = writes_of (profile_of decl.kind) DstPort
rewrites (TagId id) decl = writes_of (profile_of decl.kind) Tag
rewrites NoTag decl = writes_of (profile_of decl.kind) Tag
rewrites (Proto p) decl = false
rewrites (Flags mask set) decl = false
rewrites Version4 decl = false
rewrites Version6 decl = false

-- one of the functions at these places does
abbrev pub is_rewritten : List FunctionDecl → List ℕ → Clause → Bool
is_rewritten functions before clause = list_any (is_at (rewrites clause) functions) before

-- what comes behind these places still meets the second clause, and so doesn't meet the first
abbrev pub is_excluding : List FunctionDecl → List ℕ → Clause → Clause → Bool
is_excluding functions before clause other = opposes clause other && not (is_rewritten functions before other)

abbrev pub is_excluded : ChainPolicy → List ℕ → Clause → Bool
is_excluded chain before clause = list_any (is_excluding chain.functions before clause) chain.fit.clauses

abbrev pub has_excluded : ChainPolicy → List ℕ → List Clause → Bool
has_excluded chain before clauses = list_any (is_excluded chain before) clauses

-- the virtual address of a balancer, as a clause, with its line
abbrev pub is_balancer : Kind → Bool
is_balancer Balancer = true
is_balancer kind = false

abbrev pub told_vip : ChainPolicy → List ℕ → Option (ℕ × Clause) → List Finding
told_vip chain before None = []
told_vip chain before (Some vip) = told_if (is_excluded chain before vip.1) (VipExcluded vip.0 chain.line)

abbrev pub vip4 : Option (ℕ × ℕ) → Option (ℕ × Clause)
vip4 vip = option_map (λ v. (v.0, Dst v.1 32)) vip

abbrev pub vip6 : Option (ℕ × ℕ) → Option (ℕ × Clause)
vip6 vip = option_map (λ v. (v.0, Dst6 v.1 128)) vip

abbrev pub told_balancer : ChainPolicy → List ℕ → FunctionDecl → List Finding
told_balancer chain before decl =
    if is_balancer decl.kind
    then told_vip chain before (vip4 (value_of address_of (codes "vip") decl)) ++ told_vip chain before (vip6 (value_of address6_of (codes "vip") decl))
    else []

-- Sources that a nat rewrites.

-- the clause asks for sources inside, of which the public address isn't one
abbrev pub asks_inside : NatLines → Clause → Bool
asks_inside n (Src prefix bits) = lies_in prefix bits n.prefix n.bits && not (is_within prefix bits n.public)
asks_inside n clause = false

-- a nat that rewrites the sources that these clauses ask for
abbrev pub rewrites_source : List Clause → FunctionDecl → Bool
rewrites_source clauses decl = option_map_or (λ n. list_any (asks_inside n) clauses) (nat_of decl) false

abbrev pub told_source : ChainPolicy → List ℕ → RuleLine → Option Finding
told_source chain before r =
    option_map (λ place. SourceRewritten r.line (line_at chain.functions place)) (find (is_at (rewrites_source r.fit.clauses) chain.functions) before)

-- Addresses in a tunnel.

abbrev pub is_encap : Kind → Bool
is_encap Encap = true
is_encap kind = false

-- the clause asks for an address, of which this one isn't
abbrev pub misses : List ℕ → FunctionDecl → ℕ → ℕ → Bool
misses key decl prefix bits = option_map_or (λ (v : ℕ × ℕ). not (is_within prefix bits v.1)) (value_of address_of key decl) false

-- the clause asks for a source that isn't the entry of a tunnel, or for a destination that isn't its exit
abbrev pub is_hidden : FunctionDecl → Clause → Bool
is_hidden decl (Src prefix bits) = misses (codes "entry") decl prefix bits
is_hidden decl (Dst prefix bits) = misses (codes "exit") decl prefix bits
is_hidden decl clause = false

abbrev pub hides : List Clause → FunctionDecl → Bool
hides clauses decl = is_encap decl.kind && list_any (is_hidden decl) clauses

-- the first of these places, the last before a function first, whose function rewrites packets whole
abbrev pub last_whole : List FunctionDecl → List ℕ → Option ℕ
last_whole functions newest = find (is_at is_whole functions) newest

abbrev pub told_hidden_at : List FunctionDecl → RuleLine → ℕ → List Finding
told_hidden_at functions r place = told_if (is_at (hides r.fit.clauses) functions place) (HiddenInTunnel r.line (line_at functions place))

abbrev pub told_hidden : ChainPolicy → List ℕ → RuleLine → List Finding
told_hidden chain newest r = option_map_or (told_hidden_at chain.functions r) (last_whole chain.functions newest) []

-- Patterns that a redactor overwrites.

abbrev pub is_redactor : Kind → Bool
is_redactor Redactor = true
is_redactor kind = false

abbrev pub is_signature : Kind → Bool
is_signature Signature = true
is_signature kind = false

-- a redactor of this pattern
abbrev pub redacts : List ℕ → FunctionDecl → Bool
redacts word decl = is_redactor decl.kind && list_any (λ (s : Setting). bytes_eq (text_of decl.kind s) word) decl.settings

-- a pattern that has none of the bytes `x` that a redactor writes
abbrev pub is_erasable : List ℕ → Bool
is_erasable word = nat_lt 0 (length word) && not (list_any (λ b. b == 120) word)

abbrev pub told_redacted : ChainPolicy → List ℕ → ℕ → List ℕ → Option Finding
told_redacted chain before line word =
    if is_erasable word
    then option_map (λ place. RedactedBefore line (line_at chain.functions place)) (find (is_at (redacts word) chain.functions) before)
    else None

abbrev pub told_signature : ChainPolicy → List ℕ → FunctionDecl → List Finding
told_signature chain before decl =
    if is_signature decl.kind
    then gathered (λ others (s : Setting). option_to_list (told_redacted chain before s.line (text_of decl.kind s))) [] decl.settings
    else []

-- A function in its place.

-- a rule behind these places, none of whose functions rewrites packets whole
abbrev pub told_plain_rule : ChainPolicy → List ℕ → RuleLine → List Finding
told_plain_rule chain before r = told_if (has_excluded chain before r.fit.clauses) (MatchExcludes r.line chain.line) ++ option_to_list (told_source chain before r)

abbrev pub told_plain : ChainPolicy → List ℕ → FunctionDecl → List Finding
told_plain chain before decl =
    gathered (λ others r. told_plain_rule chain before r) [] (rules_of decl) ++ (told_balancer chain before decl ++ told_signature chain before decl)

-- a function behind one that rewrites packets whole
abbrev pub told_behind_whole : ChainPolicy → List ℕ → FunctionDecl → List Finding
told_behind_whole chain before decl = gathered (λ others r. told_hidden chain (reverse before) r) [] (rules_of decl)

abbrev pub told_step : ChainPolicy → List ℕ → FunctionDecl → List Finding
told_step chain before decl =
    if list_any (is_at is_whole chain.functions) before then told_behind_whole chain before decl else told_plain chain before decl

abbrev pub told_place : ChainPolicy → List ℕ → ℕ → List Finding
told_place chain before place = option_map_or (told_step chain before) (slice_get chain.functions place) []

abbrev pub walked : ChainPolicy → List ℕ → List Finding
walked chain order = gathered (told_place chain) [] order
