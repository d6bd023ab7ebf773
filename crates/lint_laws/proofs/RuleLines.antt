-- The clauses of rules, as findings read them and as functions of the other kinds are made of them.
use Rattle.std.proofs.Common.{◌≡◌, ◌∙◌, ℕ, List, [], ◌∷◌, map, Bool, true, false, refl, sym, ap, Some, None}
use Rattle.std.specs.Prelude.{◌&&◌, Option, is_none, filter_map, codes, if◌then◌else◌}
use Rattle.std.specs.List.{list_all}
use Rattle.std.specs.Option.{option_map, option_and_then}
use Rattle.std.specs.Str.{bytes_eq}
use Rattle.action_profile.specs.declared.kind.Kind.{Kind}
use Rattle.action_profile.specs.declared.kind.Kind.TheVariants as kinds
use Rattle.policy_text.specs.Bytes.{mac_of}
use Rattle.policy_text.specs.Clauses.{clause_of}
use Rattle.policy_text.specs.Values.{number_of}
use Rattle.policy_text.specs.declared.clause.Clause.{Clause}
use Rattle.policy_text.specs.declared.clause.Match.{Match}
use Rattle.policy_text.specs.declared.policy.Setting.{Setting}
use Rattle.function_lines.specs.KindLines.{KindLines}
use Rattle.function_lines.specs.Rules.{fit_of}
use Rattle.nf_filter.specs.declared.firewall.Rule.{Rule}
use Rattle.nf_filter.specs.Lines.{line_of as firewall_line}
use Rattle.nf_mark.specs.Links.{link_of}
use Rattle.nf_mark.specs.declared.link_address.LinkAddress.{LinkAddress}
use Rattle.nf_mark.specs.declared.marker.MarkRule.{MarkRule}
use Rattle.nf_mark.specs.declared.nexthop.NexthopRule.{NexthopRule}
use Rattle.nf_mark.specs.declared.tagger.TagRule.{TagRule}
use Rattle.nf_mark.specs.MarkerLines.{is_seen as marker_sees, rule_of as mark_rule, line_of as marker_line}
use Rattle.nf_mark.specs.NexthopLines.{rule_of as hop_rule, line_of as nexthop_line}
use Rattle.nf_mark.specs.TaggerLines.{is_seen as tagger_sees, rule_of as tag_rule, line_of as tagger_line}
use Rattle.policy_lint.specs.declared.rule_line.RuleLine.{RuleLine}
use Rattle.policy_lint.specs.Rules.{marker_fit, tagger_fit, nexthop_fit, rule_fit, rule_of}
use Rattle.lint_laws.specs.Reading.{read_rule}
use Rattle.lint_laws.proofs.Accepted.{AreSaid}
use Rattle.lint_laws.proofs.FirewallLines.{rule_in, rule_read}
use Rattle.lint_laws.proofs.Listed.{map_cons, cons_both, none_given}

-- the clauses of the rule that a line is, and its line
abbrev numbered : ℕ → ℕ → Bool → Match → RuleLine
numbered line owner allows fit = record { line = line; owner = owner; allow = allows; fit = fit }

fit_kept : (line owner : ℕ) (allows : Bool) (o : Option Match) → option_map (λ (r : RuleLine). r.fit) (option_map (numbered line owner allows) o) ≡ o
fit_kept line owner allows None = refl
fit_kept line owner allows (Some fit) = refl

pub fit_of_rule : (kind : Kind) (owner : ℕ) (s : Setting) → option_map (λ (r : RuleLine). r.fit) (rule_of kind owner s) ≡ rule_fit kind s.words
fit_of_rule kind owner s = fit_kept s.line owner _ (rule_fit kind s.words)

line_kept : (line owner : ℕ) (allows : Bool) (o : Option Match) (r : RuleLine) → option_map (numbered line owner allows) o ≡ Some r → line ≡ r.line
line_kept line owner allows None r h = absurd cc
line_kept line owner allows (Some fit) r h = let same : numbered line owner allows fit ≡ r = cc in ap (λ (x : RuleLine). x.line) same

pub line_of_rule : (kind : Kind) (owner : ℕ) (s : Setting) (r : RuleLine) → rule_of kind owner s ≡ Some r → s.line ≡ r.line
line_of_rule kind owner s r h = line_kept s.line owner _ (rule_fit kind s.words) r h

-- Firewalls.
read_kept : (o : Option RuleLine) → option_map (λ (r : RuleLine). r.fit) o ≡ option_map (λ (r : Rule). r.fit) (option_map read_rule o)
read_kept None = refl
read_kept (Some r) = refl

pub firewall_reads : (s : Setting) → is_none (firewall_line s.words) ≡ false → rule_fit kinds.Firewall s.words ≡ option_map (λ (r : Rule). r.fit) (rule_in s)
firewall_reads s said = sym (fit_of_rule kinds.Firewall 0 s) ∙ read_kept (rule_of kinds.Firewall 0 s) ∙ ap (option_map (λ (r : Rule). r.fit)) (rule_read 0 s said)

-- Markers.
abbrev such : (Clause → Bool) → Option Match → Option Match
such may o = option_and_then (λ fit. if list_all may fit.clauses then Some fit else None) o

mark_by : (tos : ℕ) (fit : Match) (b : Bool) → is_none (mark_rule (Some tos) (if b then Some fit else None)) ≡ false → Some fit ≡ option_map (λ (m : MarkRule). m.fit) (mark_rule (Some tos) (if b then Some fit else None))
mark_by tos fit true said = refl
mark_by tos fit false said = absurd cc

mark_read : (r k : Bool) (tos : Option ℕ) (fit : Option Match) → is_none (if r && k then mark_rule tos (such marker_sees fit) else None) ≡ false →
    (if r then fit else None) ≡ option_map (λ (m : MarkRule). m.fit) (if r && k then mark_rule tos (such marker_sees fit) else None)
mark_read false k tos fit said = absurd cc
mark_read true false tos fit said = absurd cc
mark_read true true None fit said = absurd cc
mark_read true true (Some tos) None said = absurd cc
mark_read true true (Some tos) (Some fit) said = mark_by tos fit (list_all marker_sees fit.clauses) said

marker_words : (words : List (List ℕ)) → is_none (marker_line words) ≡ false → rule_fit kinds.Marker words ≡ option_map (λ (m : MarkRule). m.fit) (marker_line words)
unfolding marker_line marker_fit
marker_words [] said = absurd cc
marker_words (lead ∷ []) said = absurd cc
marker_words (lead ∷ key ∷ []) said = absurd cc
marker_words (lead ∷ key ∷ tos ∷ clauses) said = mark_read (bytes_eq lead (codes "rule")) (bytes_eq key (codes "tos")) (number_of 20 255 tos) (fit_of clauses) said

pub marker_reads : (s : Setting) → is_none (marker_line s.words) ≡ false → rule_fit kinds.Marker s.words ≡ option_map (λ (m : MarkRule). m.fit) (marker_line s.words)
marker_reads s said = marker_words s.words said

-- Taggers.
tag_by : (vid priority : ℕ) (fit : Match) (b : Bool) → is_none (tag_rule (Some vid) (Some priority) (if b then Some fit else None)) ≡ false →
    Some fit ≡ option_map (λ (t : TagRule). t.fit) (tag_rule (Some vid) (Some priority) (if b then Some fit else None))
tag_by vid priority fit true said = refl
tag_by vid priority fit false said = absurd cc

tag_read : (r i p : Bool) (vid priority : Option ℕ) (fit : Option Match) → is_none (if r && (i && p) then tag_rule vid priority (such tagger_sees fit) else None) ≡ false →
    (if r then fit else None) ≡ option_map (λ (t : TagRule). t.fit) (if r && (i && p) then tag_rule vid priority (such tagger_sees fit) else None)
tag_read false i p vid priority fit said = absurd cc
tag_read true false p vid priority fit said = absurd cc
tag_read true true false vid priority fit said = absurd cc
tag_read true true true None priority fit said = absurd cc
tag_read true true true (Some vid) None fit said = absurd cc
tag_read true true true (Some vid) (Some priority) None said = absurd cc
tag_read true true true (Some vid) (Some priority) (Some fit) said = tag_by vid priority fit (list_all tagger_sees fit.clauses) said

tagger_words : (words : List (List ℕ)) → is_none (tagger_line words) ≡ false → rule_fit kinds.Tagger words ≡ option_map (λ (t : TagRule). t.fit) (tagger_line words)
unfolding tagger_line tagger_fit
tagger_words [] said = absurd cc
tagger_words (lead ∷ []) said = absurd cc
tagger_words (lead ∷ id_key ∷ []) said = absurd cc
tagger_words (lead ∷ id_key ∷ vid ∷ []) said = absurd cc
tagger_words (lead ∷ id_key ∷ vid ∷ priority_key ∷ []) said = absurd cc
tagger_words (lead ∷ id_key ∷ vid ∷ priority_key ∷ priority ∷ clauses) said =
    tag_read (bytes_eq lead (codes "rule")) (bytes_eq id_key (codes "vid")) (bytes_eq priority_key (codes "pcp")) (number_of 20 4095 vid) (number_of 20 7 priority) (fit_of clauses) said

pub tagger_reads : (s : Setting) → is_none (tagger_line s.words) ≡ false → rule_fit kinds.Tagger s.words ≡ option_map (λ (t : TagRule). t.fit) (tagger_line s.words)
tagger_reads s said = tagger_words s.words said

-- Nexthops.
hop_read : (r t f : Bool) (clause : Option Clause) (to from : Option LinkAddress) → is_none (if r && (t && f) then hop_rule clause to from else None) ≡ false →
    (if r then option_map (λ (c : Clause). record { clauses = c ∷ [] }) clause else None) ≡ option_map (λ (h : NexthopRule). h.fit) (if r && (t && f) then hop_rule clause to from else None)
hop_read false t f clause to from said = absurd cc
hop_read true false f clause to from said = absurd cc
hop_read true true false clause to from said = absurd cc
hop_read true true true None to from said = absurd cc
hop_read true true true (Some clause) None from said = absurd cc
hop_read true true true (Some clause) (Some to) None said = absurd cc
hop_read true true true (Some clause) (Some to) (Some from) said = refl

nexthop_words : (words : List (List ℕ)) → is_none (nexthop_line words) ≡ false → rule_fit kinds.Nexthop words ≡ option_map (λ (h : NexthopRule). h.fit) (nexthop_line words)
unfolding nexthop_line nexthop_fit
nexthop_words [] said = absurd cc
nexthop_words (lead ∷ []) said = absurd cc
nexthop_words (lead ∷ prefix ∷ []) said = absurd cc
nexthop_words (lead ∷ prefix ∷ to ∷ []) said = absurd cc
nexthop_words (lead ∷ prefix ∷ to ∷ dst ∷ []) said = absurd cc
nexthop_words (lead ∷ prefix ∷ to ∷ dst ∷ from ∷ []) said = absurd cc
nexthop_words (lead ∷ prefix ∷ to ∷ dst ∷ from ∷ src ∷ []) said =
    hop_read (bytes_eq lead (codes "rule")) (bytes_eq to (codes "to")) (bytes_eq from (codes "from")) (clause_of (codes "dst") prefix) (option_map link_of (mac_of dst)) (option_map link_of (mac_of src)) said
nexthop_words (lead ∷ prefix ∷ to ∷ dst ∷ from ∷ src ∷ more ∷ words) said = absurd cc

pub nexthop_reads : (s : Setting) → is_none (nexthop_line s.words) ≡ false → rule_fit kinds.Nexthop s.words ≡ option_map (λ (h : NexthopRule). h.fit) (nexthop_line s.words)
nexthop_reads s said = nexthop_words s.words said

-- All lines of a kind with rules.
pub fits_same : {L R : Type 0} (lines : KindLines L) (made : Setting → Option R) (fit : R → Match) (kind : Kind) →
    ((s : Setting) → is_none (lines.line_of s.words) ≡ false → rule_fit kind s.words ≡ option_map fit (made s)) →
    (owner : ℕ) (settings : List Setting) → AreSaid lines settings → map (λ (r : RuleLine). r.fit) (filter_map (rule_of kind owner) settings) ≡ map fit (filter_map made settings)
fits_same lines made fit kind reads owner [] said = refl
fits_same lines made fit kind reads owner (s ∷ later) said =
    map_cons (λ (r : RuleLine). r.fit) (rule_of kind owner s) (filter_map (rule_of kind owner) later)
    ∙ cons_both (option_map (λ (r : RuleLine). r.fit) (rule_of kind owner s)) (option_map fit (made s)) (map (λ (r : RuleLine). r.fit) (filter_map (rule_of kind owner) later)) (map fit (filter_map made later))
    (fit_of_rule kind owner s ∙ reads s said.0) (fits_same lines made fit kind reads owner later said.1)
    ∙ sym (map_cons fit (made s) (filter_map made later))

-- A kind without rules.
abbrev pub no_rule_in : Kind → Type 0
no_rule_in kind = (words : List (List ℕ)) → rule_fit kind words ≡ None

pub no_rules : (kind : Kind) → no_rule_in kind → (owner : ℕ) (settings : List Setting) → map (λ (r : RuleLine). r.fit) (filter_map (rule_of kind owner) settings) ≡ []
no_rules kind none owner settings =
    ap (map (λ (r : RuleLine). r.fit)) (none_given (rule_of kind owner) settings (λ s. ap (option_map (numbered s.line owner _)) (none s.words)))

pub none_either : (b : Bool) (o : Option Match) → o ≡ None → (if b then o else None) ≡ None
none_either true o none = none
none_either false o none = refl
