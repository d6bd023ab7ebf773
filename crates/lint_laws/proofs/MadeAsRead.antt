-- Functions are made as findings read their declarations.
use Rattle.std.proofs.Common.{◌≡◌, ◌∙◌, List, [], map, refl, sym, ap, subst, Some, None}
use Rattle.std.specs.Prelude.{Option, filter_map, codes}
use Rattle.std.specs.Option.{option_map}
use Rattle.std.specs.Str.{bytes_eq}
use Rattle.action_profile.specs.declared.kind.Kind.{Kind}
use Rattle.action_profile.specs.declared.kind.Kind.TheVariants as kinds
use Rattle.policy_text.specs.declared.clause.Match.{Match}
use Rattle.policy_text.specs.declared.policy.FunctionDecl.{FunctionDecl}
use Rattle.nf_filter.specs.declared.firewall.Rule.{Rule}
use Rattle.nf_filter.specs.Firewalls.{open_firewall}
use Rattle.nf_filter.specs.Lines.{firewall_lines}
use Rattle.nf_mark.specs.declared.marker.MarkRule.{MarkRule}
use Rattle.nf_mark.specs.declared.nexthop.NexthopRule.{NexthopRule}
use Rattle.nf_mark.specs.declared.tagger.TagRule.{TagRule}
use Rattle.nf_mark.specs.MarkerLines.{marker_lines, line_of as marker_line}
use Rattle.nf_mark.specs.NexthopLines.{nexthop_lines, line_of as nexthop_line}
use Rattle.nf_mark.specs.TaggerLines.{tagger_lines, line_of as tagger_line}
use Rattle.net_functions.specs.Builds.{making_of, function_of, refused_line}
use Rattle.net_functions.specs.declared.net_function.NetFunction.TheVariants as functions
use Rattle.net_functions.specs.declared.making.Made.TheVariants as made
use Rattle.policy_lint.specs.declared.rule_line.RuleLine.{RuleLine}
use Rattle.policy_lint.specs.Nats.{nat_of}
use Rattle.policy_lint.specs.Rules.{word_of, rule_of}
use Rattle.lint_laws.specs.Made.{made_fits}
use Rattle.lint_laws.specs.Reading.{read_firewall, read_fits, read_nat}
use Rattle.lint_laws.proofs.Accepted.{all_said}
use Rattle.lint_laws.proofs.FirewallLines.{firewall_read, rule_in, rules_made}
use Rattle.lint_laws.proofs.NatLines.{nat_read}
use Rattle.lint_laws.proofs.RuleLines.{fits_same, no_rule_in, no_rules, none_either, firewall_reads, marker_reads, tagger_reads, nexthop_reads}

pub firewall_made : (decl : FunctionDecl) → decl.kind ≡ kinds.Firewall → refused_line decl ≡ None → function_of decl ≡ made.Function (functions.Firewall (read_firewall decl))
unfolding making_of
firewall_made decl is accepted =
    ap (λ kind. (making_of kind).made decl) is
    ∙ ap (λ f. made.Function (functions.Firewall f)) (firewall_read decl is (subst (λ kind. (making_of kind).refused decl ≡ None) is accepted))

mapped : {A B C : Type 0} (f : A → B) (g : B → C) (o : Option A) → option_map (λ x. g (f x)) o ≡ option_map g (option_map f o)
mapped f g None = refl
mapped f g (Some x) = refl

pub nat_made : (decl : FunctionDecl) → decl.kind ≡ kinds.Nat → refused_line decl ≡ None → option_map (λ n. made.Function (functions.Nat (read_nat n))) (nat_of decl) ≡ Some (function_of decl)
unfolding making_of
nat_made decl is accepted =
    mapped read_nat (λ n. made.Function (functions.Nat n)) (nat_of decl)
    ∙ ap (option_map (λ n. made.Function (functions.Nat n))) (nat_read decl (subst (λ kind. (making_of kind).refused decl ≡ None) is accepted) is)
    ∙ sym (ap (λ kind. Some ((making_of kind).made decl)) is)

module _ (decl : FunctionDecl) where
  -- what is read as a function of this kind
  abbrev read_as : Kind → List Match
  read_as kind = map (λ (r : RuleLine). r.fit) (filter_map (rule_of kind decl.line) decl.settings)

  absent : (kind : Kind) → no_rule_in kind → [] ≡ read_as kind
  absent kind none = sym (no_rules kind none decl.line decl.settings)

  made_by : (kind : Kind) → (making_of kind).refused decl ≡ None → made_fits ((making_of kind).made decl) ≡ read_as kind
  unfolding making_of
  made_by kinds.Firewall none =
      ap (map (λ (r : Rule). r.fit)) (rules_made open_firewall decl.settings)
      ∙ sym (fits_same firewall_lines rule_in (λ (r : Rule). r.fit) kinds.Firewall firewall_reads decl.line decl.settings (all_said firewall_lines decl none))
  made_by kinds.Marker none = sym (fits_same marker_lines (λ s. marker_line s.words) (λ (r : MarkRule). r.fit) kinds.Marker marker_reads decl.line decl.settings (all_said marker_lines decl none))
  made_by kinds.Tagger none = sym (fits_same tagger_lines (λ s. tagger_line s.words) (λ (r : TagRule). r.fit) kinds.Tagger tagger_reads decl.line decl.settings (all_said tagger_lines decl none))
  made_by kinds.Nexthop none = sym (fits_same nexthop_lines (λ s. nexthop_line s.words) (λ (r : NexthopRule). r.fit) kinds.Nexthop nexthop_reads decl.line decl.settings (all_said nexthop_lines decl none))
  made_by kinds.Nat none = absent kinds.Nat (λ words. none_either (bytes_eq (word_of words 0) (codes "rule")) None refl)
  made_by kinds.Balancer none = absent kinds.Balancer (λ words. none_either (bytes_eq (word_of words 0) (codes "rule")) None refl)
  made_by kinds.Monitor none = absent kinds.Monitor (λ words. none_either (bytes_eq (word_of words 0) (codes "rule")) None refl)
  made_by kinds.Limiter none = absent kinds.Limiter (λ words. none_either (bytes_eq (word_of words 0) (codes "rule")) None refl)
  made_by kinds.Hop none = absent kinds.Hop (λ words. none_either (bytes_eq (word_of words 0) (codes "rule")) None refl)
  made_by kinds.Untagger none = absent kinds.Untagger (λ words. none_either (bytes_eq (word_of words 0) (codes "rule")) None refl)
  made_by kinds.Signature none = absent kinds.Signature (λ words. none_either (bytes_eq (word_of words 0) (codes "rule")) None refl)
  made_by kinds.Redactor none = absent kinds.Redactor (λ words. none_either (bytes_eq (word_of words 0) (codes "rule")) None refl)
  made_by kinds.Encap none = absent kinds.Encap (λ words. none_either (bytes_eq (word_of words 0) (codes "rule")) None refl)
  made_by kinds.Decap none = absent kinds.Decap (λ words. none_either (bytes_eq (word_of words 0) (codes "rule")) None refl)

  pub rules_made_as_read : refused_line decl ≡ None → made_fits (function_of decl) ≡ read_fits decl
  rules_made_as_read accepted = made_by decl.kind accepted
