-- Functions of one kind whose rules decide the same do the same.
use Rattle.std.proofs.Common.{◌≡◌, ◌∙◌, ℕ, List, [], ◌∷◌, ◌++◌, Bool, refl, sym, ap, Some, None}
use Rattle.std.specs.Prelude.{Option, fold, if◌then◌else◌, ◌&&◌}
use Rattle.std.specs.List.{cons_option}
use Rattle.std.specs.Option.{option_map, option_map_or, option_and_then}
use Rattle.packet_fields.specs.declared.field.Field.TheVariants.{Tos, Tag, LinkDst, LinkSrc}
use Rattle.policy_text.specs.declared.policy.FunctionDecl.{FunctionDecl}
use Rattle.policy_text.specs.declared.policy.Setting.{Setting}
use Rattle.policy_text.specs.declared.seen.Seen.{Seen}
use Rattle.frame_seen.specs.Seeing.{seen_by}
use Rattle.chain_walk.specs.Step.{is_drop}
use Rattle.function_lines.specs.KindLines.{said_by}
use Rattle.function_lines.specs.Rules.{first_met}
use Rattle.nf_filter.specs.declared.firewall.Firewall.{Firewall}
use Rattle.nf_filter.specs.declared.firewall.Rule.{Rule}
use Rattle.nf_filter.specs.declared.lines.FirewallLine.{FirewallLine}
use Rattle.nf_filter.specs.declared.lines.FirewallLine.TheVariants as lines
use Rattle.nf_filter.specs.Lines.{firewall_lines, line_of as firewall_line}
use Rattle.nf_filter.specs.Firewalls.{open_firewall, with_line, firewall_by, firewall_of, passes}
use Rattle.nf_filter.specs.Verdicts.{verdict_by}
use Rattle.nf_mark.specs.declared.marker.Marker.{Marker}
use Rattle.nf_mark.specs.declared.nexthop.Nexthop.{Nexthop}
use Rattle.nf_mark.specs.declared.tagger.Tagger.{Tagger}
use Rattle.nf_mark.specs.Markers.{tos_for}
use Rattle.nf_mark.specs.Nexthops.{links_by}
use Rattle.nf_mark.specs.OneField.{only}
use Rattle.nf_mark.specs.Taggers.{control_for, tagged}
use Rattle.net_functions.specs.NetFunctions.{profile_by, step_by}
use Rattle.net_functions.specs.declared.net_function.NetFunction.TheVariants as functions
use Rattle.lint_laws.specs.Alike.{AreAlike, DropsBy}
use Rattle.lint_laws.proofs.FirewallLines.{as_rule, rule_in, rules_made}
use Rattle.lint_laws.proofs.Needless.{IsLeft}

-- Firewalls.
decided : (f g : Firewall) → f.default ≡ g.default → ((seen : Seen) → first_met (λ (r : Rule). r.fit) seen f.rules ≡ first_met (λ (r : Rule). r.fit) seen g.rules) → (seen : Seen) → passes f seen ≡ passes g seen
unfolding passes
decided f g default same seen = ap (λ d. option_map_or (λ (r : Rule). r.allow) (first_met (λ (r : Rule). r.fit) seen f.rules) d) default ∙ ap (λ o. option_map_or (λ (r : Rule). r.allow) o g.default) (same seen)

pub firewalls_alike : (f g : Firewall) → ((seen : Seen) → passes f seen ≡ passes g seen) → AreAlike (functions.Firewall f) (functions.Firewall g)
unfolding profile_by step_by
firewalls_alike f g same = record {
  profile = refl;
  verdict = λ shown. ap verdict_by (same _);
  written = λ shown. refl;
  stays = λ shown. refl;
  other_stays = λ shown. refl;
}

-- what lines say of the default alone
default_alone : (f g : Firewall) (said : List FirewallLine) → f.default ≡ g.default → (fold with_line f said).default ≡ (fold with_line g said).default
default_alone f g [] same = same
default_alone f g (lines.Default allow ∷ said) same = default_alone (with_line f (lines.Default allow)) (with_line g (lines.Default allow)) said refl
default_alone f g (lines.Rule r ∷ said) same = default_alone (with_line f (lines.Rule r)) (with_line g (lines.Rule r)) said same

rule_alone : (o : Option FirewallLine) (r : Rule) → option_and_then as_rule o ≡ Some r → o ≡ Some (lines.Rule r)
rule_alone None r h = absurd cc
rule_alone (Some (lines.Default allow)) r h = absurd cc
rule_alone (Some (lines.Rule x)) r h = let same : x ≡ r = cc in ap (λ y. Some (lines.Rule y)) same

default_without : (f : Firewall) (front back : List Setting) (s : Setting) (r : Rule) → rule_in s ≡ Some r →
    (fold with_line f (said_by firewall_lines (front ++ s ∷ back))).default ≡ (fold with_line f (said_by firewall_lines (front ++ back))).default
default_without f [] back s r is =
    ap (λ o. (fold with_line f (cons_option o (said_by firewall_lines back))).default) (rule_alone (firewall_line s.words) r is)
    ∙ default_alone (with_line f (lines.Rule r)) f (said_by firewall_lines back) refl
default_without f (t ∷ front) back s r is = by (firewall_line t.words) (λ g. default_without g front back s r is)
  where
    by : (o : Option FirewallLine) → ((g : Firewall) → (fold with_line g (said_by firewall_lines (front ++ s ∷ back))).default ≡ (fold with_line g (said_by firewall_lines (front ++ back))).default) →
        (fold with_line f (cons_option o (said_by firewall_lines (front ++ s ∷ back)))).default ≡ (fold with_line f (cons_option o (said_by firewall_lines (front ++ back)))).default
    by None rest = rest f
    by (Some line) rest = rest (with_line f line)

pub firewall_without : (decl : FunctionDecl) (line : ℕ) (left : IsLeft rule_in (λ (r : Rule). r.fit) decl.settings line) →
    AreAlike (functions.Firewall (firewall_of decl)) (functions.Firewall (firewall_of (record decl { settings = left.front ++ left.back })))
firewall_without decl line left =
    let other : Firewall = firewall_of (record decl { settings = left.front ++ left.back }) in
    firewalls_alike (firewall_of decl) other
    (decided (firewall_of decl) other
    (ap (λ settings. (firewall_by (said_by firewall_lines settings)).default) left.is ∙ default_without open_firewall left.front left.back left.rule left.of_rule left.gives)
    (λ seen. ap (first_met (λ (r : Rule). r.fit) seen) (rules_made open_firewall decl.settings) ∙ left.same seen ∙ ap (first_met (λ (r : Rule). r.fit) seen) (sym (rules_made open_firewall (left.front ++ left.back)))))

-- Markers.
same_tos : (m n : Marker) → ((seen : Seen) → first_met (λ r. r.fit) seen m.rules ≡ first_met (λ r. r.fit) seen n.rules) → (seen : Seen) → tos_for m seen ≡ tos_for n seen
unfolding tos_for
same_tos m n same seen = ap (option_map (λ r. r.tos)) (same seen)

marked_alike : (m n : Marker) → ((seen : Seen) → tos_for m seen ≡ tos_for n seen) → AreAlike (functions.Marker m) (functions.Marker n)
unfolding profile_by step_by
marked_alike m n same = record {
  profile = refl;
  verdict = λ shown. refl;
  written = λ shown. ap (λ tos. only Tos (option_map (λ t. t ∷ []) (if shown.has Tos then tos else None))) (same _);
  stays = λ shown. refl;
  other_stays = λ shown. refl;
}

pub markers_alike : (m n : Marker) → ((seen : Seen) → first_met (λ r. r.fit) seen m.rules ≡ first_met (λ r. r.fit) seen n.rules) → AreAlike (functions.Marker m) (functions.Marker n)
markers_alike m n same = marked_alike m n (same_tos m n same)

-- Taggers.
same_control : (t u : Tagger) → ((seen : Seen) → first_met (λ r. r.fit) seen t.rules ≡ first_met (λ r. r.fit) seen u.rules) → (seen : Seen) → control_for t seen ≡ control_for u seen
unfolding control_for
same_control t u same seen = ap (option_map (λ r. r.control)) (same seen)

tagged_alike : (t u : Tagger) → ((seen : Seen) → control_for t seen ≡ control_for u seen) → AreAlike (functions.Tagger t) (functions.Tagger u)
unfolding profile_by step_by
tagged_alike t u same = record {
  profile = refl;
  verdict = λ shown. refl;
  written = λ shown. ap (λ control. only Tag (tagged (if shown.has Tag then control else None) (shown.values Tag))) (same _);
  stays = λ shown. refl;
  other_stays = λ shown. refl;
}

pub taggers_alike : (t u : Tagger) → ((seen : Seen) → first_met (λ r. r.fit) seen t.rules ≡ first_met (λ r. r.fit) seen u.rules) → AreAlike (functions.Tagger t) (functions.Tagger u)
taggers_alike t u same = tagged_alike t u (same_control t u same)

-- Nexthops.
pub nexthops_alike : (n h : Nexthop) → ((seen : Seen) → first_met (λ r. r.fit) seen n.rules ≡ first_met (λ r. r.fit) seen h.rules) → AreAlike (functions.Nexthop n) (functions.Nexthop h)
unfolding profile_by step_by
nexthops_alike n h same = record {
  profile = refl;
  verdict = λ shown. refl;
  written = λ shown. ap (λ r. links_by (if shown.has LinkDst && shown.has LinkSrc then r else None)) (same (seen_by shown.values shown.fixed.proto));
  stays = λ shown. refl;
  other_stays = λ shown. refl;
}

-- Firewalls that pass every packet, or none.
pub firewall_drops : (f : Firewall) (drops lets : Bool) → is_drop (verdict_by lets) ≡ drops → ((seen : Seen) → passes f seen ≡ lets) → DropsBy drops (functions.Firewall f)
unfolding profile_by step_by
firewall_drops f drops lets is each = record {
  verdict = λ shown. ap (λ b. is_drop (verdict_by b)) (each _) ∙ is;
  stays = λ shown. refl;
}
