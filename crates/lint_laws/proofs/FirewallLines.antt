-- A firewall's lines, as findings read them and as firewalls are made of them.
use Rattle.std.proofs.Common.{◌≡◌, ◌∙◌, ℕ, List, [], ◌∷◌, ◌++◌, map, Bool, true, false, refl, sym, ap, Some, None, append_assoc}
use Rattle.std.specs.Prelude.{◌&&◌, ◌||◌, not, Option, is_none, filter_map, fold, codes, if◌then◌else◌}
use Rattle.std.specs.List.{list_any, cons_option}
use Rattle.std.specs.Option.{option_map, option_and_then}
use Rattle.std.specs.Str.{bytes_eq}
use Rattle.std.proofs.lemmas.List.{append-nil}
use Rattle.std.proofs.lemmas.Slice.Eq.{bytes_eq-Decides}
use Rattle.action_profile.specs.declared.kind.Kind.TheVariants as kinds
use Rattle.policy_text.specs.declared.clause.Match.{Match}
use Rattle.policy_text.specs.declared.policy.Setting.{Setting}
use Rattle.policy_text.specs.declared.policy.FunctionDecl.{FunctionDecl}
use Rattle.function_lines.specs.KindLines.{said_by, refused_line}
use Rattle.function_lines.specs.Rules.{fit_of}
use Rattle.nf_filter.specs.declared.firewall.Firewall.{Firewall}
use Rattle.nf_filter.specs.declared.firewall.Rule.{Rule}
use Rattle.nf_filter.specs.declared.lines.FirewallLine.{FirewallLine}
use Rattle.nf_filter.specs.declared.lines.FirewallLine.TheVariants as lines
use Rattle.nf_filter.specs.Lines.{verdict_of, rule_of as made_rule, default_of as made_default, line_of, firewall_lines}
use Rattle.nf_filter.specs.Firewalls.{open_firewall, with_line, firewall_of}
use Rattle.policy_lint.specs.declared.rule_line.RuleLine.{RuleLine}
use Rattle.policy_lint.specs.Firewalls.{sets_deny, default_of}
use Rattle.policy_lint.specs.Nats.{sets}
use Rattle.policy_lint.specs.Rules.{word_of, firewall_fit, rule_of, rules_of}
use Rattle.lint_laws.specs.Reading.{read_rule, read_firewall}
use Rattle.lint_laws.proofs.Accepted.{AreSaid, AreNew, all_said, all_new, unset, any_front, any_last, not_both}
use Rattle.lint_laws.proofs.Listed.{map_cons, cons_both}

-- the rule that a line is, if it is one
abbrev pub as_rule : FirewallLine → Option Rule
as_rule (lines.Rule r) = Some r
as_rule (lines.Default allow) = None

abbrev pub rule_in : Setting → Option Rule
rule_in s = option_and_then as_rule (line_of s.words)

-- Rules.

abbrev line_by : Bool → Bool → List ℕ → List (List ℕ) → Option FirewallLine
line_by is_rule is_set word words = if is_rule then made_rule (verdict_of word) (fit_of words) else (if is_set then made_default word words else None)

abbrev verdict_by : Bool → Bool → Option Bool
verdict_by allows denies = if allows then Some true else (if denies then Some false else None)

-- the rule that findings read, of these words
abbrev read_by : ℕ → ℕ → Bool → Bool → Option Match → Option RuleLine
read_by line owner is_rule allows fit = option_map (λ fit. record { line = line; owner = owner; allow = allows; fit = fit }) (if is_rule then fit else None)

rule_by : (line owner : ℕ) (allows denies : Bool) (fit : Option Match) → is_none (made_rule (verdict_by allows denies) fit) ≡ false →
    option_map read_rule (read_by line owner true allows fit) ≡ option_and_then as_rule (made_rule (verdict_by allows denies) fit)
rule_by line owner true denies None said = refl
rule_by line owner true denies (Some fit) said = refl
rule_by line owner false true None said = refl
rule_by line owner false true (Some fit) said = refl
rule_by line owner false false fit said = absurd cc

no_default_rule : (allow : Option Bool) → option_and_then as_rule (option_map (λ a. lines.Default a) allow) ≡ None
no_default_rule None = refl
no_default_rule (Some allow) = refl

no_rule_by : (b : Bool) (allow : Option Bool) → option_and_then as_rule (if b then option_map (λ a. lines.Default a) allow else None) ≡ None
no_rule_by true allow = no_default_rule allow
no_rule_by false allow = refl

no_rule : (word : List ℕ) (words : List (List ℕ)) → option_and_then as_rule (made_default word words) ≡ None
no_rule word [] = refl
no_rule word (w ∷ []) = no_rule_by (bytes_eq word (codes "default")) (verdict_of w)
no_rule word (w ∷ v ∷ words) = refl

line_read : (line owner : ℕ) (word : List ℕ) (words : List (List ℕ)) (is_rule is_set : Bool) → is_none (line_by is_rule is_set word words) ≡ false →
    option_map read_rule (read_by line owner is_rule (bytes_eq word (codes "allow")) (fit_of words)) ≡ option_and_then as_rule (line_by is_rule is_set word words)
line_read line owner word words true is_set said = rule_by line owner (bytes_eq word (codes "allow")) (bytes_eq word (codes "deny")) (fit_of words) said
line_read line owner word words false true said = sym (no_rule word words)
line_read line owner word words false false said = refl

words_read : (line owner : ℕ) (words : List (List ℕ)) → is_none (line_of words) ≡ false →
    option_map read_rule (rule_of kinds.Firewall owner (record { line = line; words = words })) ≡ option_and_then as_rule (line_of words)
unfolding line_of firewall_fit
words_read line owner [] said = absurd cc
words_read line owner (lead ∷ []) said = absurd cc
words_read line owner (lead ∷ word ∷ words) said = line_read line owner word words (bytes_eq lead (codes "rule")) (bytes_eq lead (codes "set")) said

pub rule_read : (owner : ℕ) (s : Setting) → is_none (line_of s.words) ≡ false → option_map read_rule (rule_of kinds.Firewall owner s) ≡ rule_in s
rule_read owner s said = words_read s.line owner s.words said

pub rules_read : (owner : ℕ) (settings : List Setting) → AreSaid firewall_lines settings → map read_rule (filter_map (rule_of kinds.Firewall owner) settings) ≡ filter_map rule_in settings
rules_read owner [] said = refl
rules_read owner (s ∷ later) said =
    map_cons read_rule (rule_of kinds.Firewall owner s) (filter_map (rule_of kinds.Firewall owner) later)
    ∙ cons_both (option_map read_rule (rule_of kinds.Firewall owner s)) (rule_in s) (map read_rule (filter_map (rule_of kinds.Firewall owner) later)) (filter_map rule_in later)
    (rule_read owner s said.0) (rules_read owner later said.1)

pub rules_made : (f : Firewall) (settings : List Setting) → (fold with_line f (said_by firewall_lines settings)).rules ≡ f.rules ++ filter_map rule_in settings
rules_made f [] = sym (append-nil f.rules)
rules_made f (s ∷ later) = by (line_of s.words) (λ g. rules_made g later)
  where
    by : (o : Option FirewallLine) → ((g : Firewall) → (fold with_line g (said_by firewall_lines later)).rules ≡ g.rules ++ filter_map rule_in later) →
        (fold with_line f (cons_option o (said_by firewall_lines later))).rules ≡ f.rules ++ cons_option (option_and_then as_rule o) (filter_map rule_in later)
    by None rest = rest f
    by (Some (lines.Default allow)) rest = rest (with_line f (lines.Default allow))
    by (Some (lines.Rule r)) rest = rest (with_line f (lines.Rule r)) ∙ append_assoc f.rules (r ∷ []) (filter_map rule_in later)

-- The default.

abbrev verdict_word : Bool → List ℕ
verdict_word true = codes "allow"
verdict_word false = codes "deny"

abbrev default_words : Bool → List (List ℕ)
default_words allow = codes "set" ∷ codes "default" ∷ verdict_word allow ∷ []

word_by : (word : List ℕ) (allow allows denies : Bool) → bytes_eq word (codes "allow") ≡ allows → bytes_eq word (codes "deny") ≡ denies → option_map (λ a. lines.Default a) (verdict_by allows denies) ≡ Some (lines.Default allow) →
    word ≡ verdict_word allow
word_by word true true denies a d h = (bytes_eq-Decides word (codes "allow")).0 a
word_by word false true denies a d h = absurd cc
word_by word true false true a d h = absurd cc
word_by word false false true a d h = (bytes_eq-Decides word (codes "deny")).0 d
word_by word allow false false a d h = absurd cc

key_by : (key word : List ℕ) (allow is : Bool) → bytes_eq key (codes "default") ≡ is → (if is then option_map (λ a. lines.Default a) (verdict_of word) else None) ≡ Some (lines.Default allow) →
    (key ≡ codes "default") × (word ≡ verdict_word allow)
key_by key word allow true k h = ((bytes_eq-Decides key (codes "default")).0 k, word_by word allow (bytes_eq word (codes "allow")) (bytes_eq word (codes "deny")) refl refl h)
key_by key word allow false k h = absurd cc

rest_by : (key : List ℕ) (words : List (List ℕ)) (allow : Bool) → made_default key words ≡ Some (lines.Default allow) → key ∷ words ≡ codes "default" ∷ verdict_word allow ∷ []
rest_by key [] allow h = absurd cc
rest_by key (w ∷ []) allow h =
    let parts = key_by key w allow (bytes_eq key (codes "default")) refl h in
    ap (λ k. k ∷ w ∷ []) parts.0 ∙ ap (λ v. codes "default" ∷ v ∷ []) parts.1
rest_by key (w ∷ v ∷ words) allow h = absurd cc

no_default_by : (verdict : Option Bool) (fit : Option Match) (allow : Bool) → made_rule verdict fit ≡ Some (lines.Default allow) → ⊥
no_default_by None fit allow h = cc
no_default_by (Some v) None allow h = cc
no_default_by (Some v) (Some fit) allow h = cc

lead_by : (lead key : List ℕ) (words : List (List ℕ)) (allow is_rule is_set : Bool) → bytes_eq lead (codes "set") ≡ is_set → line_by is_rule is_set key words ≡ Some (lines.Default allow) → lead ∷ key ∷ words ≡ default_words allow
lead_by lead key words allow true is_set e h = absurd (no_default_by (verdict_of key) (fit_of words) allow h)
lead_by lead key words allow false true e h = ap (λ l. l ∷ key ∷ words) ((bytes_eq-Decides lead (codes "set")).0 e) ∙ ap (λ rest. codes "set" ∷ rest) (rest_by key words allow h)
lead_by lead key words allow false false e h = absurd cc

-- a line of a default is spelled so
is_default : (words : List (List ℕ)) (allow : Bool) → line_of words ≡ Some (lines.Default allow) → words ≡ default_words allow
unfolding line_of
is_default [] allow h = absurd cc
is_default (lead ∷ []) allow h = absurd cc
is_default (lead ∷ key ∷ words) allow h = lead_by lead key words allow (bytes_eq lead (codes "rule")) (bytes_eq lead (codes "set")) refl h

-- and a rule isn't
not_set : (lead key : List ℕ) (words : List (List ℕ)) (r : Rule) (is_rule is_set : Bool) → bytes_eq lead (codes "rule") ≡ is_rule → line_by is_rule is_set key words ≡ Some (lines.Rule r) → lead ≡ codes "rule"
not_set lead key words r true is_set e h = (bytes_eq-Decides lead (codes "rule")).0 e
not_set lead key words r false true e h =
    absurd (let none : Some r ≡ None = sym (ap (option_and_then as_rule) h) ∙ no_rule key words in cc)
not_set lead key words r false false e h = absurd cc

is_rule_line : (words : List (List ℕ)) (r : Rule) → line_of words ≡ Some (lines.Rule r) → bytes_eq (word_of words 0) (codes "set") ≡ false
unfolding line_of
is_rule_line [] r h = absurd cc
is_rule_line (lead ∷ []) r h = absurd cc
is_rule_line (lead ∷ key ∷ words) r h = ap (λ w. bytes_eq w (codes "set")) (not_set lead key words r (bytes_eq lead (codes "rule")) (bytes_eq lead (codes "set")) refl h)

denies_by : (words : List (List ℕ)) (allow : Bool) → words ≡ default_words allow →
    (bytes_eq (word_of words 0) (codes "set") && (bytes_eq (word_of words 1) (codes "default") && bytes_eq (word_of words 2) (codes "deny"))) ≡ not allow
denies_by words allow is = ap (λ w. bytes_eq (word_of w 0) (codes "set") && (bytes_eq (word_of w 1) (codes "default") && bytes_eq (word_of w 2) (codes "deny"))) is ∙ by allow
  where
    by : (allow : Bool) → (bytes_eq (word_of (default_words allow) 0) (codes "set") && (bytes_eq (word_of (default_words allow) 1) (codes "default") && bytes_eq (word_of (default_words allow) 2) (codes "deny"))) ≡ not allow
    by true = refl
    by false = refl

sets_by : (words : List (List ℕ)) (allow : Bool) → words ≡ default_words allow → (bytes_eq (word_of words 0) (codes "set") && bytes_eq (word_of words 1) (codes "default")) ≡ true
sets_by words allow is = ap (λ w. bytes_eq (word_of w 0) (codes "set") && bytes_eq (word_of w 1) (codes "default")) is

-- behind a default there is no other
settled : (f : Firewall) (before later : List Setting) → AreNew firewall_lines before later → list_any (sets (codes "default")) before ≡ true →
    ((fold with_line f (said_by firewall_lines later)).default ≡ f.default) × (list_any sets_deny later ≡ false)
settled f before [] new is_set = (refl, refl)
settled f before (s ∷ later) new is_set =
    by (line_of s.words) refl (λ g. settled g (before ++ s ∷ []) later new.2 (any_front (sets (codes "default")) before (s ∷ []) is_set))
  where
    fresh : sets (codes "default") s ≡ false
    fresh = unset (codes "default") before s is_set new.1

    by : (o : Option FirewallLine) → line_of s.words ≡ o → ((g : Firewall) → ((fold with_line g (said_by firewall_lines later)).default ≡ g.default) × (list_any sets_deny later ≡ false)) →
        ((fold with_line f (cons_option o (said_by firewall_lines later))).default ≡ f.default) × ((sets_deny s || list_any sets_deny later) ≡ false)
    by None is rest = absurd (not_both (is_none (line_of s.words)) (ap is_none is) new.0)
    by (Some (lines.Default allow)) is rest = absurd (not_both (sets (codes "default") s) (sets_by s.words allow (is_default s.words allow is)) fresh)
    by (Some (lines.Rule r)) is rest =
        let more = rest (with_line f (lines.Rule r)) in
        (more.0, ap (λ b. (b && (bytes_eq (word_of s.words 1) (codes "default") && bytes_eq (word_of s.words 2) (codes "deny"))) || list_any sets_deny later) (is_rule_line s.words r is) ∙ more.1)

twice : (b : Bool) → b ≡ not (not b || false)
twice true = refl
twice false = refl

default_made : (f : Firewall) (before later : List Setting) → AreNew firewall_lines before later → f.default ≡ true → (fold with_line f (said_by firewall_lines later)).default ≡ not (list_any sets_deny later)
default_made f before [] new allows = allows
default_made f before (s ∷ later) new allows = by (line_of s.words) refl (λ g is. default_made g (before ++ s ∷ []) later new.2 is)
  where
    by : (o : Option FirewallLine) → line_of s.words ≡ o → ((g : Firewall) → g.default ≡ true → (fold with_line g (said_by firewall_lines later)).default ≡ not (list_any sets_deny later)) →
        (fold with_line f (cons_option o (said_by firewall_lines later))).default ≡ not (sets_deny s || list_any sets_deny later)
    by None is rest = absurd (not_both (is_none (line_of s.words)) (ap is_none is) new.0)
    by (Some (lines.Rule r)) is rest =
        rest (with_line f (lines.Rule r)) allows
        ∙ sym (ap (λ b. not ((b && (bytes_eq (word_of s.words 1) (codes "default") && bytes_eq (word_of s.words 2) (codes "deny"))) || list_any sets_deny later)) (is_rule_line s.words r is))
    by (Some (lines.Default allow)) is rest =
        let spelled = is_default s.words allow is in
        let more = settled (with_line f (lines.Default allow)) (before ++ s ∷ []) later new.2 (any_last (sets (codes "default")) before s (sets_by s.words allow spelled)) in
        more.0 ∙ twice allow ∙ sym (ap (λ b. not (sets_deny s || b)) more.1 ∙ ap (λ b. not (b || false)) (denies_by s.words allow spelled))

-- the firewall that is made is the one that findings read
pub firewall_read : (decl : FunctionDecl) → decl.kind ≡ kinds.Firewall → refused_line firewall_lines decl ≡ None → firewall_of decl ≡ read_firewall decl
firewall_read decl is accepted = both_same (firewall_of decl) (default_of decl) (map read_rule (rules_of decl))
    (default_made open_firewall [] decl.settings (all_new firewall_lines decl accepted) refl)
    (rules_made open_firewall decl.settings ∙ sym (rules_read decl.line decl.settings (all_said firewall_lines decl accepted))
    ∙ ap (λ kind. map read_rule (filter_map (rule_of kind decl.line) decl.settings)) (sym is))
  where
    both_same : (f : Firewall) (default : Bool) (rules : List Rule) → f.default ≡ default → f.rules ≡ rules → f ≡ record { default = default; rules = rules }
    both_same f default rules d r = ap (λ x. record { default = x; rules = f.rules }) d ∙ ap (λ x. record { default = default; rules = x }) r
