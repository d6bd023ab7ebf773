-- What firewalls that drop all, or by one version alone, do to packets.
use Rattle.std.proofs.Common.{◌≡◌, ◌∙◌, List, [], ◌∷◌, Bool, true, false, refl, sym, ap, Some, cond}
use Rattle.std.specs.Prelude.{◌&&◌, ◌||◌, not, find, is_some}
use Rattle.std.specs.List.{list_all, list_any}
use Rattle.std.specs.Option.{option_map_or}
use Rattle.policy_text.specs.Meeting.{is_within, is_within6, is_type, is_met, is_fitting}
use Rattle.policy_text.specs.declared.clause.Clause.{Clause}
use Rattle.policy_text.specs.declared.clause.Clause.TheVariants.{Src, Dst, Src6, Dst6, Version4, Version6}
use Rattle.policy_text.specs.declared.clause.Match.{Match}
use Rattle.policy_text.specs.declared.seen.Seen.{Seen}
use Rattle.function_lines.specs.Rules.{first_met}
use Rattle.policy_lint.specs.declared.rule_line.RuleLine.{RuleLine}
use Rattle.policy_lint.specs.declared.versions.Version.{Version}
use Rattle.policy_lint.specs.declared.versions.Version.TheVariants.{Ipv4, Ipv6}
use Rattle.policy_lint.specs.Firewalls.{is_empty, ends, drops_by}
use Rattle.policy_lint.specs.Versions.{is_of, asks_by, Lacks}
use Rattle.policy_lint.proofs.Covered.{both_true}

pub negated : (b : Bool) → not b ≡ true → b ≡ false
negated true h = sym h
negated false h = refl

-- clauses that are none are met
none_asked : (seen : Seen) (clauses : List Clause) → is_empty clauses ≡ true → list_all (is_met seen) clauses ≡ true
none_asked seen [] h = refl
none_asked seen (c ∷ clauses) h = absurd cc

-- what a rule decides that is the first
abbrev decided : RuleLine → List RuleLine → Seen → Bool → Bool → Bool
decided r rules seen default met = option_map_or (λ (x : RuleLine). x.allow) (cond met (Some r) (first_met (λ (x : RuleLine). x.fit) seen rules)) default

abbrev ended : RuleLine → List RuleLine → Bool → Bool → Bool
ended r rules default end = option_map_or (λ (x : RuleLine). not x.allow) (cond end (Some r) (find ends rules)) (not default)

pub all_denied : (default : Bool) (rules : List RuleLine) (seen : Seen) → drops_by default rules ≡ true → option_map_or (λ (r : RuleLine). r.allow) (first_met (λ (r : RuleLine). r.fit) seen rules) default ≡ false
all_denied default [] seen h = negated default h
all_denied default (r ∷ rules) seen h = by r.allow (is_empty r.fit.clauses) refl refl (λ later. all_denied default rules seen later)
  where
    met : Bool
    met = is_fitting r.fit seen

    -- where the rule doesn't allow
    denied : (m : Bool) → r.allow ≡ false → option_map_or (λ (x : RuleLine). x.allow) (first_met (λ (x : RuleLine). x.fit) seen rules) default ≡ false → decided r rules seen default m ≡ false
    denied true is later = is
    denied false is later = later

    by : (allows empty : Bool) → r.allow ≡ allows → is_empty r.fit.clauses ≡ empty →
        (drops_by default rules ≡ true → option_map_or (λ (x : RuleLine). x.allow) (first_met (λ (x : RuleLine). x.fit) seen rules) default ≡ false) → decided r rules seen default (is_fitting r.fit seen) ≡ false
    by true empty is e later = absurd (let wrong : not r.allow ≡ true = sym (ap (λ b. ended r rules default (b || is_empty r.fit.clauses)) is) ∙ h in let off : r.allow ≡ false = negated r.allow wrong in cc)
    by false true is e later = ap (decided r rules seen default) (none_asked seen r.fit.clauses e) ∙ is
    by false false is e later = denied (is_fitting r.fit seen) is (later (sym (ap (λ b. ended r rules default (b || is_empty r.fit.clauses)) is ∙ ap (λ b. ended r rules default b) e) ∙ h))

-- rules of one verdict, which is the default too
pub all_alike : (value : Bool) (is : RuleLine → Bool) (rules : List RuleLine) (seen : Seen) → ((r : RuleLine) → is r ≡ true → r.allow ≡ value) → list_all is rules ≡ true →
    option_map_or (λ (r : RuleLine). r.allow) (first_met (λ (r : RuleLine). r.fit) seen rules) value ≡ value
all_alike value is [] seen so h = refl
all_alike value is (r ∷ rules) seen so h = let parts = both_true (is r) (list_all is rules) h in by (is_fitting r.fit seen) (so r parts.0) (all_alike value is rules seen so parts.1)
  where
    by : (met : Bool) → r.allow ≡ value → option_map_or (λ (x : RuleLine). x.allow) (first_met (λ (x : RuleLine). x.fit) seen rules) value ≡ value → decided r rules seen value met ≡ value
    by true first later = first
    by false first later = later

pub all_allowed : (rules : List RuleLine) (seen : Seen) → list_all (λ (r : RuleLine). r.allow) rules ≡ true →
    option_map_or (λ (r : RuleLine). r.allow) (first_met (λ (r : RuleLine). r.fit) seen rules) true ≡ true
all_allowed rules seen h = all_alike true (λ r. r.allow) rules seen (λ r allows. allows) h

fails_first : (a b : Bool) → a ≡ false → (a && b) ≡ false
fails_first true b h = absurd cc
fails_first false b h = refl

fails_second : (a b : Bool) → b ≡ false → (a && b) ≡ false
fails_second true b h = h
fails_second false b h = refl

pub clause_unmet : (version : Version) (c : Clause) (seen : Seen) → is_of version c ≡ true → Lacks version seen → is_met seen c ≡ false
clause_unmet Ipv4 (Src prefix bits) seen h lacks = ap (λ a. option_map_or (is_within prefix bits) a false) lacks.0
clause_unmet Ipv4 (Dst prefix bits) seen h lacks = ap (λ a. option_map_or (is_within prefix bits) a false) lacks.1
clause_unmet Ipv6 (Src6 prefix bits) seen h lacks = ap (λ a. option_map_or (is_within6 prefix bits) a false) lacks.0
clause_unmet Ipv6 (Dst6 prefix bits) seen h lacks = ap (λ a. option_map_or (is_within6 prefix bits) a false) lacks.1
clause_unmet Ipv4 Version4 seen h lacks = fails_second (is_type 0x0800 seen.ether_type) (is_some seen.src) (ap is_some lacks.0)
clause_unmet Ipv6 Version6 seen h lacks = fails_second (is_type 0x86DD seen.ether_type) (is_some seen.src6) (ap is_some lacks.0)
clause_unmet version c seen h lacks = absurd cc

clauses_unmet : (version : Version) (cs : List Clause) (seen : Seen) → list_any (is_of version) cs ≡ true → Lacks version seen → list_all (is_met seen) cs ≡ false
clauses_unmet version [] seen h lacks = absurd cc
clauses_unmet version (c ∷ cs) seen h lacks = by (is_of version c) refl (λ later. clauses_unmet version cs seen later lacks)
  where
    by : (b : Bool) → is_of version c ≡ b → (list_any (is_of version) cs ≡ true → list_all (is_met seen) cs ≡ false) → (is_met seen c && list_all (is_met seen) cs) ≡ false
    by true is later = fails_first (is_met seen c) (list_all (is_met seen) cs) (clause_unmet version c seen is lacks)
    by false is later = fails_second (is_met seen c) (list_all (is_met seen) cs) (later (sym (ap (λ b. b || list_any (is_of version) cs) is) ∙ h))

pub version_unmet : (version : Version) (fit : Match) (seen : Seen) → asks_by version fit ≡ true → Lacks version seen → is_fitting fit seen ≡ false
version_unmet version fit seen h lacks = clauses_unmet version fit.clauses seen h lacks
