-- Each finding means what it says.
use Rattle.std.proofs.Common.{◌≡◌, ◌∙◌, ℕ, List, [], ◌∷◌, ◌++◌, length, map, Bool, true, false, refl, sym, ap, subst, append_assoc, Some, None, cond, inl, inr}
use Rattle.std.specs.Prelude.{◌&&◌, ◌==◌, ◌⊎◌, nat_le, nat_lt, not, find, filter_map, reverse, codes, Option, All, slice_get, if◌then◌else◌}
use Rattle.std.specs.List.{list_all, list_any}
use Rattle.std.specs.Option.{option_map, option_map_or, option_to_list}
use Rattle.std.proofs.lemmas.Bool.{eqb-true, leb-true, ltb-true}
use Rattle.std.proofs.lemmas.List.Elements.{All-nil, All-cons, All-append}
use Rattle.function_lines.specs.Rules.{first_met}
use Rattle.policy_text.specs.Addresses6.{address6_of}
use Rattle.policy_text.specs.Meeting.{is_within, is_met, is_fitting}
use Rattle.policy_text.specs.Values.{address_of}
use Rattle.policy_text.specs.declared.clause.Clause.{Clause}
use Rattle.policy_text.specs.declared.clause.Match.{Match}
use Rattle.policy_text.specs.declared.seen.Seen.{Seen}
use Rattle.policy_text.specs.declared.policy.ChainPolicy.{ChainPolicy}
use Rattle.policy_text.specs.declared.policy.FunctionDecl.{FunctionDecl}
use Rattle.policy_text.specs.declared.policy.Setting.{Setting}
use Rattle.policy_check.specs.declared.fault.Order.{Order}
use Rattle.policy_lint.specs.declared.finding.Finding.{Finding}
use Rattle.policy_lint.specs.declared.finding.Finding.TheVariants.{LimiterBehind, DeniesIpv4Alone, DeniesIpv6Alone, PublicInside, SharedPorts, ClausesClash, BitsPastLength, MarksIpv6, QuotedPattern, CommaPattern, CutPattern, GlobPattern, RegexPattern, DropsNone, DropsEach, SmallBurst, MatchExcludes, VipExcluded, SourceRewritten, HiddenInTunnel, RedactedBefore, LimiterApart}
use Rattle.policy_lint.specs.declared.nats.NatLines.{NatLines}
use Rattle.policy_lint.specs.declared.rule_line.RuleLine.{RuleLine}
use Rattle.policy_lint.specs.declared.versions.Version.{Version}
use Rattle.policy_lint.specs.declared.versions.Version.TheVariants.{Ipv4, Ipv6}
use Rattle.policy_lint.specs.Apart.{takes_from, told_apart, apart_in, apart}
use Rattle.policy_lint.specs.Behind.{is_at, line_at, told_unreached, unreached, writes_source, limits, is_whole, told_behind, limited_behind}
use Rattle.policy_lint.specs.Findings.{chain_asking, rule_asking, told_function, told_functions, order_at, told_at, findings}
use Rattle.policy_lint.specs.Firewalls.{default_of, is_firewall, drops_by, drops_all}
use Rattle.policy_lint.specs.Gathering.{Asking, told_if, gathered, cover_of, told_of, covered}
use Rattle.policy_lint.specs.Implying.{covers}
use Rattle.policy_lint.specs.Limits.{burst_of, told_burst, told_limiter}
use Rattle.policy_lint.specs.Meaning.{IsOne, Follows, IsCovered, StandsBehind, DeniesAlone, IsFunction, IsRule, IsSetting, IsFirewall, IsSmallBurst, MeetsNone, HasPattern, PassesAll, PassesNone, IsPlaced, IsExcluded, IsRuleExcluded, IsVipExcluded, IsBefore, IsRuleRewritten, IsRuleHidden, IsRedacted, IsLimiterApart, Means}
use Rattle.policy_lint.specs.Nats.{value_of, nat_of, nats_of, inside_of, shares, shared_of, is_loose, told_nat, told_nats}
use Rattle.policy_lint.specs.Opposing.{opposes, clash}
use Rattle.policy_lint.specs.Patterns.{is_quoted, ends_in_comma, is_glob, is_regex, is_pattern_line, text_of, is_cut_at, told_pattern, told_patterns}
use Rattle.policy_lint.specs.Rules.{rules_of}
use Rattle.policy_lint.specs.Spelling.{is_loose_fit, told_fit, is_marker, marks_ipv6, told_rule, told_rules}
use Rattle.policy_lint.specs.Verdicts.{names_all, allows_some, allows_alone, are_some, denies_all, drops_none, drops_each, told_firewall}
use Rattle.policy_lint.specs.Versions.{other_than, asks_by, is_denied_by, denies_by, names, has_open, denies_alone, comes, is_alone, all_rules, drops_rest, told_version, told_alone, alone_in}
use Rattle.policy_lint.specs.Walking.{is_rewritten, is_excluding, is_excluded, has_excluded, is_balancer, told_vip, vip4, vip6, told_balancer, rewrites_source, told_source, hides, last_whole, told_hidden_at, told_hidden, is_signature, redacts, is_erasable, told_redacted, told_signature, told_plain_rule, told_plain, told_behind_whole, told_step, told_place, walked}
use Rattle.policy_lint.proofs.Clashing.{not_both, never_met}
use Rattle.policy_lint.proofs.Covered.{both_true, right_of, covered_is_met}
use Rattle.policy_lint.proofs.Denied.{negated, all_denied, all_alike}

-- what a search finds is one of the things, and passes
find_one : {T : Type 0} (p : T → Bool) (things : List T) (t : T) → find p things ≡ Some t → IsOne things t × (p t ≡ true)
find_one p [] t h = absurd cc
find_one {T} p (y ∷ things) t h = by (p y) refl (λ later. find_one p things t later)
  where
    by : (b : Bool) → p y ≡ b → (find p things ≡ Some t → IsOne things t × (p t ≡ true)) → IsOne (y ∷ things) t × (p t ≡ true)
    by true is later =
        let found : Some y ≡ Some t = sym (ap (λ b. cond b (Some y) (find p things)) is) ∙ h in
        let same : y ≡ t = cc in
        (record { front = []; back = things; is = ap (λ z. z ∷ things) same }, subst (λ z. p z ≡ true) same is)
    by false is later =
        let rest = later (sym (ap (λ b. cond b (Some y) (find p things)) is) ∙ h) in
        (record { front = y ∷ rest.0.front; back = rest.0.back; is = ap (λ l. y ∷ l) rest.0.is }, rest.1)

-- one of the things passes
any_one : {T : Type 0} (p : T → Bool) (things : List T) → list_any p things ≡ true → (t : T) × IsOne things t × (p t ≡ true)
any_one p [] h = absurd cc
any_one {T} p (y ∷ things) h = by (p y) refl (λ later. any_one p things later)
  where
    by : (b : Bool) → p y ≡ b → (list_any p things ≡ true → (t : T) × IsOne things t × (p t ≡ true)) → (t : T) × IsOne (y ∷ things) t × (p t ≡ true)
    by true is later = (y, record { front = []; back = things; is = refl }, is)
    by false is later =
        let rest = later (right_of (p y) (list_any p things) h is) in
        (rest.0, record { front = y ∷ rest.1.front; back = rest.1.back; is = ap (λ l. y ∷ l) rest.1.is }, rest.2)

-- what all things pass one of them passes
one_met : {T : Type 0} (p : T → Bool) (things : List T) (t : T) → IsOne things t → list_all p things ≡ true → p t ≡ true
one_met {T} p things t one h = by one.front (sym (ap (list_all p) one.is) ∙ h)
  where
    by : (front : List T) → list_all p (front ++ t ∷ one.back) ≡ true → p t ≡ true
    by [] all = (both_true (p t) (list_all p one.back) all).0
    by (y ∷ front) all = by front (both_true (p y) (list_all p (front ++ t ∷ one.back)) all).1

not_true : (b : Bool) → (b ≡ true → ⊥) → b ≡ false
not_true b never = by b refl
  where
    by : (x : Bool) → b ≡ x → b ≡ false
    by true is = absurd (never is)
    by false is = is

-- what each thing gives is so, and so all is
all_gathered : {T : Type 0} (P : Finding → Type 0) (gives : List T → T → List Finding) (whole : List T) → ((before : List T) (t : T) (after : List T) → whole ≡ before ++ t ∷ after → All P (gives before t)) →
    (before things : List T) → whole ≡ before ++ things → All P (gathered gives before things)
all_gathered P gives whole each before [] is = All-nil P
all_gathered P gives whole each before (t ∷ later) is =
    All-append P (gives before t) (gathered gives (before ++ t ∷ []) later) (each before t later is)
    (all_gathered P gives whole each (before ++ t ∷ []) later (is ∙ sym (append_assoc before (t ∷ []) later)))

one_told : (P : Finding → Type 0) (f : Finding) → P f → All P (f ∷ [])
one_told P f so = All-cons P f [] so (All-nil P)

-- a finding that means what it says where it is so
so_told : (P : Finding → Type 0) (b : Bool) (f : Finding) → (b ≡ true → P f) → All P (told_if b f)
so_told P true f so = one_told P f (so refl)
so_told P false f so = All-nil P

-- what the rules of a firewall let pass that allow alone, or deny alone
passes_all : (decl : FunctionDecl) → default_of decl ≡ true → list_all allows_some (rules_of decl) ≡ true → PassesAll decl
passes_all decl allows h seen =
    ap (λ d. option_map_or (λ (r : RuleLine). r.allow) (first_met (λ (r : RuleLine). r.fit) seen (rules_of decl)) d) allows
    ∙ all_alike true allows_some (rules_of decl) seen (λ r so. (both_true r.allow (not (names_all r)) so).0) h

passes_none : (decl : FunctionDecl) → not (default_of decl) ≡ true → list_all (λ (r : RuleLine). not r.allow) (rules_of decl) ≡ true → PassesNone decl
passes_none decl denies h seen =
    ap (λ d. option_map_or (λ (r : RuleLine). r.allow) (first_met (λ (r : RuleLine). r.fit) seen (rules_of decl)) d) (negated (default_of decl) denies)
    ∙ all_alike false (λ r. not r.allow) (rules_of decl) seen (λ r so. negated r.allow so) h

-- Clauses that cover others.
module _ {T : Type 0} (asks : Asking T) (things : List T) (P : Finding → Type 0) (means : (line other : ℕ) → IsCovered asks things line other → P (asks.told line other)) where
  told_covered : (before : List T) (t : T) (after : List T) → things ≡ before ++ t ∷ after → (o : Option T) → cover_of asks before t ≡ o →
      All P (option_to_list (option_map (λ other. asks.told (asks.line t) (asks.line other)) o))
  told_covered before t after is None found = All-nil P
  told_covered before t after is (Some other) found =
      let one = find_one (λ other. covers (asks.fit other) (asks.fit t)) before other found in
      one_told P (asks.told (asks.line t) (asks.line other)) (means (asks.line t) (asks.line other) (record {
        earlier = other;
        later = t;
        follows = record { before = before; after = after; is = is; among = one.0 };
        at_line = refl;
        at_other = refl;
        nothing_left = λ seen met. covered_is_met (asks.fit other) (asks.fit t) seen one.1 met;
      }))

  each_covered : All P (covered asks things)
  each_covered = all_gathered P (λ before t. option_to_list (told_of asks before t)) things (λ before t after is. told_covered before t after is (cover_of asks before t) refl) [] things refl

-- the function at a place is such
there : (is : FunctionDecl → Bool) (functions : List FunctionDecl) (place : ℕ) → is_at is functions place ≡ true → (decl : FunctionDecl) × (slice_get functions place ≡ Some decl) × (is decl ≡ true)
there is functions place h = by (slice_get functions place) refl
  where
    by : (o : Option FunctionDecl) → slice_get functions place ≡ o → (decl : FunctionDecl) × (slice_get functions place ≡ Some decl) × (is decl ≡ true)
    by None none = absurd (let fails : false ≡ true = sym (ap (λ x. option_map_or is x false) none) ∙ h in cc)
    by (Some decl) some = (decl, some, sym (ap (λ x. option_map_or is x false) some) ∙ h)

-- One chain.
module _ (cuts : List Bool) (chains : List ChainPolicy) (orders : List Order) (before : List ChainPolicy) (chain : ChainPolicy) (after : List ChainPolicy) (is : chains ≡ before ++ chain ∷ after) where
  of_chains : IsOne chains chain
  of_chains = record { front = before; back = after; is = is }

  -- one function by itself
  module _ (decl : FunctionDecl) (one : IsOne chain.functions decl) where
    function : (P : FunctionDecl → Type 0) → P decl → IsFunction P chains
    function P so = record { chain = chain; decl = decl; of_chains = of_chains; of_chain = one; so = so }

    all_covered : All (Means cuts chains orders) (covered rule_asking (rules_of decl))
    all_covered = each_covered rule_asking (rules_of decl) (Means cuts chains orders) (λ line other c. record { chain = chain; decl = decl; of_chains = of_chains; of_chain = one; covered = c })

    rule : (P : FunctionDecl → RuleLine → Type 0) (r : RuleLine) → IsOne (rules_of decl) r → P decl r → IsFunction (IsRule P r.line) chains
    rule P r of so = function (IsRule P r.line) (record { rule = r; of_rules = of; at_line = refl; so = so })

    each_rule : (r : RuleLine) → IsOne (rules_of decl) r → All (Means cuts chains orders) (told_rule decl.kind r)
    each_rule r of =
        All-append (Means cuts chains orders) (told_fit r.line r.fit) (told_if (marks_ipv6 decl.kind r.fit) (MarksIpv6 r.line))
        (All-append (Means cuts chains orders) (told_if (clash r.fit) (ClausesClash r.line)) (told_if (is_loose_fit r.fit) (BitsPastLength r.line))
        (so_told (Means cuts chains orders) (clash r.fit) (ClausesClash r.line) (λ h. inr (rule (λ d r. MeetsNone r.fit) r of (λ seen real. never_met r.fit seen h real))))
        (so_told (Means cuts chains orders) (is_loose_fit r.fit) (BitsPastLength r.line) (λ h. inl (inr (rule (λ d r. is_loose_fit r.fit ≡ true) r of h)))))
        (so_told (Means cuts chains orders) (marks_ipv6 decl.kind r.fit) (MarksIpv6 r.line)
        (λ h. rule (λ d r. (is_marker d.kind ≡ true) × (asks_by Ipv6 r.fit ≡ true)) r of (both_true (is_marker decl.kind) (asks_by Ipv6 r.fit) h)))

    all_rules_told : All (Means cuts chains orders) (told_rules decl.kind (rules_of decl))
    all_rules_told = all_gathered (Means cuts chains orders) (λ others r. told_rule decl.kind r) (rules_of decl) (λ front r back of. each_rule r (record { front = front; back = back; is = of })) [] (rules_of decl) refl

    line : (P : FunctionDecl → Setting → Type 0) (s : Setting) → IsOne decl.settings s → P decl s → IsFunction (IsSetting P s.line) chains
    line P s of so = function (IsSetting P s.line) (record { setting = s; of_settings = of; at_line = refl; so = so })

    pattern : (test : List ℕ → Bool) (s : Setting) → IsOne decl.settings s → test (text_of decl.kind s) ≡ true → HasPattern test chains s.line
    pattern test s of so = line (λ d s. test (text_of d.kind s) ≡ true) s of so

    each_pattern : (s : Setting) → IsOne decl.settings s → All (Means cuts chains orders) (told_pattern cuts decl.kind s)
    each_pattern s of =
        let word = text_of decl.kind s in
        let cut = is_pattern_line decl.kind s && is_cut_at cuts s.line in
        let last = told_if (is_regex word) (RegexPattern s.line) in
        let fourth = told_if (is_glob word) (GlobPattern s.line) in
        let third = told_if cut (CutPattern s.line) in
        let second = told_if (ends_in_comma word) (CommaPattern s.line) in
        All-append (Means cuts chains orders) (told_if (is_quoted word) (QuotedPattern s.line)) (second ++ (third ++ (fourth ++ last)))
        (so_told (Means cuts chains orders) (is_quoted word) (QuotedPattern s.line) (λ h. pattern is_quoted s of h))
        (All-append (Means cuts chains orders) second (third ++ (fourth ++ last))
        (so_told (Means cuts chains orders) (ends_in_comma word) (CommaPattern s.line) (λ h. pattern ends_in_comma s of h))
        (All-append (Means cuts chains orders) third (fourth ++ last)
        (so_told (Means cuts chains orders) cut (CutPattern s.line) (λ h. line (λ d s. (is_pattern_line d.kind s ≡ true) × (is_cut_at cuts s.line ≡ true)) s of (both_true (is_pattern_line decl.kind s) (is_cut_at cuts s.line) h)))
        (All-append (Means cuts chains orders) fourth last
        (so_told (Means cuts chains orders) (is_glob word) (GlobPattern s.line) (λ h. pattern is_glob s of h))
        (so_told (Means cuts chains orders) (is_regex word) (RegexPattern s.line) (λ h. pattern is_regex s of h)))))

    all_patterns : All (Means cuts chains orders) (told_patterns cuts decl)
    all_patterns = all_gathered (Means cuts chains orders) (λ others s. told_pattern cuts decl.kind s) decl.settings (λ front s back of. each_pattern s (record { front = front; back = back; is = of })) [] decl.settings refl

    firewall : (P : FunctionDecl → Type 0) → is_firewall decl.kind ≡ true → P decl → IsFunction (IsFirewall P decl.line) chains
    firewall P filters so = function (IsFirewall P decl.line) (record { filters = filters; at_line = refl; so = so })

    all_firewall : All (Means cuts chains orders) (told_firewall decl)
    all_firewall =
        All-append (Means cuts chains orders) (told_if (drops_none decl) (DropsNone decl.line)) (told_if (drops_each decl) (DropsEach decl.line))
        (so_told (Means cuts chains orders) (drops_none decl) (DropsNone decl.line) (λ h.
        let parts = both_true (is_firewall decl.kind) (default_of decl && allows_alone (rules_of decl)) h in
        let more = both_true (default_of decl) (allows_alone (rules_of decl)) parts.1 in
        firewall PassesAll parts.0 (passes_all decl more.0 (both_true (are_some (rules_of decl)) (list_all allows_some (rules_of decl)) more.1).1)))
        (so_told (Means cuts chains orders) (drops_each decl) (DropsEach decl.line) (λ h.
        let parts = both_true (is_firewall decl.kind) (not (default_of decl) && denies_all (rules_of decl)) h in
        let more = both_true (not (default_of decl)) (denies_all (rules_of decl)) parts.1 in
        firewall PassesNone parts.0 (passes_none decl more.0 (both_true (are_some (rules_of decl)) (list_all (λ (r : RuleLine). not r.allow) (rules_of decl)) more.1).1)))

    told_small : (o : Option (ℕ × ℕ)) → burst_of decl ≡ o → All (Means cuts chains orders) (option_map_or told_burst o [])
    told_small None is = All-nil (Means cuts chains orders)
    told_small (Some burst) is = so_told (Means cuts chains orders) (nat_lt burst.1 1500) (SmallBurst burst.0)
        (λ h. function (IsSmallBurst burst.0) (record { bytes = burst.1; is = is; small = ltb-true burst.1 1500 h }))

    each_function : All (Means cuts chains orders) (told_function cuts decl)
    each_function =
        All-append (Means cuts chains orders) (covered rule_asking (rules_of decl)) (told_rules decl.kind (rules_of decl) ++ (told_patterns cuts decl ++ (told_firewall decl ++ told_limiter decl))) all_covered
        (All-append (Means cuts chains orders) (told_rules decl.kind (rules_of decl)) (told_patterns cuts decl ++ (told_firewall decl ++ told_limiter decl)) all_rules_told
        (All-append (Means cuts chains orders) (told_patterns cuts decl) (told_firewall decl ++ told_limiter decl) all_patterns
        (All-append (Means cuts chains orders) (told_firewall decl) (told_limiter decl) all_firewall (told_small (burst_of decl) refl))))

  all_functions : All (Means cuts chains orders) (told_functions cuts chain.functions)
  all_functions = all_gathered (Means cuts chains orders) (λ others decl. told_function cuts decl) chain.functions
      (λ front decl back of. each_function decl (record { front = front; back = back; is = of }))
      [] chain.functions refl

  -- the clauses of the chain
  all_fit : All (Means cuts chains orders) (told_fit chain.line chain.fit)
  all_fit =
      All-append (Means cuts chains orders) (told_if (clash chain.fit) (ClausesClash chain.line)) (told_if (is_loose_fit chain.fit) (BitsPastLength chain.line))
      (so_told (Means cuts chains orders) (clash chain.fit) (ClausesClash chain.line)
      (λ h. inl (record { chain = chain; of_chains = of_chains; at_line = refl; so = λ seen real. never_met chain.fit seen h real })))
      (so_told (Means cuts chains orders) (is_loose_fit chain.fit) (BitsPastLength chain.line)
      (λ h. inl (inl (record { chain = chain; of_chains = of_chains; at_line = refl; so = h }))))

  -- firewalls that deny by addresses of one version
  alone : (version : Version) (r : RuleLine) → list_any drops_rest chain.functions ≡ false → is_alone version before chain (all_rules chain.functions) ≡ true → find (is_denied_by version) (all_rules chain.functions) ≡ Some r →
      DeniesAlone version chains r.owner
  alone version r lets h found =
      let rules = all_rules chain.functions in
      let parts = both_true (denies_alone version rules) (comes (other_than version) before chain) h in
      let denies = both_true (denies_by version rules) (not (names (other_than version) rules) && not (has_open rules)) parts.0 in
      let one = find_one (is_denied_by version) rules r found in
      record {
        chain = chain;
        of_chains = of_chains;
        rule = r;
        of_rules = one.0;
        at_line = refl;
        denies = one.1;
        unnamed = negated (names (other_than version) rules) (both_true (not (names (other_than version) rules)) (not (has_open rules)) denies.1).0;
        lets = lets;
      }

  told_one : (version : Version) (told : ℕ → Finding) → ((line : ℕ) → DeniesAlone version chains line → Means cuts chains orders (told line)) → list_any drops_rest chain.functions ≡ false →
      (b : Bool) (o : Option RuleLine) → is_alone version before chain (all_rules chain.functions) ≡ b → find (is_denied_by version) (all_rules chain.functions) ≡ o →
      All (Means cuts chains orders) (option_to_list (if b then option_map (λ (r : RuleLine). told r.owner) o else None))
  told_one version told means lets false o h found = All-nil (Means cuts chains orders)
  told_one version told means lets true None h found = All-nil (Means cuts chains orders)
  told_one version told means lets true (Some r) h found = one_told (Means cuts chains orders) (told r.owner) (means r.owner (alone version r lets h found))

  all_alone : All (Means cuts chains orders) (alone_in before chain)
  all_alone = by (list_any drops_rest chain.functions) refl
    where
      rules : List RuleLine
      rules = all_rules chain.functions

      by : (b : Bool) → list_any drops_rest chain.functions ≡ b → All (Means cuts chains orders) (if b then [] else told_alone before chain (all_rules chain.functions))
      by true is = All-nil (Means cuts chains orders)
      by false is = All-append (Means cuts chains orders)
          (option_to_list (told_version Ipv4 (λ line. DeniesIpv4Alone line) before chain rules)) (option_to_list (told_version Ipv6 (λ line. DeniesIpv6Alone line) before chain rules))
          (told_one Ipv4 (λ line. DeniesIpv4Alone line) (λ line d. d) is (is_alone Ipv4 before chain rules) (find (is_denied_by Ipv4) rules) refl refl)
          (told_one Ipv6 (λ line. DeniesIpv6Alone line) (λ line d. d) is (is_alone Ipv6 before chain rules) (find (is_denied_by Ipv6) rules) refl refl)

  -- a function behind another
  abbrev behind : (earlier later : ℕ) → Follows (order_at orders (length before)) earlier later → StandsBehind chains orders (line_at chain.functions later) (line_at chain.functions earlier)
  behind earlier later follows = record { before = before; chain = chain; after = after; is = is; earlier = earlier; later = later; follows = follows; at_line = refl; at_other = refl }

  -- the functions behind one that drops all
  all_behind : (dropper : ℕ) (front later rest : List ℕ) → is_at drops_all chain.functions dropper ≡ true → order_at orders (length before) ≡ (front ++ dropper ∷ later) ++ rest → All (Means cuts chains orders) (map (told_unreached chain.functions dropper) rest)
  all_behind dropper front later [] drops of = All-nil (Means cuts chains orders)
  all_behind dropper front later (place ∷ rest) drops of =
      let at = there drops_all chain.functions dropper drops in
      let parts = both_true (is_firewall at.0.kind) (drops_by (default_of at.0) (rules_of at.0)) at.2 in
      All-cons (Means cuts chains orders) (told_unreached chain.functions dropper place) (map (told_unreached chain.functions dropper) rest)
      (record {
        behind = behind dropper place (record { before = front ++ dropper ∷ later; after = rest; is = of; among = record { front = front; back = later; is = refl } });
        dropper = at.0;
        is_there = at.1;
        filters = parts.0;
        passes_none = λ seen. all_denied (default_of at.0) (rules_of at.0) seen parts.1;
      })
      (all_behind dropper front (later ++ place ∷ []) rest drops
      (of ∙ sym (append_assoc (front ++ dropper ∷ later) (place ∷ []) rest) ∙ ap (λ l. l ++ rest) (append_assoc front (dropper ∷ later) (place ∷ []))))

  all_unreached : (front places : List ℕ) → order_at orders (length before) ≡ front ++ places → All (Means cuts chains orders) (unreached chain.functions places)
  all_unreached front [] of = All-nil (Means cuts chains orders)
  all_unreached front (place ∷ places) of = by (is_at drops_all chain.functions place) refl (all_unreached (front ++ place ∷ []) places (of ∙ sym (append_assoc front (place ∷ []) places)))
    where
      by : (b : Bool) → is_at drops_all chain.functions place ≡ b → All (Means cuts chains orders) (unreached chain.functions places) →
          All (Means cuts chains orders) (if b then map (told_unreached chain.functions place) places else unreached chain.functions places)
      by true drops later = all_behind place front [] places drops (of ∙ sym (append_assoc front (place ∷ []) places))
      by false drops later = later

  -- a limiter behind one that writes sources
  told_counting : (front : List ℕ) (place : ℕ) (back : List ℕ) → order_at orders (length before) ≡ front ++ place ∷ back → (b : Bool) (o : Option ℕ) → (is_at limits chain.functions place && not (list_any (is_at is_whole chain.functions) front)) ≡ b → find (is_at writes_source chain.functions) front ≡ o →
      All (Means cuts chains orders) (option_to_list (if b then option_map (λ writer. LimiterBehind (line_at chain.functions place) (line_at chain.functions writer)) o else None))
  told_counting front place back of false o limited found = All-nil (Means cuts chains orders)
  told_counting front place back of true None limited found = All-nil (Means cuts chains orders)
  told_counting front place back of true (Some writer) limited found =
      let one = find_one (is_at writes_source chain.functions) front writer found in
      let writes = there writes_source chain.functions writer one.1 in
      let limits = there limits chain.functions place (both_true (is_at limits chain.functions place) (not (list_any (is_at is_whole chain.functions) front)) limited).0 in
      one_told (Means cuts chains orders) (LimiterBehind (line_at chain.functions place) (line_at chain.functions writer)) (record {
        behind = behind writer place (record { before = front; after = back; is = of; among = one.0 });
        writer = writes.0;
        writer_is = writes.1;
        writes = writes.2;
        limiter = limits.0;
        limiter_is = limits.1;
        limits = limits.2;
      })

  all_limited : All (Means cuts chains orders) (limited_behind chain.functions (order_at orders (length before)))
  all_limited = all_gathered (Means cuts chains orders) (λ front place. option_to_list (told_behind chain.functions front place)) (order_at orders (length before))
      (λ front place back of. told_counting front place back of (is_at limits chain.functions place && not (list_any (is_at is_whole chain.functions) front)) (find (is_at writes_source chain.functions) front) refl refl)
      [] (order_at orders (length before)) refl

  -- A function in its place.
  module _ (front : List ℕ) (place : ℕ) (back : List ℕ) (of : order_at orders (length before) ≡ front ++ place ∷ back) (decl : FunctionDecl) (found : slice_get chain.functions place ≡ Some decl) where
    placed : (P : ChainPolicy → List ℕ → FunctionDecl → Type 0) → P chain front decl → IsPlaced P chains orders
    placed P so = record { before = before; chain = chain; after = after; of_chains = is; front = front; place = place; back = back; of_order = of; decl = decl; is_there = found; so = so }

    -- what the function at an earlier place is
    earlier : (test : FunctionDecl → Bool) (places : List ℕ) (other : ℕ) → find (is_at test chain.functions) places ≡ Some other → IsBefore (λ d. test d ≡ true) (line_at chain.functions other) chain places
    earlier test places other is =
        let one = find_one (is_at test chain.functions) places other is in
        let at = there test chain.functions other one.1 in
        record { place = other; among = one.0; at_line = refl; decl = at.0; is_there = at.1; so = at.2 }

    -- a clause that one of the match excludes
    excluded : (c : Clause) (fit : Match) → is_excluded chain front c ≡ true → ((seen : Seen) → is_fitting fit seen ≡ true → is_met seen c ≡ true) → IsExcluded chain front fit
    excluded c fit h meets =
        let one = any_one (is_excluding chain.functions front c) chain.fit.clauses h in
        let parts = both_true (opposes c one.0) (not (is_rewritten chain.functions front one.0)) one.2 in
        record {
          other = one.0;
          of_match = one.1;
          kept = negated (is_rewritten chain.functions front one.0) parts.1;
          never = λ seen real met. not_true (is_fitting fit seen) (λ fits. not_both seen c one.0 real parts.0 (meets seen fits) met);
        }

    plain_rule : (r : RuleLine) → IsOne (rules_of decl) r → All (Means cuts chains orders) (told_plain_rule chain front r)
    plain_rule r one =
        All-append (Means cuts chains orders) (told_if (has_excluded chain front r.fit.clauses) (MatchExcludes r.line chain.line)) (option_to_list (told_source chain front r))
        (so_told (Means cuts chains orders) (has_excluded chain front r.fit.clauses) (MatchExcludes r.line chain.line) (λ h.
        let c = any_one (is_excluded chain front) r.fit.clauses h in
        placed (IsRuleExcluded r.line chain.line) (refl, record { rule = r; of_rules = one; at_line = refl; so = excluded c.0 r.fit c.2 (λ seen fits. one_met (is_met seen) r.fit.clauses c.0 c.1 fits) })))
        (by (find (is_at (rewrites_source r.fit.clauses) chain.functions) front) refl)
      where
        by : (o : Option ℕ) → find (is_at (rewrites_source r.fit.clauses) chain.functions) front ≡ o → All (Means cuts chains orders) (option_to_list (option_map (λ other. SourceRewritten r.line (line_at chain.functions other)) o))
        by None none = All-nil (Means cuts chains orders)
        by (Some other) some = one_told (Means cuts chains orders) (SourceRewritten r.line (line_at chain.functions other))
            (placed (IsRuleRewritten r.line (line_at chain.functions other)) (record { rule = r; of_rules = one; at_line = refl; so = earlier (rewrites_source r.fit.clauses) front other some }))

    vip : (o : Option (ℕ × Clause)) → ((line : ℕ) (c : Clause) → o ≡ Some (line, c) → (vip4 (value_of address_of (codes "vip") decl) ≡ Some (line, c)) ⊎ (vip6 (value_of address6_of (codes "vip") decl) ≡ Some (line, c))) →
        All (Means cuts chains orders) (told_vip chain front o)
    vip None so = All-nil (Means cuts chains orders)
    vip (Some v) so = so_told (Means cuts chains orders) (is_excluded chain front v.1) (VipExcluded v.0 chain.line)
        (λ h. placed (IsVipExcluded v.0 chain.line) (record {
          vip = v.1;
          of_lines = so v.0 v.1 refl;
          of_chain = refl;
          excluded = excluded v.1 (record { clauses = v.1 ∷ [] }) h (λ seen fits. (both_true (is_met seen v.1) true fits).0);
        }))

    balancer : All (Means cuts chains orders) (told_balancer chain front decl)
    balancer = by (is_balancer decl.kind)
      where
        four : Option (ℕ × Clause)
        four = vip4 (value_of address_of (codes "vip") decl)

        six : Option (ℕ × Clause)
        six = vip6 (value_of address6_of (codes "vip") decl)

        by : (b : Bool) → All (Means cuts chains orders) (if b then told_vip chain front four ++ told_vip chain front six else [])
        by true = All-append (Means cuts chains orders) (told_vip chain front four) (told_vip chain front six) (vip four (λ line c h. inl h)) (vip six (λ line c h. inr h))
        by false = All-nil (Means cuts chains orders)

    redacted : (s : Setting) → IsOne decl.settings s → All (Means cuts chains orders) (option_to_list (told_redacted chain front s.line (text_of decl.kind s)))
    redacted s one = by (is_erasable word) refl (find (is_at (redacts word) chain.functions) front) refl
      where
        word : List ℕ
        word = text_of decl.kind s

        by : (b : Bool) → is_erasable word ≡ b → (o : Option ℕ) → find (is_at (redacts word) chain.functions) front ≡ o →
            All (Means cuts chains orders) (option_to_list (if b then option_map (λ other. RedactedBefore s.line (line_at chain.functions other)) o else None))
        by false fails o is = All-nil (Means cuts chains orders)
        by true erasable None none = All-nil (Means cuts chains orders)
        by true erasable (Some other) some = one_told (Means cuts chains orders) (RedactedBefore s.line (line_at chain.functions other))
            (placed (IsRedacted s.line (line_at chain.functions other)) (record { setting = s; of_settings = one; at_line = refl; so = (erasable, earlier (redacts word) front other some) }))

    signature : All (Means cuts chains orders) (told_signature chain front decl)
    signature = by (is_signature decl.kind)
      where
        gives : List Setting → Setting → List Finding
        gives others s = option_to_list (told_redacted chain front s.line (text_of decl.kind s))

        by : (b : Bool) → All (Means cuts chains orders) (if b then gathered (λ others (s : Setting). option_to_list (told_redacted chain front s.line (text_of decl.kind s))) [] decl.settings else [])
        by true = all_gathered (Means cuts chains orders) gives decl.settings (λ others s later of. redacted s (record { front = others; back = later; is = of })) [] decl.settings refl
        by false = All-nil (Means cuts chains orders)

    hidden : (r : RuleLine) → IsOne (rules_of decl) r → All (Means cuts chains orders) (told_hidden chain (reverse front) r)
    hidden r one = by (last_whole chain.functions (reverse front)) refl
      where
        by : (o : Option ℕ) → last_whole chain.functions (reverse front) ≡ o → All (Means cuts chains orders) (option_map_or (told_hidden_at chain.functions r) o [])
        by None none = All-nil (Means cuts chains orders)
        by (Some other) some = so_told (Means cuts chains orders) (is_at (hides r.fit.clauses) chain.functions other) (HiddenInTunnel r.line (line_at chain.functions other)) (λ h.
            let among = find_one (is_at is_whole chain.functions) (reverse front) other some in
            let at = there (hides r.fit.clauses) chain.functions other h in
            placed (IsRuleHidden r.line (line_at chain.functions other)) (record { rule = r; of_rules = one; at_line = refl; so = record { place = other; among = among.0; at_line = refl; decl = at.0; is_there = at.1; so = at.2 } }))

    step : All (Means cuts chains orders) (told_step chain front decl)
    step = by (list_any (is_at is_whole chain.functions) front)
      where
        by : (b : Bool) → All (Means cuts chains orders) (if b then told_behind_whole chain front decl else told_plain chain front decl)
        by true = all_gathered (Means cuts chains orders) (λ others r. told_hidden chain (reverse front) r) (rules_of decl) (λ others r later of. hidden r (record { front = others; back = later; is = of })) [] (rules_of decl) refl
        by false =
            All-append (Means cuts chains orders) (gathered (λ others r. told_plain_rule chain front r) [] (rules_of decl)) (told_balancer chain front decl ++ told_signature chain front decl)
            (all_gathered (Means cuts chains orders) (λ others r. told_plain_rule chain front r) (rules_of decl) (λ others r later of. plain_rule r (record { front = others; back = later; is = of })) [] (rules_of decl) refl)
            (All-append (Means cuts chains orders) (told_balancer chain front decl) (told_signature chain front decl) balancer signature)

  each_place : (front : List ℕ) (place : ℕ) (back : List ℕ) → order_at orders (length before) ≡ front ++ place ∷ back → All (Means cuts chains orders) (told_place chain front place)
  each_place front place back of = by (slice_get chain.functions place) refl
    where
      by : (o : Option FunctionDecl) → slice_get chain.functions place ≡ o → All (Means cuts chains orders) (option_map_or (told_step chain front) o [])
      by None none = All-nil (Means cuts chains orders)
      by (Some decl) some = step front place back of decl some

  all_walked : All (Means cuts chains orders) (walked chain (order_at orders (length before)))
  all_walked = all_gathered (Means cuts chains orders) (told_place chain) (order_at orders (length before)) each_place [] (order_at orders (length before)) refl

  all_told : All (Means cuts chains orders) (told_at cuts orders before chain)
  all_told =
      let order = order_at orders (length before) in
      let behind_limited = limited_behind chain.functions order ++ walked chain order in
      let behind_others = unreached chain.functions order ++ behind_limited in
      All-append (Means cuts chains orders) (told_fit chain.line chain.fit) (told_functions cuts chain.functions ++ (alone_in before chain ++ behind_others)) all_fit
      (All-append (Means cuts chains orders) (told_functions cuts chain.functions) (alone_in before chain ++ behind_others) all_functions
      (All-append (Means cuts chains orders) (alone_in before chain) behind_others all_alone
      (All-append (Means cuts chains orders) (unreached chain.functions order) behind_limited (all_unreached [] order refl)
      (All-append (Means cuts chains orders) (limited_behind chain.functions order) (walked chain order) all_limited all_walked))))

-- Nats.
module _ (cuts : List Bool) (chains : List ChainPolicy) (orders : List Order) where
  told_inside : (nat : NatLines) → IsOne (nats_of chains) nat → (b : Bool) → is_within nat.prefix nat.bits nat.public ≡ b → All (Means cuts chains orders) (option_to_list (if b then Some (PublicInside nat.public_line nat.inside_line) else None))
  told_inside nat one true within = one_told (Means cuts chains orders) (PublicInside nat.public_line nat.inside_line) (record { nat = nat; of_nats = one; at_line = refl; at_inside = refl; within = within })
  told_inside nat one false within = All-nil (Means cuts chains orders)

  told_shared : (front : List NatLines) (nat : NatLines) (back : List NatLines) → nats_of chains ≡ front ++ nat ∷ back → (o : Option NatLines) → find (shares nat) front ≡ o →
      All (Means cuts chains orders) (option_to_list (option_map (λ (other : NatLines). SharedPorts nat.ports_line other.ports_line) o))
  told_shared front nat back of None found = All-nil (Means cuts chains orders)
  told_shared front nat back of (Some other) found =
      let one = find_one (shares nat) front other found in
      let parts = both_true (nat.public == other.public) (nat_le nat.low other.high && nat_le other.low nat.high) one.1 in
      let ends = both_true (nat_le nat.low other.high) (nat_le other.low nat.high) parts.1 in
      one_told (Means cuts chains orders) (SharedPorts nat.ports_line other.ports_line) (record {
        earlier = other;
        later = nat;
        follows = record { before = front; after = back; is = of; among = one.0 };
        at_line = refl;
        at_other = refl;
        same = eqb-true nat.public other.public parts.0;
        begins_below = leb-true nat.low other.high ends.0;
        ends_above = leb-true other.low nat.high ends.1;
      })

  told_loose : (nat : NatLines) → IsOne (nats_of chains) nat → All (Means cuts chains orders) (told_if (is_loose nat) (BitsPastLength nat.inside_line))
  told_loose nat one = so_told (Means cuts chains orders) (is_loose nat) (BitsPastLength nat.inside_line) (λ h. inr (record { nat = nat; of_nats = one; at_line = refl; so = h }))

  all_nats : All (Means cuts chains orders) (told_nats chains)
  all_nats = all_gathered (Means cuts chains orders) told_nat (nats_of chains)
      (λ front nat back of. All-append (Means cuts chains orders) (told_if (is_loose nat) (BitsPastLength nat.inside_line)) (option_to_list (inside_of nat) ++ option_to_list (shared_of front nat))
      (told_loose nat (record { front = front; back = back; is = of }))
      (All-append (Means cuts chains orders) (option_to_list (inside_of nat)) (option_to_list (shared_of front nat))
      (told_inside nat (record { front = front; back = back; is = of }) (is_within nat.prefix nat.bits nat.public) refl)
      (told_shared front nat back of (find (shares nat) front) refl)))
      [] (nats_of chains) refl

-- Chains of limiters.
module _ (cuts : List Bool) (chains : List ChainPolicy) (orders : List Order) where
  one_apart : (before : List ChainPolicy) (chain : ChainPolicy) (after : List ChainPolicy) → chains ≡ before ++ chain ∷ after → (n : NatLines) → IsOne (filter_map nat_of chain.functions) n → (o : Option ChainPolicy) → find (takes_from n) before ≡ o →
      All (Means cuts chains orders) (option_to_list (option_map (λ (c : ChainPolicy). LimiterApart c.line n.inside_line) o))
  one_apart before chain after is n of None none = All-nil (Means cuts chains orders)
  one_apart before chain after is n of (Some other) some =
      let one = find_one (takes_from n) before other some in
      one_told (Means cuts chains orders) (LimiterApart other.line n.inside_line) (record {
        earlier = other;
        later = chain;
        follows = record { before = before; after = after; is = is; among = one.0 };
        nat = n;
        of_nats = of;
        at_line = refl;
        at_inside = refl;
        takes = one.1;
      })

  all_apart : All (Means cuts chains orders) (apart chains)
  all_apart = all_gathered (Means cuts chains orders) apart_in chains
      (λ before chain after is. all_gathered (Means cuts chains orders) (λ others n. told_apart before n) (filter_map nat_of chain.functions)
      (λ front n back of. one_apart before chain after is n (record { front = front; back = back; is = of }) (find (takes_from n) before) refl)
      [] (filter_map nat_of chain.functions) refl)
      [] chains refl

pub all_true : (cuts : List Bool) (chains : List ChainPolicy) (orders : List Order) → All (Means cuts chains orders) (findings cuts chains orders)
all_true cuts chains orders =
    All-append (Means cuts chains orders) (covered chain_asking chains) (gathered (told_at cuts orders) [] chains ++ (told_nats chains ++ apart chains))
    (each_covered chain_asking chains (Means cuts chains orders) (λ line other c. c))
    (All-append (Means cuts chains orders) (gathered (told_at cuts orders) [] chains) (told_nats chains ++ apart chains)
    (all_gathered (Means cuts chains orders) (told_at cuts orders) chains (λ before chain after is. all_told cuts chains orders before chain after is) [] chains refl)
    (All-append (Means cuts chains orders) (told_nats chains) (apart chains) (all_nats cuts chains orders) (all_apart cuts chains orders)))
