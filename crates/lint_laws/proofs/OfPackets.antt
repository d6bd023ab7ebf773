-- What findings mean holds of the functions that are made.
use Rattle.std.proofs.Common.{◌≡◌, ◌∙◌, ℕ, List, [], ◌∷◌, ◌++◌, map, Bool, true, false, refl, append_assoc, sym, ap, subst, cond, Some, None, suc, zero}
use Rattle.std.specs.Prelude.{Option, is_none, length, filter_map, codes, All, slice_get}
use Rattle.std.specs.Option.{option_map, option_map_or}
use Rattle.std.specs.Str.{bytes_eq}
use Rattle.std.proofs.lemmas.List.Elements.{All-head, All-tail}
use Rattle.action_profile.specs.declared.kind.Kind.{Kind}
use Rattle.action_profile.specs.declared.kind.Kind.TheVariants as kinds
use Rattle.policy_text.specs.Meeting.{is_fitting}
use Rattle.policy_text.specs.declared.clause.Match.{Match}
use Rattle.policy_text.specs.declared.policy.ChainPolicy.{ChainPolicy}
use Rattle.policy_text.specs.declared.policy.FunctionDecl.{FunctionDecl}
use Rattle.policy_text.specs.declared.policy.Setting.{Setting}
use Rattle.policy_text.specs.declared.seen.Seen.{Seen}
use Rattle.policy_check.specs.declared.fault.Order.{Order}
use Rattle.chain_walk.specs.Packets.{Packet, fates, functions_after}
use Rattle.function_lines.specs.KindLines.{KindLines, refused_line as refused_line_of}
use Rattle.function_lines.specs.Rules.{first_met}
use Rattle.nf_filter.specs.declared.firewall.Rule.{Rule}
use Rattle.nf_filter.specs.Firewalls.{passes}
use Rattle.nf_filter.specs.Lines.{firewall_lines}
use Rattle.nf_mark.specs.declared.marker.MarkRule.{MarkRule}
use Rattle.nf_mark.specs.declared.nexthop.NexthopRule.{NexthopRule}
use Rattle.nf_mark.specs.declared.tagger.TagRule.{TagRule}
use Rattle.nf_mark.specs.MarkerLines.{marker_lines, line_of as marker_line}
use Rattle.nf_mark.specs.Markers.{marker_of}
use Rattle.nf_mark.specs.NexthopLines.{nexthop_lines, line_of as nexthop_line}
use Rattle.nf_mark.specs.Nexthops.{nexthop_of}
use Rattle.nf_mark.specs.TaggerLines.{tagger_lines, line_of as tagger_line}
use Rattle.nf_mark.specs.Taggers.{tagger_of}
use Rattle.net_functions.specs.Builds.{making_of, function_of, refused_line}
use Rattle.net_functions.specs.NetFunctions.{net_behaviour}
use Rattle.net_functions.specs.declared.net_function.NetFunction.{NetFunction}
use Rattle.net_functions.specs.declared.net_function.NetFunction.TheVariants as functions
use Rattle.net_functions.specs.declared.making.Made.TheVariants as made
use Rattle.policy_lint.specs.declared.finding.Finding.{Finding}
use Rattle.policy_lint.specs.declared.finding.Finding.TheVariants.{RuleCovered, NeverReached, DropsNone, DropsEach}
use Rattle.policy_lint.specs.declared.rule_line.RuleLine.{RuleLine}
use Rattle.policy_lint.specs.Findings.{rule_asking, order_at}
use Rattle.policy_lint.specs.Firewalls.{default_of, is_firewall}
use Rattle.policy_lint.specs.Meaning.{IsOne, IsCovered, IsRuleCovered, IsFunction, IsFirewall, IsNeverReached, PassesAll, PassesNone, Means}
use Rattle.policy_lint.specs.Rules.{word_of, rule_fit, rule_of, rules_of}
use Rattle.lint_laws.specs.Alike.{AreMadeAlike, DropsBy, IsMadeToDrop}
use Rattle.lint_laws.specs.OfPackets.{AreAccepted, IsNeedless, IsDropping, IsPassing, IsShutOff, IsSoOfPackets}
use Rattle.lint_laws.specs.Reading.{read_rule, read_firewall}
use Rattle.lint_laws.specs.Walks.{IsGone, AreKept, AreInOrder, StaysBehind}
use Rattle.lint_laws.proofs.Accepted.{all_said}
use Rattle.lint_laws.proofs.DoAlike.{firewall_without, firewall_drops, markers_alike, taggers_alike, nexthops_alike}
use Rattle.lint_laws.proofs.FirewallLines.{rule_in}
use Rattle.lint_laws.proofs.Listed.{cut_at}
use Rattle.lint_laws.proofs.MadeAsRead.{firewall_made}
use Rattle.lint_laws.proofs.Needless.{IsLeft, left}
use Rattle.lint_laws.proofs.Shut.{all_kept, all_gone}
use Rattle.lint_laws.proofs.RuleLines.{fit_of_rule, no_rule_in, none_either, firewall_reads, marker_reads, tagger_reads, nexthop_reads}

-- Rules that may go.

-- a kind without rules has none
no_rule_at : (kind : Kind) → no_rule_in kind → (owner : ℕ) (settings : List Setting) (before : List RuleLine) (r : RuleLine) (after : List RuleLine) → filter_map (rule_of kind owner) settings ≡ before ++ r ∷ after → ⊥
no_rule_at kind none owner settings before r after is =
    let place = cut_at (rule_of kind owner) settings before r after is in
    let never : Some r.fit ≡ None = sym (ap (option_map (λ (x : RuleLine). x.fit)) place.gives) ∙ fit_of_rule kind owner place.thing ∙ none place.thing.words in
    cc

module _ (decl : FunctionDecl) (accepted : refused_line decl ≡ None) (line other : ℕ) (c : IsCovered rule_asking (rules_of decl) line other) where
  of_kind : (kind : Kind) → decl.kind ≡ kind → filter_map (rule_of kind decl.line) decl.settings ≡ c.follows.before ++ c.later ∷ c.follows.after
  of_kind kind is = sym (ap (λ k. filter_map (rule_of k decl.line) decl.settings) is) ∙ c.follows.is

  without : {R : Type 0} (rule : Setting → Option R) (fit : R → Match) (l : IsLeft rule fit decl.settings c.later.line) →
      AreMadeAlike (function_of decl) (function_of (record decl { settings = l.front ++ l.back })) → IsNeedless line decl
  without rule fit l same = record { front = l.front; rule = l.rule; back = l.back; of_settings = l.is; at_line = l.at_line ∙ c.at_line; same = same }

  module _ {L R : Type 0} (lines : KindLines L) (rule : Setting → Option R) (fit : R → Match) (kind : Kind)
      (reads : (s : Setting) → is_none (lines.line_of s.words) ≡ false → rule_fit kind s.words ≡ option_map fit (rule s)) (is : decl.kind ≡ kind) (none : refused_line_of lines decl ≡ None) where
    its : IsLeft rule fit decl.settings c.later.line
    its = left lines rule fit kind reads decl.line decl.settings (all_said lines decl none) c.follows.before c.earlier c.later c.follows.after (of_kind kind is) c.follows.among c.nothing_left

    -- where what is made of the lines is alike, the rule may go
    by_kind : ((l : IsLeft rule fit decl.settings c.later.line) → AreMadeAlike ((making_of kind).made decl) ((making_of kind).made (record decl { settings = l.front ++ l.back }))) → IsNeedless line decl
    by_kind alike = without rule fit its (subst (λ k. AreMadeAlike ((making_of k).made decl) ((making_of k).made (record decl { settings = its.front ++ its.back }))) (sym is) (alike its))

  absent : (kind : Kind) → no_rule_in kind → decl.kind ≡ kind → IsNeedless line decl
  absent kind none is = absurd (no_rule_at kind none decl.line decl.settings c.follows.before c.later c.follows.after (of_kind kind is))

  needless_by : (kind : Kind) → decl.kind ≡ kind → (making_of kind).refused decl ≡ None → IsNeedless line decl
  unfolding making_of
  needless_by kinds.Firewall is none = by_kind firewall_lines rule_in (λ (r : Rule). r.fit) kinds.Firewall firewall_reads is none (λ l. firewall_without decl c.later.line l)
  needless_by kinds.Marker is none = by_kind marker_lines (λ s. marker_line s.words) (λ (r : MarkRule). r.fit) kinds.Marker marker_reads is none
      (λ l. markers_alike (marker_of decl) (marker_of (record decl { settings = l.front ++ l.back })) l.same)
  needless_by kinds.Tagger is none = by_kind tagger_lines (λ s. tagger_line s.words) (λ (r : TagRule). r.fit) kinds.Tagger tagger_reads is none
      (λ l. taggers_alike (tagger_of decl) (tagger_of (record decl { settings = l.front ++ l.back })) l.same)
  needless_by kinds.Nexthop is none = by_kind nexthop_lines (λ s. nexthop_line s.words) (λ (r : NexthopRule). r.fit) kinds.Nexthop nexthop_reads is none
      (λ l. nexthops_alike (nexthop_of decl) (nexthop_of (record decl { settings = l.front ++ l.back })) l.same)
  needless_by kinds.Nat is none = absent kinds.Nat (λ words. none_either (bytes_eq (word_of words 0) (codes "rule")) None refl) is
  needless_by kinds.Balancer is none = absent kinds.Balancer (λ words. none_either (bytes_eq (word_of words 0) (codes "rule")) None refl) is
  needless_by kinds.Monitor is none = absent kinds.Monitor (λ words. none_either (bytes_eq (word_of words 0) (codes "rule")) None refl) is
  needless_by kinds.Limiter is none = absent kinds.Limiter (λ words. none_either (bytes_eq (word_of words 0) (codes "rule")) None refl) is
  needless_by kinds.Hop is none = absent kinds.Hop (λ words. none_either (bytes_eq (word_of words 0) (codes "rule")) None refl) is
  needless_by kinds.Untagger is none = absent kinds.Untagger (λ words. none_either (bytes_eq (word_of words 0) (codes "rule")) None refl) is
  needless_by kinds.Signature is none = absent kinds.Signature (λ words. none_either (bytes_eq (word_of words 0) (codes "rule")) None refl) is
  needless_by kinds.Redactor is none = absent kinds.Redactor (λ words. none_either (bytes_eq (word_of words 0) (codes "rule")) None refl) is
  needless_by kinds.Encap is none = absent kinds.Encap (λ words. none_either (bytes_eq (word_of words 0) (codes "rule")) None refl) is
  needless_by kinds.Decap is none = absent kinds.Decap (λ words. none_either (bytes_eq (word_of words 0) (codes "rule")) None refl) is

  pub needless : IsNeedless line decl
  needless = needless_by decl.kind refl accepted

-- Firewalls that pass all packets, or none.
firewall_kind : (kind : Kind) → is_firewall kind ≡ true → kind ≡ kinds.Firewall
firewall_kind kinds.Firewall h = refl
firewall_kind kind h = absurd cc

-- the rules that are made decide as those that are read
read_allows : (rules : List RuleLine) (default : Bool) (seen : Seen) →
    option_map_or (λ (r : Rule). r.allow) (first_met (λ (r : Rule). r.fit) seen (map read_rule rules)) default ≡ option_map_or (λ (r : RuleLine). r.allow) (first_met (λ (r : RuleLine). r.fit) seen rules) default
read_allows [] default seen = refl
read_allows (r ∷ rules) default seen = by (is_fitting r.fit seen) (read_allows rules default seen)
  where
    by : (b : Bool) → option_map_or (λ (x : Rule). x.allow) (first_met (λ (x : Rule). x.fit) seen (map read_rule rules)) default ≡ option_map_or (λ (x : RuleLine). x.allow) (first_met (λ (x : RuleLine). x.fit) seen rules) default →
        option_map_or (λ (x : Rule). x.allow) (cond b (Some (read_rule r)) (first_met (λ (x : Rule). x.fit) seen (map read_rule rules))) default
        ≡ option_map_or (λ (x : RuleLine). x.allow) (cond b (Some r) (first_met (λ (x : RuleLine). x.fit) seen rules)) default
    by true rest = refl
    by false rest = rest

read_passes : (decl : FunctionDecl) (seen : Seen) → passes (read_firewall decl) seen ≡ option_map_or (λ (r : RuleLine). r.allow) (first_met (λ (r : RuleLine). r.fit) seen (rules_of decl)) (default_of decl)
unfolding passes
read_passes decl seen = read_allows (rules_of decl) (default_of decl) seen

module _ (decl : FunctionDecl) (accepted : refused_line decl ≡ None) (filters : is_firewall decl.kind ≡ true) where
  is_made : function_of decl ≡ made.Function (functions.Firewall (read_firewall decl))
  is_made = firewall_made decl (firewall_kind decl.kind filters) accepted

  pub drops_each : PassesNone decl → IsMadeToDrop true (function_of decl)
  drops_each none = subst (IsMadeToDrop true) (sym is_made) (firewall_drops (read_firewall decl) true false refl (λ seen. read_passes decl seen ∙ none seen))

  pub drops_none : PassesAll decl → IsMadeToDrop false (function_of decl)
  drops_none all = subst (IsMadeToDrop false) (sym is_made) (firewall_drops (read_firewall decl) false true refl (λ seen. read_passes decl seen ∙ all seen))

-- All findings.

one_so : {T : Type 0} (P : T → Type 0) (things : List T) (t : T) → IsOne things t → All P things → P t
one_so {T} P things t one all = by one.front (subst (All P) one.is all)
  where
    by : (front : List T) → All P (front ++ t ∷ one.back) → P t
    by [] all = All-head P t one.back all
    by (x ∷ front) all = by front (All-tail P x (front ++ t ∷ one.back) all)

got_one : {T : Type 0} (things : List T) (place : ℕ) (t : T) → slice_get things place ≡ Some t → IsOne things t
got_one [] place t h = absurd cc
got_one (x ∷ things) zero t h = let same : x ≡ t = cc in record { front = []; back = things; is = ap (λ y. y ∷ things) same }
got_one (x ∷ things) (suc place) t h = let rest = got_one things place t h in record { front = x ∷ rest.front; back = rest.back; is = ap (λ l. x ∷ l) rest.is }

-- What stands in an order behind a function that drops every packet.

-- the functions of an order, cut at a place
record IsCutOrder (decls : List FunctionDecl) (front : List ℕ) (place : ℕ) (fs : List NetFunction) : Type 0 where
  before : List NetFunction
  f : NetFunction
  after : List NetFunction
  is : fs ≡ before ++ f ∷ after
  as_many : length before ≡ length front
  decl : FunctionDecl
  is_there : slice_get decls place ≡ Some decl
  is_made : function_of decl ≡ made.Function f

cut_functions : (decls : List FunctionDecl) (front : List ℕ) (place : ℕ) (rest : List ℕ) (fs : List NetFunction) → AreInOrder decls (front ++ place ∷ rest) fs → IsCutOrder decls front place fs
cut_functions decls [] place rest [] h = absurd h
cut_functions decls [] place rest (f ∷ fs) h = record { before = []; f = f; after = fs; is = refl; as_many = refl; decl = h.0.0; is_there = h.0.1; is_made = h.0.2 }
cut_functions decls (p ∷ front) place rest [] h = absurd h
cut_functions decls (p ∷ front) place rest (g ∷ fs) h =
    let cut = cut_functions decls front place rest fs h.1 in
    record {
      before = g ∷ cut.before;
      f = cut.f;
      after = cut.after;
      is = ap (λ l. g ∷ l) cut.is;
      as_many = ap suc cut.as_many;
      decl = cut.decl;
      is_there = cut.is_there;
      is_made = cut.is_made;
    }

stays_behind : (decls : List FunctionDecl) (dropper : FunctionDecl) (place : ℕ) (front rest : List ℕ) → slice_get decls place ≡ Some dropper → IsMadeToDrop true (function_of dropper) →
    (fs : List NetFunction) → AreInOrder decls (front ++ place ∷ rest) fs → (packets : List Packet) → StaysBehind (length front) fs packets
stays_behind decls dropper place front rest is_there drops fs made packets =
    let cut = cut_functions decls front place rest fs made in
    let found : Some dropper ≡ Some cut.decl = sym is_there ∙ cut.is_there in
    let same : dropper ≡ cut.decl = cc in
    let drops_it : DropsBy true cut.f = subst (IsMadeToDrop true) cut.is_made (subst (λ d. IsMadeToDrop true (function_of d)) same drops) in
    record {
      front = cut.before;
      back = cut.f ∷ cut.after;
      split = cut.is;
      as_many = cut.as_many;
      kept = subst (λ l. AreKept cut.before (cut.f ∷ cut.after) (functions_after net_behaviour l packets)) (sym cut.is) (all_kept cut.f drops_it cut.after cut.before packets);
      gone = subst (λ l. All IsGone (fates net_behaviour l packets)) (sym cut.is) (all_gone cut.f drops_it cut.after cut.before packets);
    }

module _ (cuts : List Bool) (chains : List ChainPolicy) (orders : List Order) (accepted : AreAccepted chains) where
  accepted_one : (chain : ChainPolicy) (decl : FunctionDecl) → IsOne chains chain → IsOne chain.functions decl → refused_line decl ≡ None
  accepted_one chain decl of_chains of_chain =
      one_so (λ (d : FunctionDecl). refused_line d ≡ None) chain.functions decl of_chain
      (one_so (λ (c : ChainPolicy). All (λ (d : FunctionDecl). refused_line d ≡ None) c.functions) chains chain of_chains accepted)

  needless_in : (line by : ℕ) → IsRuleCovered chains line by → IsFunction (IsNeedless line) chains
  needless_in line by h = record {
    chain = h.chain;
    decl = h.decl;
    of_chains = h.of_chains;
    of_chain = h.of_chain;
    so = needless h.decl (accepted_one h.chain h.decl h.of_chains h.of_chain) line by h.covered;
  }

  -- the order up to the dropper
  cut_order : (line by : ℕ) (h : IsNeverReached chains orders line by) →
      order_at orders (length h.behind.before) ≡ h.behind.follows.among.front ++ h.behind.earlier ∷ (h.behind.follows.among.back ++ h.behind.later ∷ h.behind.follows.after)
  cut_order line by h =
      h.behind.follows.is
      ∙ ap (λ places. places ++ h.behind.later ∷ h.behind.follows.after) h.behind.follows.among.is
      ∙ append_assoc h.behind.follows.among.front (h.behind.earlier ∷ h.behind.follows.among.back) (h.behind.later ∷ h.behind.follows.after)

  shut_off : (line by : ℕ) → IsNeverReached chains orders line by → IsShutOff chains orders line by
  shut_off line by h =
      let drops : IsMadeToDrop true (function_of h.dropper) = drops_each h.dropper
      (accepted_one h.behind.chain h.dropper (record { front = h.behind.before; back = h.behind.after; is = h.behind.is }) (got_one h.behind.chain.functions h.behind.earlier h.dropper h.is_there)) h.filters h.passes_none in
      record {
        behind = h.behind;
        dropper = h.dropper;
        is_there = h.is_there;
        drops = drops;
        stays = λ functions made packets. stays_behind h.behind.chain.functions h.dropper h.behind.earlier h.behind.follows.among.front (h.behind.follows.among.back ++ h.behind.later ∷ h.behind.follows.after) h.is_there drops functions
            (subst (λ order. AreInOrder h.behind.chain.functions order functions) (cut_order line by h) made) packets;
      }

  passing : (line : ℕ) → IsFunction (IsFirewall PassesAll line) chains → IsFunction (IsPassing line) chains
  passing line h = record {
    chain = h.chain;
    decl = h.decl;
    of_chains = h.of_chains;
    of_chain = h.of_chain;
    so = (h.so.at_line, drops_none h.decl (accepted_one h.chain h.decl h.of_chains h.of_chain) h.so.filters h.so.so);
  }

  dropping : (line : ℕ) → IsFunction (IsFirewall PassesNone line) chains → IsFunction (IsDropping line) chains
  dropping line h = record {
    chain = h.chain;
    decl = h.decl;
    of_chains = h.of_chains;
    of_chain = h.of_chain;
    so = (h.so.at_line, drops_each h.decl (accepted_one h.chain h.decl h.of_chains h.of_chain) h.so.filters h.so.so);
  }

  so_one : (finding : Finding) → Means cuts chains orders finding → IsSoOfPackets chains orders finding
  so_one (RuleCovered line by) means = needless_in line by means
  so_one (NeverReached line by) means = shut_off line by means
  so_one (DropsNone line) means = passing line means
  so_one (DropsEach line) means = dropping line means
  so_one finding means = tt

  pub all_so : (found : List Finding) → All (Means cuts chains orders) found → All (IsSoOfPackets chains orders) found
  all_so found means = λ k d inside. so_one _ (means k d inside)
