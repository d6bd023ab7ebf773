-- A rule that one before it covers may go: what is made without its line decides the same for every packet.
use Rattle.std.proofs.Common.{◌≡◌, ◌∙◌, ℕ, List, [], ◌∷◌, ◌++◌, map, true, false, refl, sym, ap, subst, Some, None}
use Rattle.std.specs.Prelude.{Option, is_none, filter_map}
use Rattle.std.specs.List.{list_any, cons_option}
use Rattle.std.specs.Option.{option_map}
use Rattle.std.proofs.lemmas.List.Elements.{filter_map-append}
use Rattle.action_profile.specs.declared.kind.Kind.{Kind}
use Rattle.policy_text.specs.Meeting.{is_fitting}
use Rattle.policy_text.specs.declared.clause.Match.{Match}
use Rattle.policy_text.specs.declared.policy.Setting.{Setting}
use Rattle.policy_text.specs.declared.seen.Seen.{Seen}
use Rattle.function_lines.specs.KindLines.{KindLines}
use Rattle.function_lines.specs.Rules.{first_met}
use Rattle.policy_lint.specs.declared.rule_line.RuleLine.{RuleLine}
use Rattle.policy_lint.specs.Meaning.{IsOne}
use Rattle.policy_lint.specs.Rules.{rule_fit, rule_of}
use Rattle.lint_laws.proofs.Accepted.{AreSaid}
use Rattle.lint_laws.proofs.Listed.{IsCutAt, cut_at, found_same, one_passes, any_mapped}
use Rattle.lint_laws.proofs.RuleLines.{fit_of_rule, line_of_rule, fits_same}

-- The line that may go, and what is decided without it.
pub record IsLeft {R : Type 0} (made : Setting → Option R) (fit : R → Match) (settings : List Setting) (line : ℕ) : Type 0 where
  pub front : List Setting
  pub rule : Setting
  pub back : List Setting
  pub is : settings ≡ front ++ rule ∷ back
  pub at_line : rule.line ≡ line
  pub of_rule : R
  pub gives : made rule ≡ Some of_rule
  pub same : (seen : Seen) → first_met fit seen (filter_map made settings) ≡ first_met fit seen (filter_map made (front ++ back))

module _ {L R : Type 0} (lines : KindLines L) (made : Setting → Option R) (fit : R → Match) (kind : Kind)
    (reads : (s : Setting) → is_none (lines.line_of s.words) ≡ false → rule_fit kind s.words ≡ option_map fit (made s)) where
  said_front : (front later : List Setting) → AreSaid lines (front ++ later) → AreSaid lines front
  said_front [] later said = tt
  said_front (s ∷ front) later said = (said.0, said_front front later said.1)

  said_at : (front : List Setting) (s : Setting) (later : List Setting) → AreSaid lines (front ++ s ∷ later) → is_none (lines.line_of s.words) ≡ false
  said_at [] s later said = said.0
  said_at (t ∷ front) s later said = said_at front s later said.1

  -- the rule that is made of such a line has its clauses
  rule_made : (o : Option R) (m : Match) → Some m ≡ option_map fit o → (r : R) × (o ≡ Some r) × (fit r ≡ m)
  rule_made None m h = absurd cc
  rule_made (Some r) m h = let same : m ≡ fit r = cc in (r, refl, sym same)

  module _ (owner : ℕ) (settings : List Setting) (said : AreSaid lines settings) (before : List RuleLine) (earlier later : RuleLine) (after : List RuleLine) (is : filter_map (rule_of kind owner) settings ≡ before ++ later ∷ after)
      (among : IsOne before earlier) (nothing_left : (seen : Seen) → is_fitting later.fit seen ≡ true → is_fitting earlier.fit seen ≡ true) where
    place : IsCutAt (rule_of kind owner) settings before later after
    place = cut_at (rule_of kind owner) settings before later after is

    all_split : AreSaid lines (place.front ++ place.thing ∷ place.back)
    all_split = subst (AreSaid lines) place.is said

    -- the rule that is made of its line
    its : (r : R) × (made place.thing ≡ Some r) × (fit r ≡ later.fit)
    its = rule_made (made place.thing) later.fit
        (sym (ap (option_map (λ (r : RuleLine). r.fit)) place.gives) ∙ fit_of_rule kind owner place.thing ∙ reads place.thing (said_at place.front place.thing place.back all_split))

    -- the clauses of the rules before it
    fits_before : map fit (filter_map made place.front) ≡ map (λ (r : RuleLine). r.fit) before
    fits_before =
        sym (fits_same lines made fit kind reads owner place.front (said_front place.front (place.thing ∷ place.back) all_split))
        ∙ ap (map (λ (r : RuleLine). r.fit)) place.gives_before

    -- a packet that meets it meets one before it
    met_before : (seen : Seen) → is_fitting (fit its.0) seen ≡ true → list_any (λ r. is_fitting (fit r) seen) (filter_map made place.front) ≡ true
    met_before seen met =
        sym (any_mapped fit (λ m. is_fitting m seen) (filter_map made place.front))
        ∙ ap (list_any (λ m. is_fitting m seen)) fits_before
        ∙ any_mapped (λ (r : RuleLine). r.fit) (λ m. is_fitting m seen) before
        ∙ ap (list_any (λ (r : RuleLine). is_fitting r.fit seen)) among.is
        ∙ one_passes (λ (r : RuleLine). is_fitting r.fit seen) among.front among.back earlier (nothing_left seen (sym (ap (λ m. is_fitting m seen) its.2) ∙ met))

    split : filter_map made settings ≡ filter_map made place.front ++ its.0 ∷ filter_map made place.back
    split =
        ap (filter_map made) place.is
        ∙ filter_map-append made place.front (place.thing ∷ place.back)
        ∙ ap (λ o. filter_map made place.front ++ cons_option o (filter_map made place.back)) its.1

    pub left : IsLeft made fit settings later.line
    left = record {
      front = place.front;
      rule = place.thing;
      back = place.back;
      is = place.is;
      at_line = line_of_rule kind owner place.thing later place.gives;
      of_rule = its.0;
      gives = its.1;
      same = λ seen.
          ap (first_met fit seen) split
          ∙ found_same (λ r. is_fitting (fit r) seen) (filter_map made place.front) (filter_map made place.back) its.0 (met_before seen)
          ∙ ap (first_met fit seen) (sym (filter_map-append made place.front place.back));
    }
