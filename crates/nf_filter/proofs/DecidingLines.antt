-- The lines that decide do what the step does.
use Rattle.std.proofs.Common.{◌≡◌, ◌⊎◌, inl, inr, ◌∙◌, ℕ, List, [], ◌∷◌, ◌++◌, length, map, slice_get, Bool, true, false, not, refl, sym, ap, Option, Some, None}
use Rattle.std.specs.Prelude.{if◌then◌else◌, ◌||◌, position}
use Rattle.std.specs.Option.{option_map_or}
use Rattle.policy_text.specs.Meeting.{is_fitting}
use Rattle.packet_fields.specs.declared.field.Field.TheVariants.{Payload}
use Rattle.chain_walk.specs.Shown.{Values}
use Rattle.chain_walk.specs.Step.{stepped, is_drop}
use Rattle.chain_walk.specs.declared.fixed.Fixed.{Fixed}
use Rattle.packet_function.specs.Deciding.{decided, rule_at}
use Rattle.packet_function.specs.declared.deciding.DecidingLine.{DecidingLine}
use Rattle.packet_function.specs.declared.deciding.DecidingLine.TheVariants as deciding
use Rattle.packet_function.specs.declared.deciding.SettingKey.TheVariants as keys
use Rattle.patterns.specs.Occurrences.{occurs, some_occurs}
use Rattle.nf_filter.specs.declared.firewall.Firewall.{Firewall}
use Rattle.nf_filter.specs.declared.firewall.Rule.{Rule}
use Rattle.nf_filter.specs.declared.signature.Signature.{Signature}
use Rattle.nf_filter.specs.Deciding.{IsFirstFound, IsFirstMet, MeetsNone, denies}
use Rattle.nf_filter.specs.Firewalls.{all_seen, firewall_behaviour, firewall_decides, line_at}
use Rattle.nf_filter.specs.Places.{IsFirstPassing, none_or_first as none_or_first_passing, place_behind, first_place, none_place}
use Rattle.nf_filter.specs.Signatures.{is_found, place_found, signature_behaviour, signature_decides}
use Rattle.nf_filter.specs.Verdicts.{verdict_by}
use Rattle.nf_filter.proofs.Deciding.{first_decides, default_decides, none_or_first}

pub rule_line : (fixed : Fixed) (f : Firewall) (v : Values) (rule : Rule) → (first : IsFirstMet f.rules (all_seen v fixed) rule) →
    decided firewall_behaviour firewall_decides fixed f v ≡ deciding.Rule (length first.before) ∷ []
rule_line fixed f v rule first =
    let p = λ (r : Rule). is_fitting r.fit (all_seen v fixed) in
    ap (λ rules. line_at (position p rules) ∷ []) first.stands ∙ ap (λ place. line_at place ∷ []) (place_behind p first.before first.behind rule first.unmet first.met)

pub default_line : (fixed : Fixed) (f : Firewall) (v : Values) → MeetsNone f.rules (all_seen v fixed) →
    decided firewall_behaviour firewall_decides fixed f v ≡ deciding.Set keys.Default ∷ []
default_line fixed f v none = ap (λ place. line_at place ∷ []) (none_place (λ (r : Rule). is_fitting r.fit (all_seen v fixed)) f.rules none)

denied : (allow : Bool) → not allow ≡ is_drop (verdict_by allow)
denied true = refl
denied false = refl

at_place : (before behind : List Rule) (rule : Rule) → slice_get (before ++ rule ∷ behind) (length before) ≡ Some rule
at_place [] behind rule = refl
at_place (r ∷ before) behind rule = at_place before behind rule

pub drops_as_denied : (fixed : Fixed) (f : Firewall) (v : Values) →
    map (denies f) (decided firewall_behaviour firewall_decides fixed f v) ≡ is_drop (stepped firewall_behaviour fixed f v).verdict ∷ []
drops_as_denied fixed f v = by (none_or_first f.rules (all_seen v fixed))
  where
    by : (MeetsNone f.rules (all_seen v fixed) ⊎ ((rule : Rule) × IsFirstMet f.rules (all_seen v fixed) rule)) →
        map (denies f) (decided firewall_behaviour firewall_decides fixed f v) ≡ is_drop (stepped firewall_behaviour fixed f v).verdict ∷ []
    by (inl none) =
        ap (map (denies f)) (default_line fixed f v none)
        ∙ ap (λ denies. denies ∷ []) (denied f.default ∙ ap is_drop (sym (default_decides fixed f v none)))
    by (inr found) =
        let rule = found.0 in
        let first = found.1 in
        ap (map (denies f)) (rule_line fixed f v rule first)
        ∙ ap (λ denies. denies ∷ [])
        (ap (λ rules. option_map_or (λ (r : Rule). not r.allow) (slice_get rules (length first.before)) false) first.stands
        ∙ ap (λ r. option_map_or (λ (r : Rule). not r.allow) r false) (at_place first.before first.behind rule)
        ∙ denied rule.allow ∙ ap is_drop (sym (first_decides fixed f v rule first)))

-- one line where a pattern is found, and else none
found_lines : (patterns : List (List ℕ)) (payload : Option (List ℕ)) → length (rule_at (place_found patterns payload)) ≡ (if is_drop (verdict_by (not (is_found patterns payload))) then 1 else 0)
found_lines patterns None = refl
found_lines patterns (Some payload) = by (none_or_first_passing occur patterns)
  where
    occur : List ℕ → Bool
    occur pattern = occurs pattern payload

    counted : Bool → ℕ
    counted found = if is_drop (verdict_by (not found)) then 1 else 0

    some_at : (before behind : List (List ℕ)) (pattern : List ℕ) → occurs pattern payload ≡ true → some_occurs (before ++ pattern ∷ behind) payload ≡ true
    some_at [] behind pattern met = ap (λ b. b || some_occurs behind payload) met
    some_at (p ∷ before) behind pattern met = or_true (occurs p payload) (some_at before behind pattern met)
      where
        or_true : (a : Bool) {b : Bool} → b ≡ true → (a || b) ≡ true
        or_true true h = refl
        or_true false h = h

    by : (some_occurs patterns payload ≡ false) ⊎ IsFirstPassing occur patterns → length (rule_at (place_found patterns (Some payload))) ≡ counted (some_occurs patterns payload)
    by (inl none) = ap (λ place. length (rule_at place)) (none_place occur patterns none) ∙ ap counted (sym none)
    by (inr first) =
        ap (λ place. length (rule_at place)) (first_place occur patterns first)
        ∙ ap counted (sym (ap (λ ps. some_occurs ps payload) first.stands ∙ some_at first.before first.behind first.item first.met))

pub drops_where_found : (fixed : Fixed) (s : Signature) (v : Values) →
    length (decided signature_behaviour signature_decides fixed s v) ≡ (if is_drop (stepped signature_behaviour fixed s v).verdict then 1 else 0)
drops_where_found fixed s v = found_lines s.patterns (v Payload)

first_by : (patterns : List (List ℕ)) (payload : Option (List ℕ)) (line : DecidingLine) → rule_at (place_found patterns payload) ≡ line ∷ [] → IsFirstFound patterns payload line
first_by patterns None line is = absurd cc
first_by patterns (Some payload) line is = by (none_or_first_passing (λ pattern. occurs pattern payload) patterns)
  where
    no_line : [] ≡ line ∷ [] → IsFirstFound patterns (Some payload) line
    no_line e = absurd cc

    line_is : (place : ℕ) → deciding.Rule place ∷ [] ≡ line ∷ [] → line ≡ deciding.Rule place
    line_is place e = cc

    by : (some_occurs patterns payload ≡ false) ⊎ IsFirstPassing (λ pattern. occurs pattern payload) patterns → IsFirstFound patterns (Some payload) line
    by (inl none) = no_line (sym (ap rule_at (none_place (λ pattern. occurs pattern payload) patterns none)) ∙ is)
    by (inr first) = record {
      bytes = payload;
      before = first.before;
      pattern = first.item;
      behind = first.behind;
      there = refl;
      stands = first.stands;
      here = line_is (length first.before) (sym (ap rule_at (first_place (λ pattern. occurs pattern payload) patterns first)) ∙ is);
      unmet = first.unmet;
      met = first.met;
    }

pub is_first_found : (fixed : Fixed) (s : Signature) (v : Values) (line : DecidingLine) → decided signature_behaviour signature_decides fixed s v ≡ line ∷ [] → IsFirstFound s.patterns (v Payload) line
is_first_found fixed s v line is = first_by s.patterns (v Payload) line is
