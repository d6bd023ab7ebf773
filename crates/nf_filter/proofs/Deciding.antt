-- The first rule that is met decides.
use Rattle.std.proofs.Common.{◌≡◌, ◌⊎◌, inl, inr, ◌∙◌, List, [], ◌∷◌, ◌++◌, Bool, true, false, refl, ap, Some, None, cond}
use Rattle.std.specs.Prelude.{◌||◌, find}
use Rattle.std.specs.List.{list_any}
use Rattle.std.specs.Option.{option_map_or}
use Rattle.policy_text.specs.declared.seen.Seen.{Seen}
use Rattle.policy_text.specs.Meeting.{is_fitting}
use Rattle.chain_walk.specs.Shown.{Values}
use Rattle.chain_walk.specs.Step.{stepped}
use Rattle.chain_walk.specs.declared.fixed.Fixed.{Fixed}
use Rattle.nf_filter.specs.declared.firewall.Firewall.{Firewall}
use Rattle.nf_filter.specs.declared.firewall.Rule.{Rule}
use Rattle.nf_filter.specs.Deciding.{IsFirstMet, MeetsNone}
use Rattle.nf_filter.specs.Firewalls.{all_seen, firewall_behaviour, passes}
use Rattle.nf_filter.specs.Places.{neither}
use Rattle.nf_filter.specs.Verdicts.{verdict_by}

module _ (p : Rule → Bool) where
  found_first : (before behind : List Rule) (rule : Rule) → list_any p before ≡ false → p rule ≡ true → find p (before ++ rule ∷ behind) ≡ Some rule
  found_first [] behind rule none met = ap (λ b. cond b (Some rule) (find p behind)) met
  found_first (r ∷ before) behind rule none met =
      let parts = neither (p r) (list_any p before) none in
      ap (λ b. cond b (Some r) (find p (before ++ rule ∷ behind))) parts.0 ∙ found_first before behind rule parts.1 met

  none_found : (rules : List Rule) → list_any p rules ≡ false → find p rules ≡ None
  none_found [] none = refl
  none_found (r ∷ rules) none =
      let parts = neither (p r) (list_any p rules) none in
      ap (λ b. cond b (Some r) (find p rules)) parts.0 ∙ none_found rules parts.1

-- whether the packet meets all clauses of a rule
is_met_by : Seen → Rule → Bool
is_met_by seen rule = is_fitting rule.fit seen

pub first_decides : (fixed : Fixed) (f : Firewall) (v : Values) (rule : Rule) → IsFirstMet f.rules (all_seen v fixed) rule → (stepped firewall_behaviour fixed f v).verdict ≡ verdict_by rule.allow
unfolding passes is_met_by
first_decides fixed f v rule first =
    let p = is_met_by (all_seen v fixed) in
    ap (λ met. verdict_by (option_map_or (λ (r : Rule). r.allow) met f.default))
    (ap (find p) first.stands ∙ found_first p first.before first.behind rule first.unmet first.met)

pub default_decides : (fixed : Fixed) (f : Firewall) (v : Values) → MeetsNone f.rules (all_seen v fixed) → (stepped firewall_behaviour fixed f v).verdict ≡ verdict_by f.default
unfolding passes is_met_by
default_decides fixed f v none =
    ap (λ met. verdict_by (option_map_or (λ (r : Rule). r.allow) met f.default)) (none_found (is_met_by (all_seen v fixed)) f.rules none)

pub none_or_first : (rules : List Rule) (seen : Seen) → MeetsNone rules seen ⊎ ((rule : Rule) × IsFirstMet rules seen rule)
none_or_first [] seen = inl refl
none_or_first (r ∷ rules) seen = by (is_fitting r.fit seen) refl (none_or_first rules seen)
  where
    by : (b : Bool) → is_fitting r.fit seen ≡ b → (MeetsNone rules seen ⊎ ((rule : Rule) × IsFirstMet rules seen rule)) → MeetsNone (r ∷ rules) seen ⊎ ((rule : Rule) × IsFirstMet (r ∷ rules) seen rule)
    by true is later = inr (r, record { before = []; behind = rules; stands = refl; unmet = refl; met = is })
    by false is (inl none) = inl (ap (λ b. b || list_any (λ (rule : Rule). is_fitting rule.fit seen) rules) is ∙ none)
    by false is (inr found) = inr (
      found.0,
      record {
        before = r ∷ found.1.before;
        behind = found.1.behind;
        stands = ap (λ rs. r ∷ rs) found.1.stands;
        unmet = ap (λ b. b || list_any (λ (rule : Rule). is_fitting rule.fit seen) found.1.before) is ∙ found.1.unmet;
        met = found.1.met;
      },
    )
