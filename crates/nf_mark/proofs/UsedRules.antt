-- The rule at the place that decides is the first that a packet meets.
use Rattle.std.proofs.Common.{◌≡◌, ◌<◌, ◌∙◌, ℕ, List, [], ◌∷◌, length, refl, sym, ap, subst, true, false, ⊎_elim, inl, inr, arith}
use Rattle.std.specs.Prelude.{Bool, if◌then◌else◌, Option, Some, None, nat_lt, slice_get, find, position, IsSomeAnd}
use Rattle.std.specs.List.{position_or_len}
use Rattle.std.specs.Option.{option_and_then}
use Rattle.std.proofs.lemmas.Bool.{cases_Bool, cond-true, cond-false, ltb-true, ltb-false}
use Rattle.std.proofs.lemmas.List.Folds.{find_at}
use Rattle.std.proofs.lemmas.Option.{none-some, same_Some, slice_get_past, slice_get_cases}
use Rattle.policy_text.specs.declared.clause.Match.{Match}
use Rattle.policy_text.specs.declared.seen.Seen.{Seen}
use Rattle.policy_text.specs.Meeting.{is_fitting}
use Rattle.packet_function.specs.Deciding.{rule_at}
use Rattle.packet_function.specs.declared.deciding.DecidingLine.{DecidingLine}
use Rattle.packet_function.specs.declared.deciding.DecidingLine.TheVariants.{Rule}
use Rattle.function_lines.specs.Rules.{first_met}
use Rattle.nf_mark.specs.DecidingRules.{place_met}

module _ {R : Type 0} (test : R → Bool) (rules : List R) where
  first : ℕ
  first = position_or_len test rules

  is_within : Bool
  is_within = nat_lt first (length rules)

  -- the first that passes is at the first place that passes
  found_at : find test rules ≡ option_and_then (slice_get rules) (position test rules)
  unfolding first is_within
  found_at = ⊎_elim
      (λ below. find_at test rules ∙ sym (ap (option_and_then (slice_get rules)) (cond-true is_within (Some first) None below)))
      (λ past.
      find_at test rules ∙ slice_get_past rules first (ltb-false first (length rules) past)
      ∙ sym (ap (option_and_then (slice_get rules)) (cond-false is_within (Some first) None past)))
      (cases_Bool is_within)

  place_within : (place : ℕ) → position test rules ≡ Some place → place < length rules
  unfolding first is_within
  place_within place is = ⊎_elim
      (λ below. subst (λ n. n < length rules) (same_Some first place (sym (cond-true is_within (Some first) None below) ∙ is)) (ltb-true first (length rules) below))
      (λ past. absurd (none-some place (sym (cond-false is_within (Some first) None past) ∙ is)))
      (cases_Bool is_within)

  -- so there is an element at that place, and it is the first that passes
  there_at : (place : ℕ) → position test rules ≡ Some place → IsSomeAnd (slice_get rules place) (λ rule. find test rules ≡ Some rule)
  there_at place is = elim (slice_get_cases rules place).1 [
    | inl here ↦ subst (λ o. IsSomeAnd o (λ rule. find test rules ≡ Some rule)) (sym here.2) (found_at ∙ ap (option_and_then (slice_get rules)) is ∙ here.2)
    | inr past ↦ absurd (let within = place_within place is in omega (arith, past.0))
  ]

-- what holds of a value whose premise holds
pub if_there : {R : Type 0} {P Q : R → Type 0} (o : Option R) → ((x : R) → P x → Q x) → IsSomeAnd o P → IsSomeAnd o Q
if_there None so h = h
if_there (Some x) so h = so x h

place_of : List DecidingLine → ℕ
place_of (Rule place ∷ lines) = place
place_of lines = 0

of_rule : (found : Option ℕ) (place : ℕ) → rule_at found ≡ Rule place ∷ [] → found ≡ Some place
unfolding place_of
of_rule (Some other) place is = ap (λ l. Some (place_of l)) is
of_rule None place is = absurd cc

of_none : (found : Option ℕ) → rule_at found ≡ [] → found ≡ None
of_none (Some other) is = absurd cc
of_none None is = refl

module _ {R : Type 0} (fit : R → Match) (seen : Seen) (rules : List R) where
  -- A rule decides: it is used for this packet, and is the first that the packet meets.
  pub decides_at : (may : Bool) (place : ℕ) → rule_at (if may then place_met fit seen rules else None) ≡ Rule place ∷ [] →
      IsSomeAnd (slice_get rules place) (λ rule. (may ≡ true) × (first_met fit seen rules ≡ Some rule))
  unfolding place_met
  decides_at true place is = if_there (slice_get rules place) (λ rule h. (refl, h)) (there_at (λ rule. is_fitting (fit rule) seen) rules place (of_rule (place_met fit seen rules) place is))
  decides_at false place is = absurd (none-some place (of_rule None place is))

  -- No rule decides: none is used for this packet, or the packet meets none.
  pub none_decides : (may : Bool) → rule_at (if may then place_met fit seen rules else None) ≡ [] → (if may then first_met fit seen rules else None) ≡ None
  unfolding place_met
  none_decides true is = found_at (λ rule. is_fitting (fit rule) seen) rules ∙ ap (option_and_then (slice_get rules)) (of_none (place_met fit seen rules) is)
  none_decides false is = refl
