-- The rules of a redactor that decide, found one after another.
use Rattle.std.proofs.Common.{◌≡◌, ◌<◌, ◌≤◌, ◌+◌, ◌∙◌, ℕ, zero, suc, List, [], ◌∷◌, ◌++◌, length, drop, get_or, refl, sym, ap, append_assoc, append-nil, true, false, arith}
use Rattle.std.specs.Prelude.{Some, position}
use Rattle.std.proofs.lemmas.Bool.{cond-true, cond-false, or_parts}
use Rattle.std.proofs.lemmas.List.{drop_all, drop_more, get_or_default}
use Rattle.std.proofs.lemmas.List.Quantifiers.{position-Some}
use Rattle.packet_function.specs.declared.deciding.DecidingLine.{DecidingLine}
use Rattle.packet_function.specs.declared.deciding.DecidingLine.TheVariants.{Rule}
use Rattle.patterns.specs.Occurrences.{occurs, some_occurs}
use Rattle.patterns.specs.Overwriting.{overwritten}
use Rattle.nf_mark.specs.Redactors.{rules_from}

-- no rule decides if no pattern occurs
pub none_used : (place : ℕ) (patterns : List (List ℕ)) (payload : List ℕ) → some_occurs patterns payload ≡ false → rules_from place patterns payload ≡ []
none_used place [] payload none = refl
none_used place (pattern ∷ later) payload none =
    let parts = or_parts (occurs pattern payload) (some_occurs later payload) none in
    cond-false (occurs pattern payload) _ _ parts.0 ∙ none_used (place + 1) later payload parts.1

module _ (place : ℕ) (pattern : List ℕ) (later : List (List ℕ)) (payload : List ℕ) where
  pub used_here : occurs pattern payload ≡ true → rules_from place (pattern ∷ later) payload ≡ Rule place ∷ rules_from (place + 1) later (overwritten pattern payload)
  used_here there = cond-true (occurs pattern payload) _ _ there

  pub passed_by : occurs pattern payload ≡ false → rules_from place (pattern ∷ later) payload ≡ rules_from (place + 1) later payload
  passed_by there = cond-false (occurs pattern payload) _ _ there

-- the first pattern that occurs decides, and then those after it do
used_first : (place : ℕ) (patterns : List (List ℕ)) (payload : List ℕ) (first : ℕ) → first < length patterns → occurs (get_or patterns first []) payload ≡ true →
    ((k : ℕ) → k < first → occurs (get_or patterns k []) payload ≡ false) →
    rules_from place patterns payload ≡ Rule (place + first) ∷ rules_from (place + first + 1) (drop (suc first) patterns) (overwritten (get_or patterns first []) payload)
used_first place [] payload first within there none = absurd (omega (arith, within))
used_first place (pattern ∷ later) payload zero within there none =
    used_here place pattern later payload there
    ∙ ap (λ n. Rule n ∷ rules_from (n + 1) later (overwritten pattern payload)) (omega arith)
used_first place (pattern ∷ later) payload (suc first) within there none =
    passed_by place pattern later payload (none 0 (omega arith))
    ∙ used_first (place + 1) later payload first (omega (arith, within)) there (λ k below. none (suc k) (omega (arith, below)))
    ∙ ap (λ n. Rule n ∷ rules_from (n + 1) (drop (suc first) later) (overwritten (get_or later first []) payload)) (omega arith)

module _ (patterns : List (List ℕ)) (payload : List ℕ) where
  module _ (first : ℕ) (is : position (λ pattern. occurs pattern payload) patterns ≡ Some first) where
    pub within : first < length patterns
    within = (position-Some (λ pattern. occurs pattern payload) patterns first [] is).0

    begins_first : rules_from 0 patterns payload ≡ Rule first ∷ rules_from (first + 1) (drop (first + 1) patterns) (overwritten (get_or patterns first []) payload)
    begins_first =
        let found = position-Some (λ pattern. occurs pattern payload) patterns first [] is in
        let from_none : 0 + first ≡ first = omega arith in
        let one_more : suc first ≡ first + 1 = omega arith in
        used_first 0 patterns payload first found.0 found.1 found.2
        ∙ ap (λ n. Rule n ∷ rules_from (n + 1) (drop (suc first) patterns) (overwritten (get_or patterns first []) payload)) from_none
        ∙ ap (λ n. Rule first ∷ rules_from (first + 1) (drop n patterns) (overwritten (get_or patterns first []) payload)) one_more

    -- it is the last pattern
    pub one_begins : first + 1 ≡ length patterns → Rule first ∷ [] ≡ rules_from 0 patterns payload
    one_begins last =
        sym (begins_first ∙ ap (λ l. Rule first ∷ rules_from (first + 1) l (overwritten (get_or patterns first []) payload)) (drop_all (first + 1) patterns (omega (arith, last))))

    pub one_follows : (pattern left : List ℕ) → pattern ≡ get_or patterns first pattern → left ≡ overwritten pattern payload →
        (Rule first ∷ []) ++ rules_from (first + 1) (drop (first + 1) patterns) left ≡ rules_from 0 patterns payload
    one_follows pattern left here is_left =
        ap (λ l. Rule first ∷ rules_from (first + 1) (drop (first + 1) patterns) l)
        (is_left ∙ ap (λ p. overwritten p payload) (here ∙ get_or_default patterns first pattern [] within)) ∙ sym begins_first

module _ (patterns : List (List ℕ)) (whole : List DecidingLine) (place : ℕ) (pattern left : List ℕ) (rules : List DecidingLine)
    (before : rules ++ rules_from place (drop place patterns) left ≡ whole) where
  module _ (within : place < length patterns) (is : pattern ≡ get_or patterns place pattern) where
    rest_is : drop place patterns ≡ pattern ∷ drop (place + 1) patterns
    rest_is = drop_more patterns place pattern within ∙ ap (λ p. p ∷ drop (place + 1) patterns) (sym is)

    pub goes_on : occurs pattern left ≡ true → (rules ++ Rule place ∷ []) ++ rules_from (place + 1) (drop (place + 1) patterns) (overwritten pattern left) ≡ whole
    goes_on there =
        append_assoc rules (Rule place ∷ []) _
        ∙ sym (ap (λ l. rules ++ l) (ap (λ l. rules_from place l left) rest_is ∙ used_here place pattern (drop (place + 1) patterns) left there))
        ∙ before

    pub goes_past : occurs pattern left ≡ false → rules ++ rules_from (place + 1) (drop (place + 1) patterns) left ≡ whole
    goes_past there =
        sym (ap (λ l. rules ++ l) (ap (λ l. rules_from place l left) rest_is ∙ passed_by place pattern (drop (place + 1) patterns) left there))
        ∙ before

  pub ends : length patterns ≤ place → rules ≡ whole
  ends past = sym (ap (λ l. rules ++ rules_from place l left) (drop_all place patterns past) ∙ append-nil rules) ∙ before
