-- The patterns that decide, and they alone, make of a payload what all patterns make of it.
use Rattle.std.proofs.Common.{◌≡◌, ◌+◌, ◌∙◌, ℕ, List, [], ◌∷◌, ◌++◌, length, refl, sym, ap, append_assoc, false, ⊎_elim}
use Rattle.std.specs.Prelude.{Option, Some, None, ◌||◌, if◌then◌else◌, slice_get}
use Rattle.std.specs.List.{cons_option}
use Rattle.std.specs.Option.{option_map_or}
use Rattle.std.proofs.lemmas.Bool.{cases_Bool, cond-true, cond-false, or_from, or_left}
use Rattle.std.proofs.lemmas.List.{length_push}
use Rattle.packet_function.specs.declared.deciding.DecidingLine.{DecidingLine}
use Rattle.packet_function.specs.declared.deciding.DecidingLine.TheVariants.{Rule}
use Rattle.patterns.specs.Occurrences.{occurs, some_occurs}
use Rattle.patterns.specs.Overwriting.{overwritten, redacted}
use Rattle.nf_mark.specs.Redactors.{rules_from, redacted_payload}
use Rattle.nf_mark.specs.UsedRules.{used_rules}
use Rattle.nf_mark.proofs.UsedPatterns.{none_used, used_here, passed_by}

-- the patterns that occur, each in what those before it left
used : List (List ℕ) → List ℕ → List (List ℕ)
used [] payload = []
used (pattern ∷ later) payload = if occurs pattern payload then pattern ∷ used later (overwritten pattern payload) else used later payload

at_length : (before : List (List ℕ)) (pattern : List ℕ) (later : List (List ℕ)) → slice_get (before ++ pattern ∷ later) (length before) ≡ Some pattern
at_length [] pattern later = refl
at_length (other ∷ before) pattern later = at_length before pattern later

-- the line of a rule stands for the pattern at its place
taken : (before : List (List ℕ)) (pattern : List ℕ) (later : List (List ℕ)) (lines : List DecidingLine) →
    used_rules (before ++ pattern ∷ later) (Rule (length before) ∷ lines) ≡ pattern ∷ used_rules (before ++ pattern ∷ later) lines
taken before pattern later lines = ap (λ found. cons_option found (used_rules (before ++ pattern ∷ later) lines)) (at_length before pattern later)

-- the same list with its first pattern among those before
shifted : (before : List (List ℕ)) (pattern : List ℕ) (later : List (List ℕ)) (payload : List ℕ) →
    used_rules ((before ++ pattern ∷ []) ++ later) (rules_from (length (before ++ pattern ∷ [])) later payload) ≡ used_rules (before ++ pattern ∷ later) (rules_from (length before + 1) later payload)
shifted before pattern later payload =
    ap (λ l. used_rules l (rules_from (length (before ++ pattern ∷ [])) later payload)) (append_assoc before (pattern ∷ []) later)
    ∙ ap (λ n. used_rules (before ++ pattern ∷ later) (rules_from n later payload)) (length_push before pattern)

-- the rules that decide have these patterns
are_used : (before patterns : List (List ℕ)) (payload : List ℕ) → used_rules (before ++ patterns) (rules_from (length before) patterns payload) ≡ used patterns payload
unfolding used
are_used before [] payload = refl
are_used before (pattern ∷ later) payload = ⊎_elim
    (λ there.
    ap (used_rules (before ++ pattern ∷ later)) (used_here (length before) pattern later payload there)
    ∙ taken before pattern later (rules_from (length before + 1) later (overwritten pattern payload))
    ∙ ap (λ l. pattern ∷ l) (sym (shifted before pattern later (overwritten pattern payload)) ∙ are_used (before ++ pattern ∷ []) later (overwritten pattern payload))
    ∙ sym (cond-true (occurs pattern payload) _ _ there))
    (λ absent.
    ap (used_rules (before ++ pattern ∷ later)) (passed_by (length before) pattern later payload absent)
    ∙ sym (shifted before pattern later payload)
    ∙ are_used (before ++ pattern ∷ []) later payload
    ∙ sym (cond-false (occurs pattern payload) _ _ absent))
    (cases_Bool (occurs pattern payload))

module _ (stays : (pattern payload : List ℕ) → occurs pattern payload ≡ false → overwritten pattern payload ≡ payload) where
  same_redacted : (patterns : List (List ℕ)) (payload : List ℕ) → redacted (used patterns payload) payload ≡ redacted patterns payload
  unfolding used
  same_redacted [] payload = refl
  same_redacted (pattern ∷ later) payload = ⊎_elim
      (λ there. ap (λ l. redacted l payload) (cond-true (occurs pattern payload) _ _ there) ∙ same_redacted later (overwritten pattern payload))
      (λ absent.
      ap (λ l. redacted l payload) (cond-false (occurs pattern payload) _ _ absent)
      ∙ same_redacted later payload ∙ ap (redacted later) (sym (stays pattern payload absent)))
      (cases_Bool (occurs pattern payload))

  same_occurs : (patterns : List (List ℕ)) (payload : List ℕ) → some_occurs (used patterns payload) payload ≡ some_occurs patterns payload
  unfolding used
  same_occurs [] payload = refl
  same_occurs (pattern ∷ later) payload = ⊎_elim
      (λ there.
      ap (λ l. some_occurs l payload) (cond-true (occurs pattern payload) _ _ there)
      ∙ or_left (occurs pattern payload) _ there ∙ sym (or_left (occurs pattern payload) _ there))
      (λ absent.
      ap (λ l. some_occurs l payload) (cond-false (occurs pattern payload) _ _ absent)
      ∙ same_occurs later payload ∙ sym (ap (λ b. b || some_occurs later payload) absent))
      (cases_Bool (occurs pattern payload))

  pub same_written : (patterns : List (List ℕ)) (payload : Option (List ℕ)) →
      redacted_payload patterns payload ≡ redacted_payload (used_rules patterns (option_map_or (rules_from 0 patterns) payload [])) payload
  same_written patterns None = refl
  same_written patterns (Some payload) =
      sym (
      ap (λ l. redacted_payload l (Some payload)) (are_used [] patterns payload)
      ∙ ap (λ b. if b then Some (redacted (used patterns payload) payload) else None) (same_occurs patterns payload)
      ∙ ap (λ l. if some_occurs patterns payload then Some l else None) (same_redacted patterns payload)
      )

-- no rule decides exactly where no pattern occurs
none_occurs : (place : ℕ) (patterns : List (List ℕ)) (payload : List ℕ) → rules_from place patterns payload ≡ [] → some_occurs patterns payload ≡ false
none_occurs place [] payload none = refl
none_occurs place (pattern ∷ later) payload none = ⊎_elim
    (λ there. absurd (no_rule (sym (used_here place pattern later payload there) ∙ none)))
    (λ absent. or_from (occurs pattern payload) (some_occurs later payload) absent (none_occurs (place + 1) later payload (sym (passed_by place pattern later payload absent) ∙ none)))
    (cases_Bool (occurs pattern payload))
  where
    no_rule : Rule place ∷ rules_from (place + 1) later (overwritten pattern payload) ≡ [] → ⊥
    no_rule is = cc

pub unwritten : (patterns : List (List ℕ)) (payload : Option (List ℕ)) → option_map_or (rules_from 0 patterns) payload [] ≡ [] → redacted_payload patterns payload ≡ None
unwritten patterns None none = refl
unwritten patterns (Some payload) none = cond-false (some_occurs patterns payload) (Some (redacted patterns payload)) None (none_occurs 0 patterns payload none)

pub undecided : (patterns : List (List ℕ)) (payload : Option (List ℕ)) → redacted_payload patterns payload ≡ None → option_map_or (rules_from 0 patterns) payload [] ≡ []
undecided patterns None none = refl
undecided patterns (Some payload) none = ⊎_elim
    (λ some. absurd (written (sym (cond-true (some_occurs patterns payload) (Some (redacted patterns payload)) None some) ∙ none)))
    (λ absent. none_used 0 patterns payload absent)
    (cases_Bool (some_occurs patterns payload))
  where
    written : Some (redacted patterns payload) ≡ None → ⊥
    written is = cc
