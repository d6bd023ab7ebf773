-- What a redactor writes.
use Rattle.std.proofs.Common.{◌≡◌, ◌∙◌, ℕ, List, ◌++◌, length, take, drop, refl, sym, ap, append-nil, take_all, arith}
use Rattle.std.specs.Prelude.{Option, Some, None, option_map, IsSome}
use Rattle.std.proofs.lemmas.Bool.{cond-true, cond-false}
use Rattle.std.proofs.lemmas.List.{drop_all}
use Rattle.packet_fields.specs.declared.field.Field.TheVariants.{Payload}
use Rattle.chain_walk.specs.Step.{nothing}
use Rattle.packet_version.specs.Lending.{over}
use Rattle.packet_version.specs.Parts.{PlainPart}
use Rattle.packet_version.specs.Views.{PlainView, seen_parts, seen_values, wrote_all, alone}
use Rattle.packet_version.specs.ViewLending.{left}
use Rattle.patterns.specs.Occurrences.{some_occurs}
use Rattle.patterns.specs.Overwriting.{redacted}
use Rattle.patterns.specs.Lengths.{same_length}
use Rattle.patterns.specs.Steps.{BeginsAt}
use Rattle.nf_mark.specs.Redactors.{redacted_payload, to_payload}
use Rattle.nf_mark.specs.FoundPatterns.{Finds, IsFoundAt}

-- a search through a payload that is there
pub finds : (patterns : List (List ℕ)) (payload : List ℕ) (r : Option ℕ) → BeginsAt patterns payload r → Finds patterns (Some payload) r
finds patterns payload None none = cond-false (some_occurs patterns payload) (Some (redacted patterns payload)) None none
finds patterns payload (Some place) first = record {
  within = first.within;
  there = refl;
  same = cond-true (some_occurs patterns payload) (Some (redacted patterns payload)) None first.some ∙ ap Some (sym first.same);
}

-- a payload with bytes is present
some_part : (part : Option PlainPart) → IsSome (option_map (λ p. p.bytes) part) → IsSome part
some_part None h = h
some_part (Some part) h = h

pub is_there : (view : PlainView) → IsSome (seen_values view Payload) → IsSome (seen_parts view Payload)
is_there view h = some_part (seen_parts view Payload) h

-- as many new bytes as old ones
over_same : (new old : List ℕ) → length new ≡ length old → over new old ≡ new
over_same new old same =
    ap (λ l. take (length old) (new ++ l)) (drop_all (length new) old (omega arith)) ∙ ap (take (length old)) (append-nil new) ∙ take_all (length old) new (omega arith)

pub left_behind : (patterns : List (List ℕ)) (view : PlainView) (old new : List ℕ) → seen_values view Payload ≡ Some old → new ≡ redacted patterns old →
    left Payload new view ≡ wrote_all (alone Payload (option_map (over new) (seen_values view Payload))) view → left Payload new view ≡ wrote_all (to_payload (option_map (redacted patterns) (seen_values view Payload))) view
left_behind patterns view old new is_old is_new written =
    written
    ∙ ap (λ o. wrote_all (alone Payload (option_map (over new) o)) view) is_old
    ∙ ap (λ l. wrote_all (to_payload (Some l)) view) (over_same new old (ap length is_new ∙ same_length patterns old) ∙ is_new)
    ∙ ap (λ o. wrote_all (to_payload (option_map (redacted patterns) o)) view) (sym is_old)

-- nothing is found, and nothing written
pub nothing_found : (patterns : List (List ℕ)) (view : PlainView) → redacted_payload patterns (seen_values view Payload) ≡ None → wrote_all nothing view ≡ view →
    view ≡ wrote_all (to_payload (redacted_payload patterns (seen_values view Payload))) view
nothing_found patterns view none same = sym (ap (λ o. wrote_all (to_payload o) view) none ∙ same)

-- what is found is overwritten
pub found : (patterns rest : List (List ℕ)) (view after : PlainView) (place : ℕ) → IsFoundAt patterns (seen_values view Payload) place → rest ≡ drop place patterns →
    after ≡ wrote_all (to_payload (option_map (redacted rest) (seen_values view Payload))) view → after ≡ wrote_all (to_payload (redacted_payload patterns (seen_values view Payload))) view
found patterns rest view after place first is written =
    written ∙ ap (λ l. wrote_all (to_payload (option_map (redacted l) (seen_values view Payload))) view) is ∙ ap (λ o. wrote_all (to_payload o) view) (sym first.same)
