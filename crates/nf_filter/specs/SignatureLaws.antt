-- For proofs: a signature does what its profile says, and no more, and one line decides on each drop.
use Rattle.std.specs.Prelude.{◌≡◌, ◌⊎◌, ℕ, List, length, Bool, true, false, not, Option, Some, None, refl}
use Rattle.std.proofs.Common.{inl, inr, ap, sym, ◌∙◌, true≢false}
use Rattle.chain_walk.specs.Laws.{KeepsProfile}
use Rattle.chain_walk.specs.Step.{is_drop}
use Rattle.packet_function.specs.Deciding.{DecidesDrops, rule_at}
use Rattle.patterns.specs.Occurrences.{occurs, some_occurs}
use Rattle.nf_filter.specs.Places.{IsFirstPassing, none_or_first, first_place}
use Rattle.nf_filter.specs.Signatures.{is_found, place_found, signature_behaviour, signature_decides}
use Rattle.nf_filter.specs.Verdicts.{verdict_by}

pub signature_keeps : KeepsProfile signature_behaviour
signature_keeps = record {
  stays = λ fixed s v. refl;
  writes = λ fixed s v x h. refl;
  drops = λ fixed s v h. absurd cc;
  state = λ fixed s v h counted. refl;
  lengths = λ fixed s v x other old. tt;
  tags = λ fixed s v old. tt;
  adds = λ fixed f v h. absurd cc;
  removes = λ fixed f v h. absurd cc;
}

drops_if : (found : Bool) → is_drop (verdict_by (not found)) ≡ found
drops_if true = refl
drops_if false = refl

-- one line decides where a pattern is found
found_once : (patterns : List (List ℕ)) (payload : Option (List ℕ)) → is_found patterns payload ≡ true → length (rule_at (place_found patterns payload)) ≡ 1
found_once patterns None found = absurd (true≢false (sym found))
found_once patterns (Some payload) found = by (none_or_first (λ pattern. occurs pattern payload) patterns)
  where
    by : (some_occurs patterns payload ≡ false) ⊎ IsFirstPassing (λ pattern. occurs pattern payload) patterns → length (rule_at (place_found patterns (Some payload))) ≡ 1
    by (inl none) = absurd (true≢false (sym found ∙ none))
    by (inr first) = ap (λ place. length (rule_at place)) (first_place (λ pattern. occurs pattern payload) patterns first)

pub signature_decides_drops : DecidesDrops signature_behaviour signature_decides
signature_decides_drops = record { one = λ fixed s v drops. found_once s.patterns _ (sym (drops_if _) ∙ drops) }
