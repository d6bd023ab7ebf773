-- Several patterns, one after another.
use Rattle.std.proofs.Common.{◌≡◌, ◌<◌, ◌≤◌, ◌+◌, ◌∙◌, ℕ, zero, suc, List, [], ◌∷◌, length, drop, get_or, refl, sym, ap, subst, Bool, true, false, not, ⊎_elim, arith}
use Rattle.std.specs.Prelude.{Option, Some, None, nat_lt}
use Rattle.std.specs.List.{list_any, position, position_or_len}
use Rattle.std.proofs.lemmas.Bool.{cases_Bool, cases_lt, both_ways, or_from, cond-true, cond-false, ltb-true, ltb-false, lt-ltb, not-true, not-false, not_from_true, not_from_false, false_from_ne_true}
use Rattle.std.proofs.lemmas.List.Quantifiers.{position-Some}
use Rattle.std.proofs.lemmas.List.Folds.{list_any_at}
use Rattle.std.proofs.lemmas.List.Sums.{prefix_len_passes, prefix_len_stops}
use Rattle.patterns.specs.Occurrences.{occurs}
use Rattle.patterns.specs.Overwriting.{redacted}
use Rattle.patterns.specs.Steps.{BeginsAt}
use Rattle.patterns.proofs.Overwriting.{nothing_taken}

module _ {X : Type 0} (test : X → Bool) where
  none_passes : (xs : List X) → length xs ≤ position_or_len test xs → list_any test xs ≡ false
  none_passes [] h = refl
  none_passes (x ∷ xs) h = ⊎_elim
      (λ yes_is. absurd (none_first (subst (λ n. suc (length xs) ≤ n) (cond-false (not (test x)) _ 0 (not_from_true (test x) yes_is)) h)))
      (λ no_is. or_from (test x) (list_any test xs) no_is (none_passes xs (later (subst (λ n. suc (length xs) ≤ n) (cond-true (not (test x)) _ 0 (not_from_false (test x) no_is)) h))))
      (cases_Bool (test x))
    where
      none_first : suc (length xs) ≤ 0 → ⊥
      none_first h = omega arith

      later : suc (length xs) ≤ 1 + position_or_len test xs → length xs ≤ position_or_len test xs
      later h = omega arith

  no_place : (xs : List X) → position test xs ≡ None → list_any test xs ≡ false
  no_place xs h = ⊎_elim
      (λ below. absurd (some_none (sym (cond-true _ (Some (position_or_len test xs)) None below) ∙ h)))
      (λ past. none_passes xs (ltb-false (position_or_len test xs) (length xs) past))
      (cases_Bool (nat_lt (position_or_len test xs) (length xs)))
    where
      some_none : Some (position_or_len test xs) ≡ None → ⊥
      some_none e = cc

  -- the place of the first that passes, and none if none does
  pub first_passes : (xs : List X) (i : ℕ) (d : X) → i < length xs → test (get_or xs i d) ≡ true → ((k : ℕ) → k < i → test (get_or xs k d) ≡ false) → position test xs ≡ Some i
  first_passes xs i d within here before =
      let n = position_or_len test xs in
      let not_before : i ≤ n = ⊎_elim
      (λ below. absurd (both_ways (test (get_or xs n d)) (before n below) (not-false (test (get_or xs n d)) (prefix_len_stops (λ x. not (test x)) xs d (below_len n below)))))
      (λ above. above) (cases_lt n i) in
      let not_behind : n ≤ i = ⊎_elim
      (λ above. absurd (both_ways (test (get_or xs i d)) (not-true (test (get_or xs i d)) (prefix_len_passes (λ x. not (test x)) xs i d above)) here))
      (λ below. below) (cases_lt i n) in
      let same : n ≡ i = omega arith in
      cond-true (nat_lt n (length xs)) (Some n) None (lt-ltb n (length xs) (omega arith)) ∙ ap Some same
    where
      below_len : (n : ℕ) → n < i → n < length xs
      below_len n below = omega arith

  pub none_passes_at : (xs : List X) (d : X) → ((k : ℕ) → k < length xs → test (get_or xs k d) ≡ false) → position test xs ≡ None
  none_passes_at xs d none =
      let n = position_or_len test xs in
      cond-false (nat_lt n (length xs)) (Some n) None (false_from_ne_true (nat_lt n (length xs)) (λ h.
      let below = ltb-true n (length xs) h in
      both_ways (test (get_or xs n d)) (none n below) (not-false (test (get_or xs n d)) (prefix_len_stops (λ x. not (test x)) xs d below))))

-- patterns that don't occur change nothing
skipped : (patterns : List (List ℕ)) (payload : List ℕ) (place : ℕ) → ((k : ℕ) → k < place → occurs (get_or patterns k []) payload ≡ false) →
    redacted (drop place patterns) payload ≡ redacted patterns payload
skipped patterns payload zero none = refl
skipped [] payload (suc place) none = refl
skipped (pattern ∷ patterns) payload (suc place) none =
    skipped patterns payload place (λ k below. none (suc k) (omega arith))
    ∙ ap (redacted patterns) (sym (nothing_taken pattern payload (none 0 (omega arith))))

-- the first pattern that occurs
pub first_place : (patterns : List (List ℕ)) (payload : List ℕ) (r : Option ℕ) → r ≡ position (λ pattern. occurs pattern payload) patterns → BeginsAt patterns payload r
first_place patterns payload None is = no_place (λ pattern. occurs pattern payload) patterns (sym is)
first_place patterns payload (Some place) is =
    let found = position-Some (λ pattern. occurs pattern payload) patterns place [] (sym is) in
    record {
      within = found.0;
      some = list_any_at (λ pattern. occurs pattern payload) patterns place [] found.0 found.1;
      same = skipped patterns payload place found.2;
    }
