-- Where a pattern is in a payload.
use Rattle.std.proofs.Common.{◌≡◌, ◌+◌, ◌∙◌, ℕ, List, [], ◌∷◌, ◌++◌, length, take, drop, refl, sym, ap, ap₂, subst, true, false, true≢false, inl, inr, ⊎_elim, arith, length-append, length-take-le, take-append-drop, take_at, drop_at}
use Rattle.std.specs.Prelude.{Option, Some, None, is_some}
use Rattle.std.proofs.lemmas.Bool.{cases_lt, and_from, and_parts, or_cases, or_left, or_right, eq-eqb, eqb-true, false_from_ne_true}
use Rattle.memchr.specs.Find.{OccursAt, NoneBefore, Nowhere, FindsNeedle}
use Rattle.memchr.proofs.lemmas.MatchLemmas.{OccursAt-split, OccursAt-from_part}
use Rattle.patterns.specs.Occurrences.{begins, occurs}
use Rattle.patterns.specs.Laws.{StandsIn, StandsFirst}

-- a payload that begins with a pattern has something after it
pub begins_whole : (pattern behind : List ℕ) → begins pattern (pattern ++ behind) ≡ true
begins_whole [] behind = refl
begins_whole (c ∷ pattern) behind = and_from _ (begins pattern (pattern ++ behind)) (eq-eqb c c refl) (begins_whole pattern behind)

pub begins_parts : (pattern payload : List ℕ) → begins pattern payload ≡ true → payload ≡ pattern ++ drop (length pattern) payload
begins_parts [] payload h = refl
begins_parts (c ∷ pattern) [] h = absurd (true≢false (sym h))
begins_parts (c ∷ pattern) (b ∷ payload) h =
    let parts = and_parts _ (begins pattern payload) h in
    ap₂ (λ x l. x ∷ l) (eqb-true b c parts.0) (begins_parts pattern payload parts.1)

occurs_front : (pattern payload : List ℕ) → begins pattern payload ≡ true → occurs pattern payload ≡ true
occurs_front pattern [] h = h
occurs_front pattern (b ∷ payload) h = or_left (begins pattern (b ∷ payload)) (occurs pattern payload) h

-- what is at some place occurs
pub occurs_within : (pattern before behind : List ℕ) → occurs pattern (before ++ (pattern ++ behind)) ≡ true
occurs_within pattern [] behind = occurs_front pattern (pattern ++ behind) (begins_whole pattern behind)
occurs_within pattern (b ∷ before) behind = or_right (begins pattern (b ∷ (before ++ (pattern ++ behind)))) (occurs pattern (before ++ (pattern ++ behind))) (occurs_within pattern before behind)

-- what occurs is at some place
pub stands : (pattern payload : List ℕ) → occurs pattern payload ≡ true → StandsIn pattern payload
stands pattern [] h = record { before = []; behind = drop (length pattern) []; whole = begins_parts pattern [] h }
stands pattern (b ∷ payload) h = elim (or_cases (begins pattern (b ∷ payload)) (occurs pattern payload) h) [
  | inl here ↦ record { before = []; behind = drop (length pattern) (b ∷ payload); whole = begins_parts pattern (b ∷ payload) here }
  | inr later ↦ let rest = stands pattern payload later in record { before = b ∷ rest.before; behind = rest.behind; whole = ap (λ l. b ∷ l) rest.whole }
]

-- a search may find a place at which a pattern is
pub standing_at : (pattern before behind payload : List ℕ) → payload ≡ before ++ (pattern ++ behind) → OccursAt payload pattern (length before)
standing_at pattern before behind payload whole =
    let long = length-append before (pattern ++ behind) in
    let longer = length-append pattern behind in
    let all : length payload ≡ length (before ++ (pattern ++ behind)) = ap length whole in
    OccursAt-from_part payload pattern (length before) (omega arith)
    (ap (λ l. take (length pattern) (drop (length before) l)) whole ∙ ap (take (length pattern)) (drop_at before (pattern ++ behind) (length before) refl) ∙ take_at pattern behind (length pattern) refl)

-- the payload around a place at which a search found the pattern
pub found_whole : (pattern payload : List ℕ) (k : ℕ) → OccursAt payload pattern k → payload ≡ take k payload ++ (pattern ++ drop (k + length pattern) payload)
found_whole pattern payload k at = sym (take-append-drop k payload) ∙ ap (λ l. take k payload ++ l) (OccursAt-split payload pattern k at)

pub found_first : (pattern payload : List ℕ) (k : ℕ) → NoneBefore (OccursAt payload pattern) 0 (length payload + 1) k → OccursAt payload pattern k →
    StandsFirst pattern (take k payload) (drop (k + length pattern) payload)
found_first pattern payload k first at = record {
  leftmost = λ left right same.
      let fits = at.fits in
      let long : length (take k payload) ≡ k = length-take-le k payload (omega arith) in
      let there : OccursAt payload pattern (length left) = standing_at pattern left right payload (found_whole pattern payload k at ∙ same) in
      ⊎_elim (λ below. absurd (first.before (length left) (omega arith) below there)) (λ above. omega arith) (cases_lt (length left) k);
}

-- if no search finds the pattern, it does not occur
pub occurs_nowhere : (pattern payload : List ℕ) → Nowhere (OccursAt payload pattern) 0 (length payload + 1) → occurs pattern payload ≡ false
occurs_nowhere pattern payload none = false_from_ne_true (occurs pattern payload) (λ h.
    let there = stands pattern payload h in
    let at = standing_at pattern there.before there.behind payload there.whole in
    let fits = at.fits in
    none (length there.before) (omega arith) (omega arith) at)

-- a search says whether the pattern occurs
pub search_tells : (pattern payload : List ℕ) (r : Option ℕ) → FindsNeedle payload pattern 0 r → is_some r ≡ occurs pattern payload
search_tells pattern payload None none = sym (occurs_nowhere pattern payload none)
search_tells pattern payload (Some k) found = sym (subst (λ l. occurs pattern l ≡ true) (sym (found_whole pattern payload k found.1)) (occurs_within pattern (take k payload) (drop (k + length pattern) payload)))
