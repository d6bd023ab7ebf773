-- What a payload becomes, in other words than the function, and what is no longer in it.
use Rattle.std.proofs.Common.{◌≡◌, ◌≢◌, ◌<◌, ◌≤◌, ◌-◌, ◌∙◌, ℕ, zero, suc, List, [], ◌∷◌, ◌++◌, length, drop, replicate, refl, sym, ap, subst, Bool, true, false, true≢false, All, ⊎_elim, arith, zero-le, suc-le-suc, length-append}
use Rattle.std.specs.Prelude.{if◌then◌else◌}
use mathlib.Core.List.{tail-eq_of_cons-eq}
use Rattle.std.proofs.lemmas.Bool.{cond_both, or_from, or_cases, and_from, and_parts, eqb-true, ne_eqb, and_left, false_from_ne_true, both_ways}
use Rattle.std.proofs.lemmas.List.Elements.{All-head, All-tail}
use Rattle.patterns.specs.Occurrences.{begins, occurs}
use Rattle.patterns.specs.Overwriting.{cross, overwritten_from, overwritten}
use Rattle.patterns.specs.Laws.{StandsFirst, Becomes, stays, taken}
use Rattle.patterns.proofs.Standing.{begins_whole, begins_parts}
use Rattle.patterns.proofs.Overwriting.{nothing_taken, first_taken}

-- a first occurrence
record HasFirst (pattern payload : List ℕ) : Type 0 where
  before : List ℕ
  behind : List ℕ
  whole : payload ≡ before ++ (pattern ++ behind)
  first : StandsFirst pattern before behind

-- one more byte in front, if the pattern doesn't begin there
one_more : (pattern before behind : List ℕ) (b : ℕ) → begins pattern (b ∷ (before ++ (pattern ++ behind))) ≡ false → StandsFirst pattern before behind → StandsFirst pattern (b ∷ before) behind
one_more pattern before behind b not_here first = record { leftmost = λ left right same. at_least left right same }
  where
    at_least : (left right : List ℕ) → b ∷ (before ++ (pattern ++ behind)) ≡ left ++ (pattern ++ right) → suc (length before) ≤ length left
    at_least [] right same = absurd (both_ways (begins pattern (b ∷ (before ++ (pattern ++ behind)))) not_here (subst (λ l. begins pattern l ≡ true) (sym same) (begins_whole pattern right)))
    at_least (c ∷ left) right same = suc-le-suc (first.leftmost left right (tail-eq_of_cons-eq same))

has_first : (pattern payload : List ℕ) → 0 < length pattern → occurs pattern payload ≡ true → HasFirst pattern payload
has_first [] [] some h = absurd (omega arith)
has_first (c ∷ pattern) [] some h = absurd (true≢false (sym h))
has_first pattern (b ∷ payload) some h = by (begins pattern (b ∷ payload)) refl (λ later. has_first pattern payload some later)
  where
    by : (here : Bool) → begins pattern (b ∷ payload) ≡ here → (occurs pattern payload ≡ true → HasFirst pattern payload) → HasFirst pattern (b ∷ payload)
    by true is further = record {
      before = [];
      behind = drop (length pattern) (b ∷ payload);
      whole = begins_parts pattern (b ∷ payload) is;
      first = record { leftmost = λ left right same. zero-le };
    }
    by false is further =
        let later : occurs pattern payload ≡ true = ⊎_elim (λ here. absurd (both_ways (begins pattern (b ∷ payload)) is here)) (λ there. there) (or_cases (begins pattern (b ∷ payload)) (occurs pattern payload) h) in
        let rest = further later in
        record {
          before = b ∷ rest.before;
          behind = rest.behind;
          whole = ap (λ l. b ∷ l) rest.whole;
          first = one_more pattern rest.before rest.behind b (subst (λ l. begins pattern (b ∷ l) ≡ false) rest.whole is) rest.first;
        }

-- by the length of the rest
becomes_within : (n : ℕ) (pattern payload : List ℕ) (is : Bool) → occurs pattern payload ≡ is → 0 < length pattern → length payload ≤ n → Becomes pattern payload (overwritten pattern payload)
becomes_within n pattern payload false none some fits = subst (λ l. Becomes pattern payload l) (sym (nothing_taken pattern payload none)) (stays payload none)
becomes_within zero pattern payload true found some fits =
    let f = has_first pattern payload some found in
    let long = ap length f.whole ∙ length-append f.before (pattern ++ f.behind) in
    let longer = length-append pattern f.behind in
    absurd (omega arith)
becomes_within (suc n) pattern payload true found some fits =
    let f = has_first pattern payload some found in
    let long = ap length f.whole ∙ length-append f.before (pattern ++ f.behind) in
    let longer = length-append pattern f.behind in
    let rest = becomes_within n pattern f.behind (occurs pattern f.behind) refl some (omega arith) in
    subst (λ l. Becomes pattern l (overwritten pattern l)) (sym f.whole)
    (subst (λ l. Becomes pattern (f.before ++ (pattern ++ f.behind)) l) (sym (first_taken pattern f.before f.behind some f.first)) (taken f.before f.behind (overwritten pattern f.behind) f.first rest))

pub becomes : (pattern payload : List ℕ) → 0 < length pattern → Becomes pattern payload (overwritten pattern payload)
becomes pattern payload some = becomes_within (length payload) pattern payload (occurs pattern payload) refl some (omega arith)

-- nothing else fits
pub alone : (pattern payload after : List ℕ) → 0 < length pattern → Becomes pattern payload after → after ≡ overwritten pattern payload
alone pattern payload after some (stays same none) = sym (nothing_taken pattern payload none)
alone pattern payload after some (taken before behind rest first later) =
    ap (λ l. before ++ (replicate (length pattern) cross ++ l)) (alone pattern behind rest some later) ∙ sym (first_taken pattern before behind some first)

-- bytes without a cross that are in the result were there before
stood_before : (pattern bytes payload : List ℕ) → All (λ b. b ≢ cross) bytes → begins bytes (overwritten_from 0 pattern payload) ≡ true → begins bytes payload ≡ true
stood_before pattern [] payload clean h = refl
stood_before pattern (c ∷ bytes) [] clean h = h
stood_before pattern (c ∷ bytes) (b ∷ payload) clean h =
    by (begins pattern (b ∷ payload)) refl (λ rest. stood_before pattern bytes payload (All-tail (λ b. b ≢ cross) c bytes clean) rest)
  where
    never : (rest : List ℕ) → begins (c ∷ bytes) (cross ∷ rest) ≡ true → ⊥
    never rest h = All-head (λ b. b ≢ cross) c bytes clean (sym (eqb-true cross c ((and_parts _ (begins bytes rest) h).0)))

    by : (here : Bool) → begins pattern (b ∷ payload) ≡ here → (begins bytes (overwritten_from 0 pattern payload) ≡ true → begins bytes payload ≡ true) → begins (c ∷ bytes) (b ∷ payload) ≡ true
    by true is before = absurd (never _ (subst (λ (t : Bool). begins (c ∷ bytes) (if t then cross ∷ overwritten_from (length pattern - 1) pattern payload else b ∷ overwritten_from 0 pattern payload) ≡ true) is h))
    by false is before =
        let kept = subst (λ (t : Bool). begins (c ∷ bytes) (if t then cross ∷ overwritten_from (length pattern - 1) pattern payload else b ∷ overwritten_from 0 pattern payload) ≡ true) is h in
        let parts = and_parts _ (begins bytes (overwritten_from 0 pattern payload)) kept in
        and_from _ (begins bytes payload) parts.0 (before parts.1)

-- a pattern without a cross doesn't begin with one
not_at_cross : (pattern rest : List ℕ) → 0 < length pattern → All (λ b. b ≢ cross) pattern → begins pattern (cross ∷ rest) ≡ false
not_at_cross [] rest some clean = absurd (omega arith)
not_at_cross (c ∷ pattern) rest some clean = and_left _ (begins pattern rest) (ne_eqb cross c (λ same. All-head (λ b. b ≢ cross) c pattern clean (sym same)))

-- the same if the byte in front stays
stood_here : (pattern : List ℕ) (b : ℕ) (payload : List ℕ) → All (λ b. b ≢ cross) pattern → begins pattern (b ∷ overwritten_from 0 pattern payload) ≡ true → begins pattern (b ∷ payload) ≡ true
stood_here [] b payload clean there = refl
stood_here (c ∷ bytes) b payload clean there =
    let parts = and_parts _ (begins bytes (overwritten_from 0 (c ∷ bytes) payload)) there in
    and_from _ (begins bytes payload) parts.0 (stood_before (c ∷ bytes) bytes payload (All-tail (λ b. b ≢ cross) c bytes clean) parts.1)

gone_from : (left : ℕ) (pattern payload : List ℕ) → 0 < length pattern → All (λ b. b ≢ cross) pattern → occurs pattern (overwritten_from left pattern payload) ≡ false
gone_from left [] [] some clean = absurd (omega arith)
gone_from left (c ∷ pattern) [] some clean = refl
gone_from (suc left) pattern (b ∷ payload) some clean = or_from (begins pattern (cross ∷ overwritten_from left pattern payload)) _ (not_at_cross pattern _ some clean) (gone_from left pattern payload some clean)
gone_from zero pattern (b ∷ payload) some clean = cond_both (begins pattern (b ∷ payload)) _ _ (λ l. occurs pattern l ≡ false)
    (λ here. or_from (begins pattern (cross ∷ overwritten_from (length pattern - 1) pattern payload)) _ (not_at_cross pattern _ some clean) (gone_from (length pattern - 1) pattern payload some clean))
    (λ other. or_from (begins pattern (b ∷ overwritten_from 0 pattern payload)) _
    (false_from_ne_true _ (λ there. both_ways (begins pattern (b ∷ payload)) other (stood_here pattern b payload clean there)))
    (gone_from 0 pattern payload some clean))

pub gone : (pattern payload : List ℕ) → 0 < length pattern → All (λ b. b ≢ cross) pattern → occurs pattern (overwritten pattern payload) ≡ false
gone pattern payload some clean = gone_from 0 pattern payload some clean
