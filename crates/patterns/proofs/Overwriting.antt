-- What overwriting leaves, occurrence by occurrence.
use Rattle.std.proofs.Common.{◌≡◌, ◌<◌, ◌≤◌, ◌+◌, ◌-◌, ◌∙◌, ℕ, suc, List, [], ◌∷◌, ◌++◌, length, take, drop, replicate, refl, sym, ap, ap₂, subst, subst₂, take-append-drop, append_assoc, false, arith, length-append, length-drop, length-take-le, take-add, drop-drop, le_of_suc-le-suc}
use Rattle.std.proofs.lemmas.Bool.{or_parts, cond-true, cond-false, false_from_ne_true}
use Rattle.std.proofs.lemmas.List.{length-replicate}
use Rattle.std.proofs.lemmas.Slice.{take-put_mid, drop-put_mid}
use borrow.Rule.Slice.PartMut.{put_mid}
use Rattle.memchr.specs.Find.{OccursAt, NoneBefore, Nowhere}
use Rattle.patterns.specs.Occurrences.{begins, occurs}
use Rattle.patterns.specs.Overwriting.{cross, overwritten_from, overwritten}
use Rattle.patterns.specs.Laws.{StandsFirst}
use Rattle.patterns.specs.Steps.{TakesNext, TakesNone}
use Rattle.patterns.proofs.Standing.{begins_whole, begins_parts, occurs_nowhere, found_whole, found_first}

-- nothing to overwrite
pub nothing_taken : (pattern payload : List ℕ) → occurs pattern payload ≡ false → overwritten pattern payload ≡ payload
nothing_taken pattern [] none = refl
nothing_taken pattern (b ∷ payload) none =
    let parts = or_parts (begins pattern (b ∷ payload)) (occurs pattern payload) none in
    cond-false (begins pattern (b ∷ payload)) _ _ parts.0 ∙ ap (λ l. b ∷ l) (nothing_taken pattern payload parts.1)

-- the bytes that are left of an occurrence
rest_taken : (pattern rest behind : List ℕ) → overwritten_from (length rest) pattern (rest ++ behind) ≡ replicate (length rest) cross ++ overwritten pattern behind
rest_taken pattern [] behind = refl
rest_taken pattern (b ∷ rest) behind = ap (λ l. cross ∷ l) (rest_taken pattern rest behind)

here_taken : (pattern behind : List ℕ) → 0 < length pattern → overwritten pattern (pattern ++ behind) ≡ replicate (length pattern) cross ++ overwritten pattern behind
here_taken [] behind some = absurd (omega arith)
here_taken (c ∷ rest) behind some =
    let left : suc (length rest) - 1 ≡ length rest = omega arith in
    cond-true (begins (c ∷ rest) ((c ∷ rest) ++ behind)) _ _ (begins_whole (c ∷ rest) behind)
    ∙ ap (λ n. cross ∷ overwritten_from n (c ∷ rest) (rest ++ behind)) left
    ∙ ap (λ l. cross ∷ l) (rest_taken (c ∷ rest) rest behind)

-- what is before the first occurrence stays
pub first_taken : (pattern before behind : List ℕ) → 0 < length pattern → StandsFirst pattern before behind →
    overwritten pattern (before ++ (pattern ++ behind)) ≡ before ++ (replicate (length pattern) cross ++ overwritten pattern behind)
first_taken pattern [] behind some first = here_taken pattern behind some
first_taken pattern (b ∷ before) behind some first =
    let payload = b ∷ (before ++ (pattern ++ behind)) in
    let later : begins pattern payload ≡ false = false_from_ne_true (begins pattern payload) (λ h. absurd (not_left (first.leftmost [] (drop (length pattern) payload) (begins_parts pattern payload h)))) in
    cond-false (begins pattern payload) _ _ later
    ∙ ap (λ l. b ∷ l) (first_taken pattern before behind some (record { leftmost = λ left right same. le_of_suc-le-suc (first.leftmost (b ∷ left) right (ap (λ l. b ∷ l) same)) }))
  where
    not_left : suc (length before) ≤ 0 → ⊥
    not_left h = omega arith

-- after a search
pub found_taken : (pattern payload : List ℕ) (k : ℕ) → 0 < length pattern → NoneBefore (OccursAt payload pattern) 0 (length payload + 1) k → OccursAt payload pattern k →
    overwritten pattern payload ≡ take k payload ++ (replicate (length pattern) cross ++ overwritten pattern (drop (k + length pattern) payload))
found_taken pattern payload k some first at =
    ap (overwritten pattern) (found_whole pattern payload k at) ∙ first_taken pattern (take k payload) (drop (k + length pattern) payload) some (found_first pattern payload k first at)

-- an occurrence after a place is overwritten
module _ (pattern old : List ℕ) (from : ℕ) where
  pub none_taken : (payload : List ℕ) → payload ≡ drop from old → Nowhere (OccursAt payload pattern) 0 (length payload + 1) → TakesNone pattern from old old
  none_taken payload is none = record {
    stays = refl;
    none = ap (overwritten pattern) (sym is) ∙ nothing_taken pattern payload (occurs_nowhere pattern payload none) ∙ is;
  }

  next_of : (k end : ℕ) → from ≤ length old → 0 < length pattern → NoneBefore (OccursAt (drop from old) pattern) 0 (length (drop from old) + 1) k → OccursAt (drop from old) pattern k →
      end ≡ from + k + length pattern → TakesNext pattern from old (put_mid (from + k) (length pattern) old (replicate (length pattern) cross)) end
  next_of k end within some first at is_end =
      let at_k = from + k in
      let n = length pattern in
      let crosses = replicate n cross in
      let new = put_mid at_k n old crosses in
      let fits = at.fits in
      let left = length-drop from old in
      let as_many = length-replicate n cross in
      let front : take end new ≡ take at_k old ++ crosses = take-put_mid at_k n old crosses end (omega arith) (omega arith) in
      let back : drop end new ≡ drop end old = drop-put_mid at_k n old crosses end (omega arith) (omega arith) as_many in
      let same_end : from + (k + n) ≡ end = omega arith in
      let ends : drop (k + n) (drop from old) ≡ drop end old = drop-drop (k + n) from old ∙ ap (λ m. drop m old) same_end in
      let whole : length new ≡ length (take end new) + length (drop end new) = sym (ap length (take-append-drop end new)) ∙ length-append (take end new) (drop end new) in
      let front_long : length (take end new) ≡ at_k + n = ap length front ∙ length-append (take at_k old) crosses ∙ ap₂ (λ a b. a + b) (length-take-le at_k old (omega arith)) as_many in
      let back_long : length (drop end new) ≡ length old - end = ap length back ∙ length-drop end old in
      record {
        further = omega arith;
        fits = omega arith;
        same_length = omega arith;
        same =
            ap₂ (λ l r. l ++ overwritten pattern r) front back
            ∙ ap (λ l. (l ++ crosses) ++ overwritten pattern (drop end old)) (take-add from k old)
            ∙ append_assoc (take from old ++ take k (drop from old)) crosses (overwritten pattern (drop end old))
            ∙ append_assoc (take from old) (take k (drop from old)) (crosses ++ overwritten pattern (drop end old))
            ∙ ap (λ l. take from old ++ (take k (drop from old) ++ (crosses ++ overwritten pattern l))) (sym ends)
            ∙ ap (λ l. take from old ++ l) (sym (found_taken pattern (drop from old) k some first at));
      }

  pub next_taken : (payload written : List ℕ) (k len end : ℕ) → payload ≡ drop from old → NoneBefore (OccursAt payload pattern) 0 (length payload + 1) k × OccursAt payload pattern k →
      from ≤ length old → 0 < length pattern → len ≡ length pattern → written ≡ replicate len cross → end ≡ from + k + length pattern → TakesNext pattern from old (put_mid (from + k) len old written) end
  next_taken payload written k len end is found within some is_len is_written is_end =
      let here = subst (λ l. NoneBefore (OccursAt l pattern) 0 (length l + 1) k × OccursAt l pattern k) is found in
      let written_is : written ≡ replicate (length pattern) cross = is_written ∙ ap (λ n. replicate n cross) is_len in
      subst₂ (λ n l. TakesNext pattern from old (put_mid (from + k) n old l) end) (sym is_len) (sym written_is) (next_of k end within some here.0 here.1 is_end)
