-- A list of which the first items are done and the others are not.
use Rattle.std.proofs.Common.{◌≡◌, ◌<◌, ◌≤◌, ◌+◌, ◌∙◌, ℕ, zero, suc, List, [], ◌∷◌, ◌++◌, length, map, take, drop, set, get_or, refl, ap, sym, add-one, arith}
use Rattle.std.proofs.lemmas.List.{length-map}

-- the items, done up to this place
abbrev pub done_to : {A B : Type 0} → (A → B) → (A → B) → ℕ → List A → List B
done_to after before place xs = map after (take place xs) ++ map before (drop place xs)

module _ {A B : Type 0} (after before : A → B) where
  length_done : (xs : List A) (place : ℕ) → length (done_to after before place xs) ≡ length xs
  length_done xs zero = length-map xs before
  length_done [] (suc place) = refl
  length_done (x ∷ xs) (suc place) = ap suc (length_done xs place)

  set_done : (xs : List A) (place : ℕ) (item item' d : B) → place < length xs → item ≡ get_or (done_to after before place xs) place d
      → ((x : A) → item ≡ before x → item' ≡ after x) → set (done_to after before place xs) place item' ≡ done_to after before (suc place) xs
  set_done [] place item item' d inside is does = absurd (omega arith)
  set_done (x ∷ xs) zero item item' d inside is does = ap (λ n. n ∷ map before xs) (does x is)
  set_done (x ∷ xs) (suc place) item item' d inside is does = ap (λ l. after x ∷ l) (set_done xs place item item' d (omega arith) is does)

  -- one more item is done
  pub one_done : (xs : List A) (now : List B) (place : ℕ) (item item' : B) → place < length now → now ≡ done_to after before place xs → item ≡ get_or now place item
      → ((x : A) → item ≡ before x → item' ≡ after x) → set now place item' ≡ done_to after before (place + 1) xs
  one_done xs now place item item' inside are is does =
      let many : length now ≡ length xs = ap length are ∙ length_done xs place in
      ap (λ l. set l place item') are
      ∙ set_done xs place item item' item (omega (arith, many)) (is ∙ ap (λ l. get_or l place item) are) does
      ∙ ap (λ n. done_to after before n xs) (sym (add-one place))

  past_done : (xs : List A) (place : ℕ) → length xs ≤ place → done_to after before place xs ≡ map after xs
  past_done [] zero past = refl
  past_done [] (suc place) past = refl
  past_done (x ∷ xs) zero past = absurd (omega arith)
  past_done (x ∷ xs) (suc place) past = ap (λ l. after x ∷ l) (past_done xs place (omega arith))

  -- all are done
  pub all_done : (xs : List A) (now : List B) (place : ℕ) → length now ≤ place → now ≡ done_to after before place xs → now ≡ map after xs
  all_done xs now place past are =
      let many : length now ≡ length xs = ap length are ∙ length_done xs place in
      are ∙ past_done xs place (omega (arith, many))
