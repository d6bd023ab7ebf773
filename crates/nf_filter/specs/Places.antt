-- For proofs: the first item of a list that passes a test, and its place.
use Rattle.std.specs.Prelude.{◌≡◌, ◌⊎◌, ◌+◌, List, [], ◌∷◌, ◌++◌, length, Bool, true, false, not, cond, ◌||◌, Some, None, position, nat_lt, refl}
use Rattle.std.specs.List.{list_any, position_or_len}
use Rattle.std.proofs.Common.{inl, inr, ap, ◌∙◌, length-append, arith}
use Rattle.std.proofs.lemmas.Bool.{cond-true, cond-false, lt-ltb, le-ltb}

-- An item passes, and none before it does.
pub record IsFirstPassing {X : Type 0} (p : X → Bool) (items : List X) : Type 0 where
  pub before : List X
  pub item : X
  pub behind : List X
  pub stands : items ≡ before ++ item ∷ behind
  pub unmet : list_any p before ≡ false
  pub met : p item ≡ true

pub neither : (a b : Bool) → (a || b) ≡ false → (a ≡ false) × (b ≡ false)
neither true b h = absurd cc
neither false b h = (refl, h)

module _ {X : Type 0} (p : X → Bool) where
  pub none_or_first : (items : List X) → (list_any p items ≡ false) ⊎ IsFirstPassing p items
  none_or_first [] = inl refl
  none_or_first (x ∷ items) = by (p x) refl (none_or_first items)
    where
      by : (b : Bool) → p x ≡ b → (list_any p items ≡ false) ⊎ IsFirstPassing p items → (list_any p (x ∷ items) ≡ false) ⊎ IsFirstPassing p (x ∷ items)
      by true is later = inr (record { before = []; item = x; behind = items; stands = refl; unmet = refl; met = is })
      by false is (inl none) = inl (ap (λ b. b || list_any p items) is ∙ none)
      by false is (inr first) = inr (record {
        before = x ∷ first.before;
        item = first.item;
        behind = first.behind;
        stands = ap (λ rest. x ∷ rest) first.stands;
        unmet = ap (λ b. b || list_any p first.before) is ∙ first.unmet;
        met = first.met;
      })

  passed_over : (before behind : List X) (x : X) → list_any p before ≡ false → p x ≡ true → position_or_len p (before ++ x ∷ behind) ≡ length before
  passed_over [] behind x none met = ap (λ b. cond (not b) (1 + position_or_len p behind) 0) met
  passed_over (y ∷ before) behind x none met =
      let parts = neither (p y) (list_any p before) none in
      let rest = passed_over before behind x parts.1 met in
      ap (λ b. cond (not b) (1 + position_or_len p (before ++ x ∷ behind)) 0) parts.0 ∙ omega (arith, rest)

  -- the place is the number of items before
  pub place_behind : (before behind : List X) (x : X) → list_any p before ≡ false → p x ≡ true → position p (before ++ x ∷ behind) ≡ Some (length before)
  place_behind before behind x none met =
      let items = before ++ x ∷ behind in
      let at = passed_over before behind x none met in
      let many = length-append before (x ∷ behind) in
      cond-true (nat_lt (position_or_len p items) (length items)) (Some (position_or_len p items)) None (lt-ltb (position_or_len p items) (length items) (omega (arith, at, many))) ∙ ap Some at

  pub first_place : (items : List X) (first : IsFirstPassing p items) → position p items ≡ Some (length first.before)
  first_place items first = ap (position p) first.stands ∙ place_behind first.before first.behind first.item first.unmet first.met

  all_passed_over : (items : List X) → list_any p items ≡ false → position_or_len p items ≡ length items
  all_passed_over [] none = refl
  all_passed_over (x ∷ items) none =
      let parts = neither (p x) (list_any p items) none in
      let rest = all_passed_over items parts.1 in
      ap (λ b. cond (not b) (1 + position_or_len p items) 0) parts.0 ∙ omega (arith, rest)

  -- and there is no place if none passes
  pub none_place : (items : List X) → list_any p items ≡ false → position p items ≡ None
  none_place items none =
      let at = all_passed_over items none in
      cond-false (nat_lt (position_or_len p items) (length items)) (Some (position_or_len p items)) None (le-ltb (position_or_len p items) (length items) (omega (arith, at)))
