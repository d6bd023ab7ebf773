-- What is at a place of a list that was lengthened or changed at one place.
use Rattle.std.proofs.Common.{◌≡◌, ◌≢◌, ℕ, zero, suc, List, [], ◌∷◌, ◌++◌, ◌⊎◌, length, set, sym, refl, ap, ◌∙◌, inl, inr, ⊎_elim, arith}
use mathlib.Core.Option.{some, some-ne-none, some-injective}
use lib.ListN.{get_elem?}

module _ {A : Type 0} where
  pub at_set : (l : List A) (i j : ℕ) (a b : A) → get_elem? (set l i a) j ≡ some b → ((j ≡ i) × (a ≡ b)) ⊎ ((j ≢ i) × (get_elem? l j ≡ some b))
  at_set [] i j a b e = absurd (some-ne-none b (sym e))
  at_set (x ∷ xs) zero zero a b e = inl (refl, some-injective a b e)
  at_set (x ∷ xs) zero (suc j) a b e = inr ((λ h. omega arith), e)
  at_set (x ∷ xs) (suc i) zero a b e = inr ((λ h. omega arith), e)
  at_set (x ∷ xs) (suc i) (suc j) a b e = ⊎_elim (λ t. inl (ap suc t.0, t.1)) (λ t. let n = t.0 in inr ((λ h. n (omega arith)), t.1)) (at_set xs i j a b e)

  -- after the list, or in it
  pub at_end : (l : List A) (a b : A) (j : ℕ) → get_elem? (l ++ a ∷ []) j ≡ some b → (get_elem? l j ≡ some b) ⊎ ((j ≡ length l) × (a ≡ b))
  at_end [] a b zero e = inr (refl, some-injective a b e)
  at_end [] a b (suc j) e = absurd (some-ne-none b (sym e))
  at_end (x ∷ xs) a b zero e = inl e
  at_end (x ∷ xs) a b (suc j) e = ⊎_elim inl (λ r. inr (ap suc r.0, r.1)) (at_end xs a b j e)

  pub at_first : (l : List A) (x : A) (rest : List A) → get_elem? (l ++ x ∷ rest) (length l) ≡ some x
  at_first [] x rest = refl
  at_first (y ∷ ys) x rest = at_first ys x rest

  pub at_only : (views : List A) (a v : A) (j : ℕ) → views ≡ a ∷ [] → get_elem? views j ≡ some v → (j ≡ 0) × (a ≡ v)
  at_only views a v zero e at = (refl, some-injective a v (ap (λ l. get_elem? l 0) (sym e) ∙ at))
  at_only views a v (suc j) e at = absurd (some-ne-none v (sym (ap (λ l. get_elem? l (suc j)) (sym e) ∙ at)))
