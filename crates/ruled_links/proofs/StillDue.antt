-- What is still due after the messages that went over a link.
use Rattle.std.proofs.Common.{◌≡◌, ℕ, zero, suc, List, [], ◌∷◌, ◌++◌, length, drop, sym, ap, ◌∙◌, arith, length-append}
use mathlib.Core.Option.{some, some-ne-none, some-injective}
use lib.ListN.{get_elem?}
use Rattle.ruled_links.specs.Fitting.{FitsAt, still_due}

module _ {T : Type 0} where
  head_at : (due left : List T) (k : ℕ) (d : T) → drop k due ≡ d ∷ left → get_elem? due k ≡ some d
  head_at [] left zero d e = ap (λ l. get_elem? l 0) e
  head_at [] left (suc k) d e = ap (λ l. get_elem? l 0) e
  head_at (x ∷ xs) left zero d e = ap (λ l. get_elem? l 0) e
  head_at (x ∷ xs) left (suc k) d e = head_at xs left k d e

  left_at : (due : List T) (k : ℕ) (d : T) → get_elem? due k ≡ some d → (left : List T) × (drop k due ≡ d ∷ left)
  left_at [] k d e = absurd (some-ne-none d (sym e))
  left_at (x ∷ xs) zero d e = (xs, ap (λ y. y ∷ xs) (some-injective x d e))
  left_at (x ∷ xs) (suc k) d e = left_at xs k d e

  one_less : (due left : List T) (k : ℕ) (d : T) → drop k due ≡ d ∷ left → drop (suc k) due ≡ left
  one_less [] left zero d e = ap (drop 1) e
  one_less [] left (suc k) d e = ap (drop 1) e
  one_less (x ∷ xs) left zero d e = ap (drop 1) e
  one_less (x ∷ xs) left (suc k) d e = one_less xs left k d e

  pub others_left : (due before left : List T) (d message : T) → still_due due before ≡ d ∷ left → still_due due (before ++ message ∷ []) ≡ left
  others_left due before left d message e =
      let n : length (before ++ message ∷ []) ≡ suc (length before) = omega (arith, length-append before (message ∷ [])) in
      ap (λ k. drop k due) n ∙ one_less due left (length before) d e

  module _ (fits : T → T → Type 0) where
    pub first_fits : (due before left : List T) (d message : T) → still_due due before ≡ d ∷ left → fits d message → FitsAt fits due (length before) message
    first_fits due before left d message e fit = (d, head_at due left (length before) d e, fit)

    pub first_left : (due before : List T) (message : T) → FitsAt fits due (length before) message → (d : T) × (left : List T) × (still_due due before ≡ d ∷ left) × fits d message
    first_left due before message f =
        let l = left_at due (length before) f.0 f.1 in
        (f.0, l.0, l.1, f.2)
