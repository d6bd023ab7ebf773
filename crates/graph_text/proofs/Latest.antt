-- The latest of a list, changed in place.
use Rattle.std.proofs.Common.{◌≡◌, ◌∙◌, ◌-◌, suc, List, [], ◌∷◌, ◌++◌, length, Some, sym, ap, refl, arith}
use Rattle.std.specs.Prelude.{slice_get}
use Rattle.std.specs.List.{AllByRecursion}
use Rattle.policy_text.specs.Grammar.{latest, change_latest}

latest_cons : {A : Type 0} (x y : A) (ys : List A) → latest (x ∷ y ∷ ys) ≡ latest (y ∷ ys)
latest_cons x y ys =
    let e : length (x ∷ y ∷ ys) - 1 ≡ suc (length (y ∷ ys) - 1) = omega arith in
    ap (slice_get (x ∷ y ∷ ys)) e

-- what holds for each holds after the latest is changed
pub all_latest : {A : Type 0} (P : A → Type 0) (f : A → A) (xs : List A) → AllByRecursion P xs → ((x : A) → latest xs ≡ Some x → P x → P (f x)) → AllByRecursion P (change_latest f xs)
all_latest P f [] all h = tt
all_latest P f (x ∷ []) all h = (h x refl all.0, tt)
all_latest P f (x ∷ y ∷ ys) all h = (all.0, all_latest P f (y ∷ ys) all.1 (λ z is. h z (latest_cons x y ys ∙ is)))

change_last : {A : Type 0} (f : A → A) (xs : List A) (x : A) → change_latest f (xs ++ x ∷ []) ≡ xs ++ f x ∷ []
change_last f [] x = refl
change_last f (y ∷ []) x = refl
change_last f (y ∷ z ∷ zs) x = ap (λ ws. y ∷ ws) (change_last f (z ∷ zs) x)

-- the latest taken away, changed, and put back
pub changed : {A : Type 0} (f : A → A) (xs rest : List A) (x y : A) → xs ≡ rest ++ x ∷ [] → y ≡ f x → rest ++ y ∷ [] ≡ change_latest f xs
changed f xs rest x y e is = ap (λ z. rest ++ z ∷ []) is ∙ sym (ap (change_latest f) e ∙ change_last f rest x)
