-- A list that is changed item by item.
use Rattle.std.proofs.Common.{◌≡◌, ◌∙◌, ◌<◌, ◌≤◌, ◌+◌, ℕ, zero, suc, Bool, true, false, List, [], ◌∷◌, ◌++◌, map, take, drop, sym, ap, refl, get_or, length, set, arith, add-one}
use Rattle.std.specs.Prelude.{if◌then◌else◌, count_by}
use Rattle.std.proofs.lemmas.List.{take_all}
use Rattle.std.proofs.Math.ListN.{drop_of_length-le}
use Rattle.std.proofs.lemmas.List.Sums.{count_by_more_yes, count_by_more_no, sum_by-take-le}

-- the first items changed, the others unchanged
abbrev pub changed_first : {A : Type 0} → (A → A) → ℕ → List A → List A
changed_first g k xs = map g (take k xs) ++ drop k xs

at_next : {A : Type 0} (g : A → A) (xs : List A) (k : ℕ) (d : A) → k < length xs → get_or (changed_first g k xs) k d ≡ get_or xs k d
at_next g [] k d below = absurd (omega arith)
at_next g (x ∷ xs) zero d below = refl
at_next g (x ∷ xs) (suc k) d below = at_next g xs k d (omega arith)

set_next : {A : Type 0} (g : A → A) (xs : List A) (k : ℕ) (y : A) (d : A) → k < length xs → y ≡ g (get_or xs k d) → set (changed_first g k xs) k y ≡ changed_first g (suc k) xs
set_next g [] k y d below is = absurd (omega arith)
set_next g (x ∷ xs) zero y d below is = ap (λ z. z ∷ xs) is
set_next g (x ∷ xs) (suc k) y d below is = ap (λ zs. g x ∷ zs) (set_next g xs k y d (omega arith) is)

-- an item is read unchanged
pub read_next : {A : Type 0} (g : A → A) (xs now : List A) (k : ℕ) (x d : A) → k < length xs → now ≡ changed_first g k xs → x ≡ get_or now k d → x ≡ get_or xs k d
read_next g xs now k x d below is read = read ∙ (ap (λ zs. get_or zs k d) is ∙ at_next g xs k d below)

-- one more item is changed
pub changed_next : {A : Type 0} (g : A → A) (xs now : List A) (k : ℕ) (y d : A) → k < length xs → now ≡ changed_first g k xs → y ≡ g (get_or now k d) → set now k y ≡ changed_first g (k + 1) xs
changed_next g xs now k y d below is made =
    ap (λ zs. set zs k y) is
    ∙ (set_next g xs k y d below (made ∙ ap (λ zs. g (get_or zs k d)) is ∙ ap g (at_next g xs k d below)) ∙ ap (λ n. changed_first g n xs) (sym (add-one k)))

-- nothing is after the end of a list
pub append_nil : {A : Type 0} (xs : List A) → xs ++ [] ≡ xs
append_nil [] = refl
append_nil (x ∷ xs) = ap (λ zs. x ∷ zs) (append_nil xs)

-- every item is changed
pub changed_all : {A : Type 0} (g : A → A) (xs now : List A) (k : ℕ) → length xs ≤ k → now ≡ changed_first g k xs → now ≡ map g xs
changed_all g xs now k past is = is ∙ (ap (λ zs. map g zs ++ drop k xs) (take_all k xs past) ∙ (ap (λ zs. map g xs ++ zs) (drop_of_length-le xs past) ∙ append_nil (map g xs)))

-- a count over the first items
pub count_next : {A : Type 0} (p : A → Bool) (xs : List A) (k : ℕ) (d : A) (b : Bool) → k < length xs → p (get_or xs k d) ≡ b → count_by p (take (k + 1) xs) ≡ count_by p (take k xs) + (if b then 1 else 0)
count_next p xs k d true below is = count_by_more_yes p xs k d below is
count_next p xs k d false below is = let e = count_by_more_no p xs k d below is in omega arith

-- the first items count no more than all
pub count_some : {A : Type 0} (p : A → Bool) (xs : List A) (k : ℕ) → count_by p (take k xs) ≤ count_by p xs
count_some p xs k = sum_by-take-le (λ x. if p x then 1 else 0) xs k
