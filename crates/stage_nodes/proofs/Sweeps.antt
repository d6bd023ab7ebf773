-- Lists of lists, of which this number at the front gave their first element.
use Rattle.std.proofs.Common.{◌≡◌, ◌<◌, ◌≤◌, ◌+◌, ◌∙◌, ℕ, zero, suc, List, [], ◌∷◌, ◌++◌, length, map, refl, arith, ap, sym, subst, slice_index_or, slice_set, All}
use Rattle.std.proofs.lemmas.List.Elements.{All-get_or}
use Rattle.packet_messages.specs.Messages.{rest, front}

unfoldable pub swept : {A : Type 0} → ℕ → List (List A) → List (List A)
swept zero ls = ls
swept (suc n) [] = []
swept (suc n) (l ∷ ls) = rest l ∷ swept n ls

pub swept_none : {A : Type 0} (ls : List (List A)) → swept 0 ls ≡ ls
unfolding swept
swept_none ls = refl

pub swept_all : {A : Type 0} (n : ℕ) (ls : List (List A)) → length ls ≤ n → swept n ls ≡ map rest ls
unfolding swept
swept_all zero [] le = refl
swept_all zero (l ∷ ls) le = absurd (omega arith)
swept_all (suc n) [] le = refl
swept_all (suc n) (l ∷ ls) le = ap (λ x. rest l ∷ x) (swept_all n ls (omega arith))

pub swept_length : {A : Type 0} (n : ℕ) (ls : List (List A)) → length (swept n ls) ≡ length ls
unfolding swept
swept_length zero ls = refl
swept_length (suc n) [] = refl
swept_length (suc n) (l ∷ ls) = ap suc (swept_length n ls)

pub swept_at : {A : Type 0} (n : ℕ) (ls : List (List A)) (d : List A) → slice_index_or (swept n ls) n d ≡ slice_index_or ls n d
unfolding swept
swept_at zero ls d = refl
swept_at (suc n) [] d = refl
swept_at (suc n) (l ∷ ls) d = swept_at n ls d

swept_suc : {A : Type 0} (n : ℕ) (ls : List (List A)) → n < length ls → slice_set (swept n ls) n (rest (slice_index_or ls n [])) ≡ swept (suc n) ls
unfolding swept
swept_suc zero [] lt = absurd (omega arith)
swept_suc zero (l ∷ ls) lt = refl
swept_suc (suc n) [] lt = absurd (omega arith)
swept_suc (suc n) (l ∷ ls) lt = ap (λ x. rest l ∷ x) (swept_suc n ls (omega arith))

-- one more list gave its first element
pub swept_more : {A : Type 0} (n : ℕ) (ls now new : List (List A)) → now ≡ swept n ls → new ≡ slice_set now n (rest (slice_index_or now n [])) → n < length now → new ≡ swept (n + 1) ls
swept_more n ls now new is set lt =
    set ∙ ap (λ y. slice_set y n (rest (slice_index_or y n []))) is
    ∙ ap (λ y. slice_set (swept n ls) n (rest y)) (swept_at n ls [])
    ∙ swept_suc n ls (omega (arith, lt, ap length is, swept_length n ls))
    ∙ ap (λ k. swept k ls) (omega arith)

-- a fact about each list holds for the next one
pub next_holds : {A : Type 0} (R : List A → Type 0) (n : ℕ) (ls now : List (List A)) → All R ls → now ≡ swept n ls → n < length now → R (slice_index_or now n [])
next_holds R n ls now all is lt =
    let here : R (slice_index_or ls n []) = All-get_or R ls n [] (omega (arith, lt, ap length is, swept_length n ls)) all in
    subst R (sym (ap (λ y. slice_index_or y n []) is ∙ swept_at n ls [])) here

-- the first lists of this number at the front
unfoldable pub fronts_to : {A : Type 0} → ℕ → List (List (List A)) → List (List A)
fronts_to zero ls = []
fronts_to (suc n) [] = []
fronts_to (suc n) (l ∷ ls) = front l ∷ fronts_to n ls

pub fronts_none : {A : Type 0} (ls : List (List (List A))) → fronts_to 0 ls ≡ []
unfolding fronts_to
fronts_none ls = refl

pub fronts_all : {A : Type 0} (n : ℕ) (ls : List (List (List A))) → length ls ≤ n → fronts_to n ls ≡ map front ls
unfolding fronts_to
fronts_all zero [] le = refl
fronts_all zero (l ∷ ls) le = absurd (omega arith)
fronts_all (suc n) [] le = refl
fronts_all (suc n) (l ∷ ls) le = ap (λ x. front l ∷ x) (fronts_all n ls (omega arith))

fronts_suc : {A : Type 0} (n : ℕ) (ls : List (List (List A))) → n < length ls → fronts_to n ls ++ front (slice_index_or ls n []) ∷ [] ≡ fronts_to (suc n) ls
unfolding fronts_to
fronts_suc zero [] lt = absurd (omega arith)
fronts_suc zero (l ∷ ls) lt = refl
fronts_suc (suc n) [] lt = absurd (omega arith)
fronts_suc (suc n) (l ∷ ls) lt = ap (λ x. front l ∷ x) (fronts_suc n ls (omega arith))

pub fronts_more : {A : Type 0} (n : ℕ) (ls now : List (List (List A))) (x : List A) (row more : List (List A)) → now ≡ swept n ls → n < length now
    → x ≡ front (slice_index_or now n []) → row ≡ fronts_to n ls → more ≡ row ++ x ∷ [] → more ≡ fronts_to (n + 1) ls
fronts_more n ls now x row more is lt e have add =
    let same : x ≡ front (slice_index_or ls n []) = e ∙ ap (λ y. front (slice_index_or y n [])) is ∙ ap front (swept_at n ls []) in
    add ∙ ap (λ y. y ++ x ∷ []) have ∙ ap (λ y. fronts_to n ls ++ y ∷ []) same ∙ fronts_suc n ls (omega (arith, lt, ap length is, swept_length n ls)) ∙ ap (λ k. fronts_to k ls) (omega arith)
