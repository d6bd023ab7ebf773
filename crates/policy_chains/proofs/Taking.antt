-- No place occurs twice in an order, so the function that was made for it is still there when its turn comes.
use Rattle.std.proofs.Common.{◌≡◌, ◌≢◌, ℕ, suc, zero, ◌+◌, ◌<◌, ◌≤◌, List, [], ◌∷◌, ◌++◌, length, map, take, drop, refl, ap, sym, ◌∙◌, arith, inl, inr}
use Rattle.std.specs.Prelude.{◌==◌, ◌⊎◌, if◌then◌else◌, Option, Some, None, slice_get, slice_set, slice_index_or, IsPermutation}
use Rattle.std.specs.List.{sum_by, range_with_len}
use Rattle.std.specs.Option.{option_map, option_map_or}
use Rattle.std.proofs.lemmas.List.{append-nil, drop_all, length-set, take_all, take_more}
use Rattle.std.proofs.lemmas.Option.{slice_get-get_or, slice_get-map}
use Rattle.std.proofs.lemmas.List.Sums.{sum_by-cons, sum_by_more_le}
use Rattle.std.proofs.lemmas.List.Sorted.{sum_by-IsPermutation}
use Rattle.std.proofs.lemmas.Bool.Decides.{nat_tests}
use Rattle.policy_text.specs.declared.policy.FunctionDecl.{FunctionDecl}
use Rattle.net_functions.specs.Builds.{function_of}
use Rattle.net_functions.specs.declared.making.Made.{Made}
use Rattle.policy_judge.specs.Making.{place_of}
use Rattle.policy_chains.specs.Cutting.{GoesOn, cut_with, with_declared, with_made}
use Rattle.policy_chains.specs.Taking.{without, without_all}
use Rattle.policy_chains.specs.declared.cutting.Cutting.{Cutting}

-- 1 if the two places are equal
abbrev one_at : ℕ → ℕ → ℕ
one_at p q = if q == p then 1 else 0

-- how often a place is among others
abbrev times : ℕ → List ℕ → ℕ
times p places = sum_by (one_at p) places

same_or_other : (p q : ℕ) → ((q ≡ p) × (one_at p q ≡ 1)) ⊎ ((q ≢ p) × (one_at p q ≡ 0))
same_or_other p q = grind (arith, nat_tests)

one_here : (p : ℕ) → one_at p p ≡ 1
one_here p = elim (same_or_other p p) [ inl s ↦ s.1 | inr o ↦ absurd (o.0 refl) ]

none_before : (p a n : ℕ) → p < a → times p (range_with_len a n) ≡ 0
none_before p a zero before = refl
none_before p a (suc n) before =
    let rest = none_before p (a + 1) n (omega arith) in
    omega (arith, sum_by-cons (one_at p) a (range_with_len (a + 1) n), same_or_other p a, rest)

once_at_most : (p a n : ℕ) → times p (range_with_len a n) ≤ 1
once_at_most p a zero = omega arith
once_at_most p a (suc n) =
    elim (same_or_other p a) [
      | inl s ↦ omega (arith, sum_by-cons (one_at p) a (range_with_len (a + 1) n), s.1, none_before p (a + 1) n (omega (arith, s.0)))
      | inr o ↦ omega (arith, sum_by-cons (one_at p) a (range_with_len (a + 1) n), o.1, once_at_most p (a + 1) n)
    ]

-- another place is unchanged
slice_get-set_other : {A : Type 0} (xs : List A) (q p : ℕ) (x : A) → q ≢ p → slice_get (slice_set xs q x) p ≡ slice_get xs p
slice_get-set_other [] q p x other = refl
slice_get-set_other (y ∷ xs) zero zero x other = absurd (other refl)
slice_get-set_other (y ∷ xs) zero (suc p) x other = refl
slice_get-set_other (y ∷ xs) (suc q) zero x other = refl
slice_get-set_other (y ∷ xs) (suc q) (suc p) x other = slice_get-set_other xs q p x (λ e. other (ap suc e))

untouched : (places : List ℕ) (made : List (Option Made)) (p : ℕ) → times p places ≡ 0 → slice_get (without_all made places) p ≡ slice_get made p
untouched [] made p none = refl
untouched (q ∷ places) made p none =
    elim (same_or_other p q) [
      | inl s ↦ absurd (omega (arith, sum_by-cons (one_at p) q places, s.1, none))
      | inr o ↦ untouched places (without made q) p (omega (arith, sum_by-cons (one_at p) q places, none)) ∙ slice_get-set_other made q p None o.0
    ]

-- taking keeps the number of places
pub as_many_left : (made : List (Option Made)) (places : List ℕ) → length (without_all made places) ≡ length made
as_many_left made [] = refl
as_many_left made (place ∷ places) = as_many_left (without made place) places ∙ length-set made place None

pub still_there : (n : ℕ) (places : List ℕ) (i d : ℕ) (made left : List (Option Made)) → IsPermutation (range_with_len 0 n) places → i < length places → left ≡ without_all made (take i places) →
    slice_get left (slice_index_or places i d) ≡ slice_get made (slice_index_or places i d)
still_there n places i d made left once inside is =
    let p : ℕ = slice_index_or places i d in
    let before : times p (take i places) ≡ 0 = omega (arith, one_here p, sum_by_more_le (one_at p) places i d inside, sum_by-IsPermutation (one_at p) (range_with_len 0 n) places once, once_at_most p 0 n) in
    ap (λ l. slice_get l p) is ∙ untouched (take i places) made p before

all_more : (made : List (Option Made)) (places : List ℕ) (place : ℕ) → without_all made (places ++ place ∷ []) ≡ without (without_all made places) place
all_more made [] place = refl
all_more made (q ∷ places) place = all_more (without made q) places place

-- what is left if one more is taken out of a slice, and the slice is given back
pub taken_back : (n : ℕ) (made new all : List (Option Made)) (places : List ℕ) (index d : ℕ) → length made ≡ n → new ≡ without made (slice_index_or places index d) → made ≡ without_all all (take index places) → index < length places →
    take n (new ++ drop (length new) made) ≡ without_all all (take (index + 1) places)
taken_back n made new all places index d many new_is left inside =
    let place : ℕ = slice_index_or places index d in
    let as_many : length new ≡ length made = ap length new_is ∙ length-set made place None in
    ap (λ l. take n (new ++ l)) (drop_all (length new) made (omega (arith, as_many)))
    ∙ ap (take n) (append-nil new)
    ∙ take_all n new (omega (arith, as_many, many))
    ∙ new_is
    ∙ ap (λ l. without l place) left
    ∙ sym (all_more all (take index places) place)
    ∙ ap (without_all all) (sym (take_more places index d inside))

-- the place of a function that is declared holds one
pub is_there : (declared : List FunctionDecl) (made : List (Option Made)) (place : ℕ) (d : Option Made) →
    slice_get made place ≡ slice_get (map place_of declared) place → place < length made → place < length declared → slice_index_or made place d ≡ None → ⊥
is_there declared made place d same inside declared_there none = go (slice_get declared place) refl
  where
    go : (o : Option FunctionDecl) → slice_get declared place ≡ o → ⊥
    go None is = absurd (cc (same, none, slice_get-get_or made place d inside, slice_get-map place_of declared place, ap (option_map place_of) is))
    go (Some decl) is = absurd (cc (same, none, slice_get-get_or made place d inside, slice_get-map place_of declared place, ap (option_map place_of) is))

-- the function that is taken from a place is the one that is declared there
pub goes_on_so : (declared : List FunctionDecl) (made : List (Option Made)) (place : ℕ) (d : Option Made) (e : FunctionDecl) (name : List ℕ) (function : Made) (old new : Cutting) →
    slice_get made place ≡ slice_get (map place_of declared) place → place < length made → place < length declared → slice_index_or made place d ≡ Some function → name ≡ (slice_index_or declared place e).name →
    GoesOn old new (with_made name function) → GoesOn old new (with_declared declared place)
goes_on_so declared made place d e name function old new same inside declared_there taken named goes = go (slice_get declared place) refl
  where
    go : (o : Option FunctionDecl) → slice_get declared place ≡ o → GoesOn old new (with_declared declared place)
    go None is = absurd (cc (is, slice_get-get_or declared place e declared_there))
    go (Some decl) is =
        let function_is : function ≡ function_of decl = cc (same, taken, slice_get-get_or made place d inside, slice_get-map place_of declared place, ap (option_map place_of) is) in
        let name_is : name ≡ decl.name = cc (named, is, slice_get-get_or declared place e declared_there) in
        record {
          joined = λ later.
              goes.joined later
              ∙ ap (λ n. cut_with old (with_made n function later)) name_is
              ∙ ap (λ f. cut_with old (with_made decl.name f later)) function_is
              ∙ sym (ap (λ o. cut_with old (option_map_or (λ x. with_made x.name (function_of x) later) o later)) is);
        }
