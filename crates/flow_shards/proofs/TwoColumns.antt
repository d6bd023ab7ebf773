-- Keys in one list and their values in another are entries in the order of first sight.
use Rattle.std.proofs.Common.{◌≡◌, ◌<◌, ◌∙◌, ℕ, suc, ◌+◌, List, [], ◌∷◌, ◌++◌, map, length, get_or, set, position, Bool, true, false, cond, not, ◌||◌, Some, None, refl, sym, ap, subst, arith, true≢false}
use Rattle.std.specs.Prelude.{if◌then◌else◌}
use Rattle.std.specs.Cmp.{IsEquivalence}
use Rattle.std.specs.List.{zip, AllByRecursion, IsDistinct}
use Rattle.std.specs.Map.{keys_of, values_of}
use Rattle.std.proofs.lemmas.Map.Made.{keys_of-zip}
use Rattle.std.proofs.lemmas.Slice.Zip.{seconds-zip}
use Rattle.first_sight.specs.FirstSight.{place_of, is_seen, belonging, with_value, noted}
use Rattle.first_sight.proofs.Places.{place_found}

one_more : (n : ℕ) → 1 + n ≡ suc n
one_more n = omega arith

pub keys_are : {K V : Type 0} (keys : List K) (values : List V) (seen : List (K × V)) → length values ≡ length keys → zip keys values ≡ seen → keys_of seen ≡ keys
keys_are keys values seen same is = ap keys_of (sym is) ∙ keys_of-zip keys values same

pub values_are : {K V : Type 0} (keys : List K) (values : List V) (seen : List (K × V)) → length values ≡ length keys → zip keys values ≡ seen → values_of seen ≡ values
values_are keys values seen same is = ap values_of (sym is) ∙ seconds-zip keys values same

module _ {K : Type 0} (eq : K → K → Bool) where
  -- a key at a place was seen
  seen_at_place : (keys : List K) (key : K) → place_of eq keys key < length keys → is_seen eq keys key ≡ true
  seen_at_place [] key inside = absurd (omega (arith, inside))
  seen_at_place (k ∷ keys) key inside = by (eq key k) inside (seen_at_place keys key)
    where
      by : (b : Bool) → cond (not b) (1 + place_of eq keys key) 0 < length (k ∷ keys) → (place_of eq keys key < length keys → is_seen eq keys key ≡ true) → (b || is_seen eq keys key) ≡ true
      by true inside rest = refl
      by false inside rest = rest (omega (arith, inside))

  module _ (laws : IsEquivalence eq) where
    unlike_last : (key last : K) (keys : List K) → eq key last ≡ false → AllByRecursion (λ k. eq key k ≡ false) keys → AllByRecursion (λ k. eq key k ≡ false) (keys ++ last ∷ [])
    unlike_last key last [] other none = (other, tt)
    unlike_last key last (k ∷ keys) other none = (none.0, unlike_last key last keys other none.1)

    -- a key that wasn't there is distinct from the others
    pub distinct_last : (last : K) (keys : List K) → is_seen eq keys last ≡ false → IsDistinct eq keys → IsDistinct eq (keys ++ last ∷ [])
    unfolding IsDistinct
    distinct_last last [] new distinct = (tt, tt)
    distinct_last last (key ∷ keys) new distinct = by (eq last key) refl new (distinct_last last keys)
      where
        by : (b : Bool) → eq last key ≡ b → (b || is_seen eq keys last) ≡ false → (is_seen eq keys last ≡ false → IsDistinct eq keys → IsDistinct eq (keys ++ last ∷ [])) →
            AllByRecursion (λ k. eq key k ≡ false) (keys ++ last ∷ []) × IsDistinct eq (keys ++ last ∷ [])
        by true same new rest = absurd (true≢false new)
        by false other new rest = (unlike_last key last keys (laws.symm key last ∙ other) distinct.0, rest new distinct.1)

    -- keys that aren't the first of two equal ones aren't the other
    others : (key first : K) (keys : List K) → eq key first ≡ true → AllByRecursion (λ k. eq first k ≡ false) keys → AllByRecursion (λ k. eq key k ≡ false) keys
    others key first [] same none = tt
    others key first (k ∷ keys) same none = (laws.congr key first k same ∙ none.0, others key first keys same none.1)

module _ {K V : Type 0} (eq : K → K → Bool) where
  -- the value of a key is at the key's place
  at_place : (keys : List K) (values : List V) (key : K) (d : V) → length values ≡ length keys → place_of eq keys key < length keys →
      belonging eq (zip keys values) key ≡ Some (get_or values (place_of eq keys key) d)
  at_place [] values key d same inside = absurd (omega (arith, inside))
  at_place (k ∷ keys) [] key d same inside = absurd (omega (arith, same))
  at_place (k ∷ keys) (v ∷ values) key d same inside = by (eq key k) inside (at_place keys values key d (omega (arith, same)))
    where
      by : (b : Bool) → cond (not b) (1 + place_of eq keys key) 0 < length (k ∷ keys) →
          (place_of eq keys key < length keys → belonging eq (zip keys values) key ≡ Some (get_or values (place_of eq keys key) d)) →
          (if b then Some v else belonging eq (zip keys values) key) ≡ Some (get_or (v ∷ values) (cond (not b) (1 + place_of eq keys key) 0) d)
      by true inside rest = refl
      by false inside rest = rest (omega (arith, inside)) ∙ sym (ap (λ p. Some (get_or (v ∷ values) p d)) (one_more (place_of eq keys key)))

  pub value_found : (keys : List K) (values : List V) (key : K) (place : ℕ) (d : V) → length values ≡ length keys → position (eq key) keys ≡ Some place →
      belonging eq (zip keys values) key ≡ Some (get_or values place d)
  value_found keys values key place d same found =
      let at = place_found (eq key) keys place found in
      at_place keys values key d same (subst (λ p. p < length keys) (sym at.0) at.1) ∙ ap (λ p. Some (get_or values p d)) at.0

  -- a key that isn't found has no value
  pub none_found : {X : Type 0} (entries : List (K × X)) (values : List V) (key : K) → belonging eq entries key ≡ None → belonging eq (zip (keys_of entries) values) key ≡ None
  none_found [] values key none = refl
  none_found (e ∷ entries) [] key none = refl
  none_found (e ∷ entries) (v ∷ values) key none = by (eq key e.0) none (none_found entries values key)
    where
      by : (b : Bool) → (if b then Some e.1 else belonging eq entries key) ≡ None → (belonging eq entries key ≡ None → belonging eq (zip (keys_of entries) values) key ≡ None) →
          (if b then Some v else belonging eq (zip (keys_of entries) values) key) ≡ None
      by true none rest = absurd cc
      by false none rest = rest none

  -- a key without a value isn't there
  pub not_seen : (keys : List K) (values : List V) (key : K) → length values ≡ length keys → belonging eq (zip keys values) key ≡ None → is_seen eq keys key ≡ false
  not_seen [] values key same none = refl
  not_seen (k ∷ keys) [] key same none = absurd (omega (arith, same))
  not_seen (k ∷ keys) (v ∷ values) key same none = by (eq key k) none (not_seen keys values key (omega (arith, same)))
    where
      by : (b : Bool) → (if b then Some v else belonging eq (zip keys values) key) ≡ None → (belonging eq (zip keys values) key ≡ None → is_seen eq keys key ≡ false) →
          (b || is_seen eq keys key) ≡ false
      by true none rest = absurd cc
      by false none rest = rest none

  -- one more of each
  pub zip_more : (keys : List K) (values : List V) (key : K) (value : V) → length values ≡ length keys → zip (keys ++ key ∷ []) (values ++ value ∷ []) ≡ zip keys values ++ (key, value) ∷ []
  zip_more [] [] key value same = refl
  zip_more [] (v ∷ values) key value same = absurd (omega (arith, same))
  zip_more (k ∷ keys) [] key value same = absurd (omega (arith, same))
  zip_more (k ∷ keys) (v ∷ values) key value same = ap (λ l. (k, v) ∷ l) (zip_more keys values key value (omega (arith, same)))

  pub pushed : (keys : List K) (values : List V) (key : K) (value : V) → length values ≡ length keys → is_seen eq keys key ≡ false →
      zip (keys ++ key ∷ []) (values ++ value ∷ []) ≡ noted eq (zip keys values) key value
  pushed keys values key value same new =
      zip_more keys values key value same
      ∙ sym (ap (λ b. if b then map (with_value eq key value) (zip keys values) else zip keys values ++ (key, value) ∷ []) (ap (λ l. is_seen eq l key) (keys_of-zip keys values same) ∙ new))

  module _ (laws : IsEquivalence eq) where
    -- if no key is this one, nothing changes
    untouched : (keys : List K) (values : List V) (key : K) (value : V) → AllByRecursion (λ k. eq key k ≡ false) keys → map (with_value eq key value) (zip keys values) ≡ zip keys values
    untouched [] values key value none = refl
    untouched (k ∷ keys) [] key value none = refl
    untouched (k ∷ keys) (v ∷ values) key value none = λ i. (if none.0 i then (k, value) else (k, v)) ∷ untouched keys values key value none.1 i

    -- another value at the place of a key that was seen
    set_at_place : (keys : List K) (values : List V) (key : K) (value : V) → length values ≡ length keys → place_of eq keys key < length keys → IsDistinct eq keys →
        zip keys (set values (place_of eq keys key) value) ≡ map (with_value eq key value) (zip keys values)
    unfolding IsDistinct
    set_at_place [] values key value same inside distinct = absurd (omega (arith, inside))
    set_at_place (k ∷ keys) [] key value same inside distinct = absurd (omega (arith, same))
    set_at_place (k ∷ keys) (v ∷ values) key value same inside distinct = by (eq key k) refl inside (set_at_place keys values key value (omega (arith, same)))
      where
        by : (b : Bool) → eq key k ≡ b → cond (not b) (1 + place_of eq keys key) 0 < length (k ∷ keys) →
            (place_of eq keys key < length keys → IsDistinct eq keys → zip keys (set values (place_of eq keys key) value) ≡ map (with_value eq key value) (zip keys values)) →
            zip (k ∷ keys) (set (v ∷ values) (cond (not b) (1 + place_of eq keys key) 0) value) ≡ (if b then (k, value) else (k, v)) ∷ map (with_value eq key value) (zip keys values)
        by true here inside rest = ap (λ l. (k, value) ∷ l) (sym (untouched keys values key value (others eq laws key k keys here distinct.0)))
        by false other inside rest =
            ap (λ p. zip (k ∷ keys) (set (v ∷ values) p value)) (one_more (place_of eq keys key)) ∙ ap (λ l. (k, v) ∷ l) (rest (omega (arith, inside)) distinct.1)

    pub renewed : (keys : List K) (values : List V) (key : K) (place : ℕ) (value : V) → length values ≡ length keys → position (eq key) keys ≡ Some place → IsDistinct eq keys →
        zip keys (set values place value) ≡ noted eq (zip keys values) key value
    renewed keys values key place value same found distinct =
        let at = place_found (eq key) keys place found in
        let inside : place_of eq keys key < length keys = subst (λ p. p < length keys) (sym at.0) at.1 in
        ap (λ p. zip keys (set values p value)) (sym at.0)
        ∙ set_at_place keys values key value same inside distinct
        ∙ sym (ap (λ b. if b then map (with_value eq key value) (zip keys values) else zip keys values ++ (key, value) ∷ []) (ap (λ l. is_seen eq l key) (keys_of-zip keys values same) ∙ seen_at_place eq keys key inside))
