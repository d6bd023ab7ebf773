-- A key that was seen keeps its place and gets the value, and a new one goes last.
use Rattle.std.proofs.Common.{◌≡◌, ◌<◌, ◌∙◌, ℕ, suc, ◌+◌, List, [], ◌∷◌, ◌++◌, map, length, position, Bool, true, false, cond, not, ◌||◌, Option, Some, is_some, refl, sym, ap, subst, arith, true≢false, length-append}
use Rattle.std.specs.Prelude.{if◌then◌else◌, None, Result, IsOk}
use Rattle.std.specs.Cmp.{IsEquivalence}
use Rattle.std.specs.List.{IsDistinct, AllByRecursion}
use Rattle.std.specs.Map.{keys_of}
use Rattle.indexmap.specs.IndexMap.{insert_entry}
use Rattle.indexmap.specs.Layout.{set_value_at}
use Rattle.first_sight.specs.FirstSight.{place_of, is_seen, seen_with, belonging, with_value, noted}
use Rattle.first_sight.proofs.Places.{place_found}

behind : {A : Type 0} (b : Bool) (a : A) (xs ys : List A) → a ∷ (if b then xs else ys) ≡ (if b then a ∷ xs else a ∷ ys)
behind true a xs ys = refl
behind false a xs ys = refl

one_more : (n : ℕ) → 1 + n ≡ suc n
one_more n = omega arith

own_key : {K V : Type 0} (b : Bool) (e : K × V) (value : V) → (if b then (e.0, value) else e).0 ≡ e.0
own_key true e value = refl
own_key false e value = refl

module _ {V : Type 0} where
  -- the entry of the key itself
  own : (here asked : Bool) (new old : V) (first later : Option V) → asked ≡ here → (here ≡ false → first ≡ later) → (if here then Some new else first) ≡ (if asked then Some new else (if here then Some old else later))
  own true asked new old first later e rest = rw e refl
  own false asked new old first later e rest = rw e (rest refl)

  -- an entry before it
  before : (here asked : Bool) (new old : V) (later : Option V) → (asked ≡ true → here ≡ false) →
      (if here then Some old else (if asked then Some new else later)) ≡ (if asked then Some new else (if here then Some old else later))
  before true true new old later h = absurd (true≢false (h refl))
  before true false new old later h = refl
  before false true new old later h = refl
  before false false new old later h = refl

  -- an entry of another key
  aside : (own asked : Bool) (new old : V) (first later : Option V) → (own ≡ true → asked ≡ false) → first ≡ later → (if asked then Some (if own then new else old) else first) ≡ (if asked then Some old else later)
  aside true true new old first later h rest = absurd (true≢false (h refl))
  aside true false new old first later h rest = rest
  aside false true new old first later h rest = refl
  aside false false new old first later h rest = rest

-- keys that aren't the first of two equal ones aren't the other
others : {K : Type 0} (eq : K → K → Bool) → IsEquivalence eq → (key first : K) (keys : List K) → eq key first ≡ true → AllByRecursion (λ k. eq first k ≡ false) keys → AllByRecursion (λ k. eq key k ≡ false) keys
others eq laws key first [] same none = tt
others eq laws key first (k ∷ keys) same none = (laws.congr key first k same ∙ none.0, others eq laws key first keys same none.1)

module _ {K V : Type 0} (eq : K → K → Bool) where
  -- after an entry of the key itself, and after one of another key
  noted_own : (e : K × V) (seen : List (K × V)) (key : K) (value : V) → eq key e.0 ≡ true → noted eq (e ∷ seen) key value ≡ (e.0, value) ∷ map (with_value eq key value) seen
  noted_own e seen key value same =
      ap (λ b. if b || is_seen eq (keys_of seen) key then (if b then (e.0, value) else e) ∷ map (with_value eq key value) seen else e ∷ (seen ++ (key, value) ∷ [])) same

  noted_behind : (e : K × V) (seen : List (K × V)) (key : K) (value : V) → eq key e.0 ≡ false → noted eq (e ∷ seen) key value ≡ e ∷ noted eq seen key value
  noted_behind e seen key value other =
      ap (λ b. if b || is_seen eq (keys_of seen) key then (if b then (e.0, value) else e) ∷ map (with_value eq key value) seen else e ∷ (seen ++ (key, value) ∷ [])) other
      ∙ sym (behind (is_seen eq (keys_of seen) key) e (map (with_value eq key value) seen) (seen ++ (key, value) ∷ []))

  -- the keys
  keys_kept : (seen : List (K × V)) (key : K) (value : V) → keys_of (map (with_value eq key value) seen) ≡ keys_of seen
  keys_kept [] key value = refl
  keys_kept (e ∷ seen) key value = λ i. own_key (eq key e.0) e value i ∷ keys_kept seen key value i

  keys_more : (seen : List (K × V)) (key : K) (value : V) → keys_of (seen ++ (key, value) ∷ []) ≡ keys_of seen ++ key ∷ []
  keys_more [] key value = refl
  keys_more (e ∷ seen) key value = ap (λ l. e.0 ∷ l) (keys_more seen key value)

  pub keys_noted : (seen : List (K × V)) (key : K) (value : V) → keys_of (noted eq seen key value) ≡ seen_with eq (keys_of seen) key
  keys_noted seen key value = by (is_seen eq (keys_of seen) key)
    where
      by : (b : Bool) → keys_of (if b then map (with_value eq key value) seen else seen ++ (key, value) ∷ []) ≡ (if b then keys_of seen else keys_of seen ++ key ∷ [])
      by true = keys_kept seen key value
      by false = keys_more seen key value

  found_is_seen : (seen : List (K × V)) (key : K) → is_some (belonging eq seen key) ≡ is_seen eq (keys_of seen) key
  found_is_seen [] key = refl
  found_is_seen (e ∷ seen) key = by (eq key e.0) (found_is_seen seen key)
    where
      by : (b : Bool) → is_some (belonging eq seen key) ≡ is_seen eq (keys_of seen) key → is_some (if b then Some e.1 else belonging eq seen key) ≡ (b || is_seen eq (keys_of seen) key)
      by true rest = refl
      by false rest = rest

  pub order : (seen : List (K × V)) (key : K) (value : V) → keys_of (noted eq seen key value) ≡ (if is_some (belonging eq seen key) then keys_of seen else keys_of seen ++ key ∷ [])
  order seen key value = keys_noted seen key value ∙ ap (λ b. if b then keys_of seen else keys_of seen ++ key ∷ []) (sym (found_is_seen seen key))

  -- a key to which nothing belongs makes the list of keys longer
  pub only_new : {T E : Type 0} (seen : List (K × V)) (key : K) (result : Result T E) → belonging eq seen key ≡ None → length (seen_with eq (keys_of seen) key) ≡ length (keys_of seen) → IsOk result
  only_new seen key result absent as_many = absurd (longer (is_seen eq (keys_of seen) key) (sym (found_is_seen seen key) ∙ ap is_some absent) as_many)
    where
      longer : (b : Bool) → b ≡ false → length (if b then keys_of seen else keys_of seen ++ key ∷ []) ≡ length (keys_of seen) → ⊥
      longer true is as_many = true≢false is
      longer false is as_many = let more = length-append (keys_of seen) (key ∷ []) in absurd (omega (arith, more, as_many))

  module _ (laws : IsEquivalence eq) where
    -- if no key is this one, nothing is returned
    untouched : (seen : List (K × V)) (key : K) (value : V) → AllByRecursion (λ k. eq key k ≡ false) (keys_of seen) → map (with_value eq key value) seen ≡ seen
    untouched [] key value none = refl
    untouched (e ∷ seen) key value none = λ i. (if none.0 i then (e.0, value) else e) ∷ untouched seen key value none.1 i

    -- the map's own list, whose keys are distinct, is this one
    pub as_noted : (seen : List (K × V)) (key : K) (value : V) → IsDistinct eq (keys_of (insert_entry eq seen key value)) → insert_entry eq seen key value ≡ noted eq seen key value
    unfolding IsDistinct
    as_noted [] key value distinct = refl
    as_noted (e ∷ seen) key value distinct = by (eq key e.0) refl distinct (as_noted seen key value)
      where
        by : (b : Bool) → eq key e.0 ≡ b → IsDistinct eq (keys_of (if b then (e.0, value) ∷ seen else e ∷ insert_entry eq seen key value)) →
            (IsDistinct eq (keys_of (insert_entry eq seen key value)) → insert_entry eq seen key value ≡ noted eq seen key value) →
            (if b then (e.0, value) ∷ seen else e ∷ insert_entry eq seen key value) ≡ noted eq (e ∷ seen) key value
        by true same distinct rest = ap (λ l. (e.0, value) ∷ l) (sym (untouched seen key value (others eq laws key e.0 (keys_of seen) same distinct.0))) ∙ sym (noted_own e seen key value same)
        by false other distinct rest = ap (λ l. e ∷ l) (rest distinct.1) ∙ sym (noted_behind e seen key value other)

    pub inserted_is_noted : (old new : List (K × V)) (key : K) (value : V) → new ≡ insert_entry eq old key value → IsDistinct eq (keys_of new) → new ≡ noted eq old key value
    inserted_is_noted old new key value is distinct = is ∙ as_noted old key value (subst (λ l. IsDistinct eq (keys_of l)) is distinct)

    -- the value at the place of a key that was seen is the key's
    set_at_place : (seen : List (K × V)) (key : K) (value : V) → place_of eq (keys_of seen) key < length (keys_of seen) → IsDistinct eq (keys_of seen) → set_value_at seen (place_of eq (keys_of seen) key) value ≡ noted eq seen key value
    unfolding IsDistinct
    set_at_place [] key value inside distinct = absurd (omega arith)
    set_at_place (e ∷ later) key value inside distinct = by (eq key e.0) refl inside (set_at_place later key value)
      where
        by : (b : Bool) → eq key e.0 ≡ b → cond (not b) (1 + place_of eq (keys_of later) key) 0 < length (keys_of (e ∷ later)) →
            (place_of eq (keys_of later) key < length (keys_of later) → IsDistinct eq (keys_of later) → set_value_at later (place_of eq (keys_of later) key) value ≡ noted eq later key value) →
            set_value_at (e ∷ later) (cond (not b) (1 + place_of eq (keys_of later) key) 0) value ≡ noted eq (e ∷ later) key value
        by true same inside rest = ap (λ l. (e.0, value) ∷ l) (sym (untouched later key value (others eq laws key e.0 (keys_of later) same distinct.0))) ∙ sym (noted_own e later key value same)
        by false other inside rest = ap (λ p. set_value_at (e ∷ later) p value) (one_more (place_of eq (keys_of later) key)) ∙ ap (λ l. e ∷ l) (rest (omega arith) distinct.1) ∙ sym (noted_behind e later key value other)

    pub renewed : (seen : List (K × V)) (key : K) (place : ℕ) (value : V) → position (eq key) (keys_of seen) ≡ Some place → IsDistinct eq (keys_of seen) → set_value_at seen place value ≡ noted eq seen key value
    renewed seen key place value found distinct =
        let at = place_found (eq key) (keys_of seen) place found in
        ap (λ p. set_value_at seen p value) (sym at.0) ∙ set_at_place seen key value (subst (λ p. p < length (keys_of seen)) (sym at.0) at.1) distinct

    -- a key that is looked up, and is another, finds what it found
    aside_of : (seen : List (K × V)) (key asked : K) (value : V) → eq asked key ≡ false → belonging eq (map (with_value eq key value) seen) asked ≡ belonging eq seen asked
    aside_of [] key asked value other = refl
    aside_of (e ∷ seen) key asked value other = by (eq key e.0) refl (aside_of seen key asked value other)
      where
        by : (b : Bool) → eq key e.0 ≡ b → belonging eq (map (with_value eq key value) seen) asked ≡ belonging eq seen asked →
            belonging eq ((if b then (e.0, value) else e) ∷ map (with_value eq key value) seen) asked ≡ (if eq asked e.0 then Some e.1 else belonging eq seen asked)
        by true same rest =
            aside true (eq asked e.0) value e.1 (belonging eq (map (with_value eq key value) seen) asked) (belonging eq seen asked)
            (λ h. laws.symm asked e.0 ∙ sym (laws.congr key e.0 asked same) ∙ laws.symm key asked ∙ other) rest
        by false same rest = ap (λ o. if eq asked e.0 then Some e.1 else o) rest

    pub found : (seen : List (K × V)) (key asked : K) (value : V) → belonging eq (noted eq seen key value) asked ≡ (if eq asked key then Some value else belonging eq seen asked)
    found [] key asked value = refl
    found (e ∷ seen) key asked value = by (eq key e.0) refl (found seen key asked value)
      where
        by : (b : Bool) → eq key e.0 ≡ b → belonging eq (noted eq seen key value) asked ≡ (if eq asked key then Some value else belonging eq seen asked) →
            belonging eq (noted eq (e ∷ seen) key value) asked ≡ (if eq asked key then Some value else (if eq asked e.0 then Some e.1 else belonging eq seen asked))
        by true same rest =
            ap (λ l. belonging eq l asked) (noted_own e seen key value same)
            ∙ own (eq asked e.0) (eq asked key) value e.1 (belonging eq (map (with_value eq key value) seen) asked) (belonging eq seen asked)
            (laws.symm asked key ∙ laws.congr key e.0 asked same ∙ laws.symm e.0 asked)
            (λ other. aside_of seen key asked value (laws.symm asked key ∙ laws.congr key e.0 asked same ∙ laws.symm e.0 asked ∙ other))
        by false other rest =
            ap (λ l. belonging eq l asked) (noted_behind e seen key value other)
            ∙ ap (λ o. if eq asked e.0 then Some e.1 else o) rest
            ∙ before (eq asked e.0) (eq asked key) value e.1 (belonging eq seen asked) (λ asks. laws.congr asked key e.0 asks ∙ other)
