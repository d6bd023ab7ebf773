-- What lines give, one by one, and the first of it that passes.
use Rattle.std.proofs.Common.{◌≡◌, ◌∙◌, List, [], ◌∷◌, ◌++◌, map, Bool, true, false, refl, ap, cond, Some, None}
use Rattle.std.specs.Prelude.{◌||◌, Option, find, filter_map}
use Rattle.std.specs.List.{list_any, cons_option}
use Rattle.std.specs.Option.{option_map}

pub map_cons : {A B : Type 0} (f : A → B) (o : Option A) (xs : List A) → map f (cons_option o xs) ≡ cons_option (option_map f o) (map f xs)
map_cons f None xs = refl
map_cons f (Some x) xs = refl

pub cons_both : {A : Type 0} (o p : Option A) (xs ys : List A) → o ≡ p → xs ≡ ys → cons_option o xs ≡ cons_option p ys
cons_both o p xs ys is same = ap (λ x. cons_option x xs) is ∙ ap (cons_option p) same

pub none_given : {A B : Type 0} (f : A → Option B) (xs : List A) → ((x : A) → f x ≡ None) → filter_map f xs ≡ []
none_given f [] none = refl
none_given f (x ∷ xs) none = cons_both (f x) None (filter_map f xs) [] (none x) (none_given f xs none)

-- Where what is given by some things is cut, the things are cut.
pub record IsCutAt {A B : Type 0} (f : A → Option B) (things : List A) (before : List B) (y : B) (after : List B) : Type 0 where
  pub front : List A
  pub thing : A
  pub back : List A
  pub is : things ≡ front ++ thing ∷ back
  pub gives_before : filter_map f front ≡ before
  pub gives : f thing ≡ Some y

pub cut_at : {A B : Type 0} (f : A → Option B) (things : List A) (before : List B) (y : B) (after : List B) → filter_map f things ≡ before ++ y ∷ after → IsCutAt f things before y after
cut_at f [] [] y after h = absurd cc
cut_at f [] (b ∷ before) y after h = absurd cc
cut_at {A} {B} f (x ∷ things) before y after h = by (f x) before refl (λ first e. cut_at f things first y after e) h
  where
    by : (o : Option B) (before : List B) → f x ≡ o → ((first : List B) → filter_map f things ≡ first ++ y ∷ after → IsCutAt f things first y after) → cons_option o (filter_map f things) ≡ before ++ y ∷ after → IsCutAt f (x ∷ things) before y after
    by None before none cut h =
        let rest = cut before h in
        record {
          front = x ∷ rest.front;
          thing = rest.thing;
          back = rest.back;
          is = ap (λ l. x ∷ l) rest.is;
          gives_before = ap (λ o. cons_option o (filter_map f rest.front)) none ∙ rest.gives_before;
          gives = rest.gives;
        }
    by (Some z) [] some cut h =
        let same : z ≡ y = cc in
        record { front = []; thing = x; back = things; is = refl; gives_before = refl; gives = some ∙ ap Some same }
    by (Some z) (b ∷ before) some cut h =
        let same : z ≡ b = cc in
        let others : filter_map f things ≡ before ++ y ∷ after = cc in
        let rest = cut before others in
        record {
          front = x ∷ rest.front;
          thing = rest.thing;
          back = rest.back;
          is = ap (λ l. x ∷ l) rest.is;
          gives_before = ap (λ o. cons_option o (filter_map f rest.front)) some ∙ ap (λ w. w ∷ filter_map f rest.front) same ∙ ap (λ l. b ∷ l) rest.gives_before;
          gives = rest.gives;
        }

module _ {R : Type 0} (p : R → Bool) where
  found_before : (before xs ys : List R) → list_any p before ≡ true → find p (before ++ xs) ≡ find p (before ++ ys)
  found_before [] xs ys h = absurd cc
  found_before (r ∷ before) xs ys h = by (p r) (λ rest. found_before before xs ys rest) h
    where
      by : (b : Bool) → (list_any p before ≡ true → find p (before ++ xs) ≡ find p (before ++ ys)) → (b || list_any p before) ≡ true →
          cond b (Some r) (find p (before ++ xs)) ≡ cond b (Some r) (find p (before ++ ys))
      by true later h = refl
      by false later h = later h

  found_without : (before after : List R) (r : R) → p r ≡ false → find p (before ++ r ∷ after) ≡ find p (before ++ after)
  found_without [] after r fails = ap (λ b. cond b (Some r) (find p after)) fails
  found_without (b ∷ before) after r fails = ap (λ f. cond (p b) (Some b) f) (found_without before after r fails)

  -- without one that doesn't pass where none before it does, the first is the same
  pub found_same : (before after : List R) (r : R) → (p r ≡ true → list_any p before ≡ true) → find p (before ++ r ∷ after) ≡ find p (before ++ after)
  found_same before after r h = by (p r) refl
    where
      by : (b : Bool) → p r ≡ b → find p (before ++ r ∷ after) ≡ find p (before ++ after)
      by true is = found_before before (r ∷ after) after (h is)
      by false is = found_without before after r is

  -- one of these passes
  pub one_passes : (front back : List R) (r : R) → p r ≡ true → list_any p (front ++ r ∷ back) ≡ true
  one_passes [] back r h = ap (λ b. b || list_any p back) h
  one_passes (x ∷ front) back r h = by (p x) (one_passes front back r h)
    where
      by : (b : Bool) → list_any p (front ++ r ∷ back) ≡ true → (b || list_any p (front ++ r ∷ back)) ≡ true
      by true rest = refl
      by false rest = rest

pub any_mapped : {A B : Type 0} (f : A → B) (p : B → Bool) (xs : List A) → list_any p (map f xs) ≡ list_any (λ x. p (f x)) xs
any_mapped f p [] = refl
any_mapped f p (x ∷ xs) = ap (λ b. p (f x) || b) (any_mapped f p xs)
