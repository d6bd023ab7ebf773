-- Membership in a list, and what tests and searches find there.
use Rattle.std.proofs.Common.{◌≡◌, true, false, Bool, ap, refl, List, [], ◌∷◌, ◌++◌, inl, inr, cond}
use Rattle.std.specs.Prelude.{◌⊎◌, ◌||◌, Some, None, map, filter, find}
use Rattle.std.specs.List.{list_any, flat_map}

-- x is in the list
unfoldable pub Among : {X : Type 0} → X → List X → Type 0
Among x [] = ⊥
Among x (y ∷ ys) = (x ≡ y) ⊎ Among x ys

pub among_left : {X : Type 0} (x : X) (ys zs : List X) → Among x ys → Among x (ys ++ zs)
unfolding Among
among_left x [] zs h = absurd h
among_left x (y ∷ ys) zs (inl e) = inl e
among_left x (y ∷ ys) zs (inr h) = inr (among_left x ys zs h)

pub among_right : {X : Type 0} (x : X) (ys zs : List X) → Among x zs → Among x (ys ++ zs)
unfolding Among
among_right x [] zs h = h
among_right x (y ∷ ys) zs h = inr (among_right x ys zs h)

pub among_append : {X : Type 0} (x : X) (ys zs : List X) → Among x (ys ++ zs) → Among x ys ⊎ Among x zs
unfolding Among
among_append x [] zs h = inr h
among_append x (y ∷ ys) zs (inl e) = inl (inl e)
among_append x (y ∷ ys) zs (inr h) = elim (among_append x ys zs h) [ inl l ↦ inl (inr l) | inr r ↦ inr r ]

pub among_map : {X Y : Type 0} (g : X → Y) (x : X) (xs : List X) → Among x xs → Among (g x) (map g xs)
unfolding Among
among_map g x [] h = absurd h
among_map g x (y ∷ ys) (inl e) = inl (ap g e)
among_map g x (y ∷ ys) (inr h) = inr (among_map g x ys h)

pub among_filter : {X : Type 0} (p : X → Bool) (x : X) (xs : List X) → Among x xs → p x ≡ true → Among x (filter p xs)
unfolding Among
among_filter p x [] h t = absurd h
among_filter p x (y ∷ ys) h t = step (p y) refl h (λ r. among_filter p x ys r t)
  where
    step : (b : Bool) → p y ≡ b → (x ≡ y) ⊎ Among x ys → (Among x ys → Among x (filter p ys)) → Among x (cond b (y ∷ filter p ys) (filter p ys))
    step true e (inl s) rest = inl s
    step true e (inr r) rest = inr (rest r)
    step false e (inl s) rest = absurd (let u : p x ≡ p y = ap p s in cc)
    step false e (inr r) rest = rest r

pub among_filtered : {X : Type 0} (p : X → Bool) (x : X) (xs : List X) → Among x (filter p xs) → p x ≡ true
unfolding Among
among_filtered p x [] h = absurd h
among_filtered p x (y ∷ ys) h = step (p y) refl h (λ r. among_filtered p x ys r)
  where
    step : (b : Bool) → p y ≡ b → Among x (cond b (y ∷ filter p ys) (filter p ys)) → (Among x (filter p ys) → p x ≡ true) → p x ≡ true
    step true e (inl s) rest = let u : p x ≡ p y = ap p s in cc
    step true e (inr r) rest = rest r
    step false e r rest = rest r

pub any_among : {X : Type 0} (p : X → Bool) (x : X) (xs : List X) → Among x xs → p x ≡ true → list_any p xs ≡ true
unfolding Among
any_among p x [] h t = absurd h
any_among p x (y ∷ ys) h t = step (p y) refl h (λ r. any_among p x ys r t)
  where
    step : (b : Bool) → p y ≡ b → (x ≡ y) ⊎ Among x ys → (Among x ys → list_any p ys ≡ true) → (b || list_any p ys) ≡ true
    step true e s rest = refl
    step false e (inl s) rest = let u : p x ≡ p y = ap p s in cc
    step false e (inr r) rest = rest r

-- an element that passes
pub record Passes {X : Type 0} (p : X → Bool) (xs : List X) : Type 0 where
  pub it : X
  pub stands : Among it xs
  pub passes : p it ≡ true

pub any_passes : {X : Type 0} (p : X → Bool) (xs : List X) → list_any p xs ≡ true → Passes p xs
unfolding Among
any_passes p [] h = cc
any_passes p (y ∷ ys) h = step (p y) refl h (λ s. any_passes p ys s)
  where
    step : (b : Bool) → p y ≡ b → (b || list_any p ys) ≡ true → (list_any p ys ≡ true → Passes p ys) → Passes p (y ∷ ys)
    step true e s rest = record { it = y; stands = inl refl; passes = e }
    step false e s rest = let r = rest s in record { it = r.it; stands = inr r.stands; passes = r.passes }

pub find_none : {X : Type 0} (p : X → Bool) (x : X) (xs : List X) → find p xs ≡ None → Among x xs → p x ≡ false
unfolding Among
find_none p x [] h a = absurd a
find_none p x (y ∷ ys) h a = step (p y) refl h a (λ s r. find_none p x ys s r)
  where
    step : (b : Bool) → p y ≡ b → cond b (Some y) (find p ys) ≡ None → (x ≡ y) ⊎ Among x ys → (find p ys ≡ None → Among x ys → p x ≡ false) → p x ≡ false
    step true e s a rest = absurd cc
    step false e s (inl u) rest = let v : p x ≡ p y = ap p u in cc
    step false e s (inr r) rest = rest s r

pub find_passes : {X : Type 0} (p : X → Bool) (x : X) (xs : List X) → find p xs ≡ Some x → p x ≡ true
find_passes p x [] h = cc
find_passes p x (y ∷ ys) h = step (p y) refl h (λ s. find_passes p x ys s)
  where
    step : (b : Bool) → p y ≡ b → cond b (Some y) (find p ys) ≡ Some x → (find p ys ≡ Some x → p x ≡ true) → p x ≡ true
    step true e s rest = let v : y ≡ x = cc in let u : p y ≡ p x = ap p v in cc
    step false e s rest = rest s

pub find_among : {X : Type 0} (p : X → Bool) (x : X) (xs : List X) → find p xs ≡ Some x → Among x xs
unfolding Among
find_among p x [] h = cc
find_among p x (y ∷ ys) h = step (p y) refl h (λ s. find_among p x ys s)
  where
    step : (b : Bool) → p y ≡ b → cond b (Some y) (find p ys) ≡ Some x → (find p ys ≡ Some x → Among x ys) → (x ≡ y) ⊎ Among x ys
    step true e s rest = inl cc
    step false e s rest = inr (rest s)

abbrev pub side : {X : Type 0} → X → X → X × X
side x y = (x, y)

-- each element of one list beside each of the other
abbrev pub sides : {X : Type 0} → List X → List X → List (X × X)
sides xs ys = flat_map (λ a. map (λ b. (a, b)) ys) xs

pub among_sides : {X : Type 0} (x y : X) (xs ys : List X) → Among x xs → Among y ys → Among (side x y) (sides xs ys)
unfolding Among
among_sides x y [] ys h k = absurd h
among_sides x y (a ∷ xs) ys (inl e) k =
    among_left (side x y) (map (side a) ys) (sides xs ys) (rw (← e) (among_map (side x) y ys k))
among_sides x y (a ∷ xs) ys (inr h) k = among_right (side x y) (map (side a) ys) (sides xs ys) (among_sides x y xs ys h k)

among_mapped : {X : Type 0} (a : X) (p : X × X) (ys : List X) → Among p (map (side a) ys) → (p.0 ≡ a) × Among p.1 ys
unfolding Among
among_mapped a p [] h = absurd h
among_mapped {X} a p (y ∷ ys) (inl e) = (ap (λ (q : X × X). q.0) e, inl (ap (λ (q : X × X). q.1) e))
among_mapped a p (y ∷ ys) (inr h) = let r = among_mapped a p ys h in (r.0, inr r.1)

pub sides_among : {X : Type 0} (p : X × X) (xs ys : List X) → Among p (sides xs ys) → Among p.0 xs × Among p.1 ys
unfolding Among
sides_among p [] ys h = absurd h
sides_among p (a ∷ xs) ys h = step (among_append p (map (side a) ys) (sides xs ys) h) (λ r. sides_among p xs ys r)
  where
    step : Among p (map (side a) ys) ⊎ Among p (sides xs ys) → (Among p (sides xs ys) → Among p.0 xs × Among p.1 ys) → Among p.0 (a ∷ xs) × Among p.1 ys
    step (inl m) rest = let r = among_mapped a p ys m in (inl r.0, r.1)
    step (inr m) rest = let r = rest m in (inr r.0, r.1)
