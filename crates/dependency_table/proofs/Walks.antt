-- Walks along the list of all actions.
use Rattle.std.proofs.Common.{◌≡◌, ◌<◌, ◌+◌, ◌∙◌, ℕ, true, false, Bool, sym, ap, refl, List, [], ◌∷◌, length, drop, get_or, cond}
use Rattle.std.specs.Prelude.{Option, Some, None, map, filter, find}
use Rattle.std.specs.Option.{option_or, option_map}
use Rattle.std.proofs.lemmas.List.{drop_more}
use Rattle.std.proofs.lemmas.List.Folds.{find-append}
use Rattle.dependency_table.specs.Table.{forbids}
use Rattle.dependency_table.specs.declared.action.Action.{Action}
use Rattle.dependency_table.proofs.Among.{side, sides}

-- a test by a choice
mapped_choice : {X Y : Type 0} (g : X → Y) (b : Bool) (x : X) (rest : Option X) → option_map g (cond b (Some x) rest) ≡ cond b (Some (g x)) (option_map g rest)
mapped_choice g true x rest = refl
mapped_choice g false x rest = refl

-- the first pair that is forbidden, of the actions xs before the actions ys
abbrev pub first_of : List Action → List Action → Option (Action × Action)
first_of xs ys = find (λ p. forbids p.0 p.1) (sides xs ys)

find_mapped : (a : Action) (ys : List Action) → find (λ (p : Action × Action). forbids p.0 p.1) (map (side a) ys) ≡ option_map (side a) (find (forbids a) ys)
find_mapped a [] = refl
find_mapped a (y ∷ ys) = ap (cond (forbids a y) (Some (side a y))) (find_mapped a ys) ∙ sym (mapped_choice (side a) (forbids a y) y (find (forbids a) ys))

first_of_cons : (a : Action) (xs ys : List Action) → first_of (a ∷ xs) ys ≡ option_or (option_map (side a) (find (forbids a) ys)) (first_of xs ys)
first_of_cons a xs ys =
    find-append (λ (p : Action × Action). forbids p.0 p.1) (map (side a) ys) (sides xs ys)
    ∙ ap (λ (o : Option (Action × Action)). option_or o (first_of xs ys)) (find_mapped a ys)

-- this action is the profile's, and forbids an action
pub first_hit : (p : Action → Bool) (xs ys : List Action) (i : ℕ) (d b : Action) → i < length xs → p (get_or xs i d) ≡ true → find (forbids (get_or xs i d)) ys ≡ Some b →
    first_of (filter p (drop i xs)) ys ≡ Some (side (get_or xs i d) b)
first_hit p xs ys i d b inside has hit =
    let x = get_or xs i d in
    let rest = filter p (drop (i + 1) xs) in
    ap (λ (zs : List Action). first_of (filter p zs) ys) (drop_more xs i d inside)
    ∙ ap (λ (c : Bool). first_of (cond c (x ∷ rest) rest) ys) has
    ∙ first_of_cons x rest ys
    ∙ ap (λ (o : Option Action). option_or (option_map (side x) o) (first_of rest ys)) hit

-- this action is the profile's, and forbids none
pub first_miss : (p : Action → Bool) (xs ys : List Action) (i : ℕ) (d : Action) → i < length xs → p (get_or xs i d) ≡ true → find (forbids (get_or xs i d)) ys ≡ None →
    first_of (filter p (drop i xs)) ys ≡ first_of (filter p (drop (i + 1) xs)) ys
first_miss p xs ys i d inside has miss =
    let x = get_or xs i d in
    let rest = filter p (drop (i + 1) xs) in
    ap (λ (zs : List Action). first_of (filter p zs) ys) (drop_more xs i d inside)
    ∙ ap (λ (c : Bool). first_of (cond c (x ∷ rest) rest) ys) has
    ∙ first_of_cons x rest ys
    ∙ ap (λ (o : Option Action). option_or (option_map (side x) o) (first_of rest ys)) miss

-- the profile doesn't have this action
pub first_skip : (p : Action → Bool) (xs ys : List Action) (i : ℕ) (d : Action) → i < length xs → p (get_or xs i d) ≡ false →
    first_of (filter p (drop i xs)) ys ≡ first_of (filter p (drop (i + 1) xs)) ys
first_skip p xs ys i d inside has =
    let x = get_or xs i d in
    let rest = filter p (drop (i + 1) xs) in
    ap (λ (zs : List Action). first_of (filter p zs) ys) (drop_more xs i d inside) ∙ ap (λ (c : Bool). first_of (cond c (x ∷ rest) rest) ys) has
