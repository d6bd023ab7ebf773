-- Each line keeps a policy sound.
use Rattle.std.proofs.Common.{◌≡◌, ◌-◌, ◌∙◌, List, ◌∷◌, [], length, suc, true, false, Bool, Some, None, ap, refl, arith, cond, map}
use Rattle.std.specs.Prelude.{Option, Ok, Err, Result, IfOk, ⊤, All, slice_get}
use Rattle.std.specs.List.{AllByRecursion}
use Rattle.std.proofs.lemmas.List.Elements.{All-from_recursion, recursion_from_All}
use Rattle.policy_text.specs.Grammar.{latest, change_latest}
use Rattle.policy_text.specs.Steps.{◌>>=◌, demand, some_or}

-- what holds for the value of a sequence of steps
pub one_step : {A E : Type 0} (P : A → Type 0) (r : Result ⊤ E) (y : A) → ((u : ⊤) → r ≡ Ok u → P y) → IfOk (r >>= (λ _. Ok y)) P
one_step P (Ok u) y h = h u refl
one_step P (Err e) y h = tt

pub two_steps : {A E : Type 0} (P : A → Type 0) (r s : Result ⊤ E) (y : A) → ((u v : ⊤) → r ≡ Ok u → s ≡ Ok v → P y) → IfOk (r >>= (λ _. s >>= (λ _. Ok y))) P
two_steps P (Ok u) (Ok v) y h = h u v refl refl
two_steps P (Ok u) (Err e) y h = tt
two_steps P (Err e) s y h = tt

pub one_value : {A X E : Type 0} (P : A → Type 0) (r s : Result ⊤ E) (a : Result X E) (g : X → A) → ((x : X) → a ≡ Ok x → P (g x)) → IfOk (r >>= (λ _. s >>= (λ _. a >>= (λ x. Ok (g x))))) P
one_value P (Ok u) (Ok v) (Ok x) g h = h x refl
one_value P (Ok u) (Ok v) (Err e) g h = tt
one_value P (Ok u) (Err e) a g h = tt
one_value P (Err e) s a g h = tt

pub two_values : {A X E : Type 0} (P : A → Type 0) (r s : Result ⊤ E) (a b : Result X E) (g : X → X → A) → ((x y : X) → a ≡ Ok x → b ≡ Ok y → P (g x y)) →
    IfOk (r >>= (λ _. s >>= (λ _. a >>= (λ x. b >>= (λ y. Ok (g x y)))))) P
two_values P (Ok u) (Ok v) (Ok x) (Ok y) g h = h x y refl refl
two_values P (Ok u) (Ok v) (Ok x) (Err e) g h = tt
two_values P (Ok u) (Ok v) (Err e) b g h = tt
two_values P (Ok u) (Err e) a b g h = tt
two_values P (Err e) s a b g h = tt

pub value_first : {A X E : Type 0} (P : A → Type 0) (a : Result X E) (r s : Result ⊤ E) (g : X → A) → ((x : X) (u v : ⊤) → a ≡ Ok x → r ≡ Ok u → s ≡ Ok v → P (g x)) →
    IfOk (a >>= (λ x. r >>= (λ _. s >>= (λ _. Ok (g x))))) P
value_first P (Ok x) (Ok u) (Ok v) g h = h x u v refl refl refl
value_first P (Ok x) (Ok u) (Err e) g h = tt
value_first P (Ok x) (Err e) s g h = tt
value_first P (Err e) r s g h = tt

pub value_last : {A X E : Type 0} (P : A → Type 0) (q r s t : Result ⊤ E) (a : Result X E) (g : X → A) → ((u v w z : ⊤) (x : X) → q ≡ Ok u → r ≡ Ok v → s ≡ Ok w → t ≡ Ok z → P (g x)) →
    IfOk (q >>= (λ _. r >>= (λ _. s >>= (λ _. t >>= (λ _. a >>= (λ x. Ok (g x))))))) P
value_last P (Ok u) (Ok v) (Ok w) (Ok z) (Ok x) g h = h u v w z x refl refl refl refl
value_last P (Ok u) (Ok v) (Ok w) (Ok z) (Err e) g h = tt
value_last P (Ok u) (Ok v) (Ok w) (Err e) a g h = tt
value_last P (Ok u) (Ok v) (Err e) t a g h = tt
value_last P (Ok u) (Err e) s t a g h = tt
value_last P (Err e) r s t a g h = tt

pub cond_keeps : {B E : Type 0} (P : B → Type 0) (b : Bool) (x y : Result B E) → (b ≡ true → IfOk x P) → IfOk y P → IfOk (cond b x y) P
cond_keeps P true x y h k = h refl
cond_keeps P false x y h k = k

pub demand_ok : {E : Type 0} (b : Bool) (e : E) (u : ⊤) → demand b e ≡ Ok u → b ≡ true
demand_ok true e u h = refl
demand_ok false e u h = cc

pub some_or_ok : {A E : Type 0} (e : E) (o : Option A) (x : A) → some_or e o ≡ Ok x → o ≡ Some x
some_or_ok e None x h = cc
some_or_ok e (Some y) x h = cc

pub latest_cons : {A : Type 0} (x y : A) (ys : List A) → latest (x ∷ y ∷ ys) ≡ latest (y ∷ ys)
latest_cons x y ys =
    let e : length (x ∷ y ∷ ys) - 1 ≡ suc (length (y ∷ ys) - 1) = omega arith in
    ap (slice_get (x ∷ y ∷ ys)) e

recursion_latest : {A : Type 0} (P : A → Type 0) (f : A → A) (xs : List A) → AllByRecursion P xs → ((x : A) → latest xs ≡ Some x → P x → P (f x)) → AllByRecursion P (change_latest f xs)
recursion_latest P f [] all h = tt
recursion_latest P f (x ∷ []) all h = (h x refl all.0, tt)
recursion_latest P f (x ∷ y ∷ ys) all h = (all.0, recursion_latest P f (y ∷ ys) all.1 (λ z is. h z (latest_cons x y ys ∙ is)))

-- the latest changed
pub all_latest : {A : Type 0} (P : A → Type 0) (f : A → A) (xs : List A) → All P xs → ((x : A) → latest xs ≡ Some x → P x → P (f x)) → All P (change_latest f xs)
all_latest P f xs all h = All-from_recursion P (change_latest f xs) (recursion_latest P f xs (recursion_from_All P xs all) h)

pub length-change_latest : {A : Type 0} (f : A → A) (xs : List A) → length (change_latest f xs) ≡ length xs
length-change_latest f [] = refl
length-change_latest f (x ∷ []) = refl
length-change_latest f (x ∷ y ∷ ys) = ap suc (length-change_latest f (y ∷ ys))

pub map-change_latest : {A B : Type 0} (g : A → B) (f : A → A) (xs : List A) → ((x : A) → g (f x) ≡ g x) → map g (change_latest f xs) ≡ map g xs
map-change_latest g f [] same = refl
map-change_latest g f (x ∷ []) same = ap (λ y. y ∷ []) (same x)
map-change_latest g f (x ∷ y ∷ ys) same = ap (λ zs. g x ∷ zs) (map-change_latest g f (y ∷ ys) same)
