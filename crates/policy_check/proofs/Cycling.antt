-- The named cycle is a cycle.
use Rattle.std.proofs.Common.{◌≡◌, ℕ, zero, suc, ◌+◌, ◌-◌, ◌<◌, true, false, ◌||◌, not, cond, List, [], ◌∷◌, ◌++◌, length, Some, None, IsSome, refl, sym, ap, ◌∙◌, subst, arith, reverse}
use Rattle.std.specs.Prelude.{◌==◌, find}
use Rattle.std.specs.Option.{option_map_or}
use Rattle.std.proofs.lemmas.Bool.Decides.{nat_tests}
use Rattle.std.proofs.lemmas.Grind.{common_steps}
use Rattle.std.proofs.lemmas.List.{reverse-append}
use Rattle.policy_check.specs.Arrangements.{IsPath, IsCycle}
use Rattle.policy_check.specs.Cycles.{predecessor, up_to, cycle_back, from_earliest, named_cycle}
use Rattle.policy_check.specs.Edges.{Edges}
use Rattle.policy_check.specs.Turns.{is_held, ready}
use Rattle.policy_check.proofs.Ascending.{find_passes, find_inside}
use Rattle.policy_check.proofs.Inside.{inside, inside-reverse, AreDistinct, AreInside, length-distinct, any-from_find, find_none_inside}

-- a path up to x, and one more edge
closes : (edge : Edges) (s x y : ℕ) (ts : List ℕ) → IsPath edge s ts → inside x ts ≡ true → edge x y ≡ true → IsPath edge s (up_to x ts ++ y ∷ [])
closes edge s x y [] h i e = cc
closes edge s x y (t ∷ ts) h i e =
    elim (t == x) as (λ b. (t == x) ≡ b → (b || inside x ts) ≡ true → IsPath edge s (cond b (t ∷ []) (t ∷ up_to x ts) ++ y ∷ [])) [
      | true ↦ λ q j. let same : t ≡ x = grind (arith, nat_tests) in (h.0, (rw same e, tt))
      | false ↦ λ q j. (h.0, closes edge t x y ts h.1 j e)
    ] refl i

front_is_cycle : (edge : Edges) (x : ℕ) (trail : List ℕ) → IsPath edge x trail → inside x trail ≡ true → IsCycle edge (up_to x trail)
front_is_cycle edge x [] h i = cc
front_is_cycle edge x (t ∷ ts) h i =
    elim (t == x) as (λ b. (t == x) ≡ b → (b || inside x ts) ≡ true → IsCycle edge (cond b (t ∷ []) (t ∷ up_to x ts))) [
      | true ↦ λ q j. let same : x ≡ t = grind (arith, nat_tests) in let P : ℕ → Type 0 = λ s. edge s t ≡ true in (subst P same h.0, tt)
      | false ↦ λ q j. closes edge t x t ts h.1 j h.0
    ] refl i

AreInside-up_to : (left : List ℕ) (x : ℕ) (trail : List ℕ) → AreInside left trail → AreInside left (up_to x trail)
AreInside-up_to left x [] h = tt
AreInside-up_to left x (t ∷ ts) h =
    elim (t == x) as (λ b. AreInside left (cond b (t ∷ []) (t ∷ up_to x ts))) [
      | true ↦ (h.0, tt)
      | false ↦ (h.0, AreInside-up_to left x ts h.1)
    ]

-- a path among functions that remain, each once
pub record IsTrail (edge : Edges) (left : List ℕ) (x : ℕ) (trail : List ℕ) : Type 0 where
  pub here : inside x left ≡ true
  pub once : AreDistinct trail
  pub remain : AreInside left trail
  pub path : IsPath edge x trail

pub back_is_cycle : (edge : Edges) (left : List ℕ) (steps x : ℕ) (trail : List ℕ) → ready edge left ≡ None → IsTrail edge left x trail → length left < steps + length trail → IsCycle edge (cycle_back edge left steps x trail) × AreInside left (cycle_back edge left steps x trail)
unfolding cycle_back
back_is_cycle edge left zero x trail none t enough =
    let few = length-distinct left trail t.once t.remain in absurd (omega arith)
back_is_cycle edge left (suc steps) x trail none t enough =
    elim (inside x trail) as (λ b. inside x trail ≡ b → IsCycle edge (cond b (up_to x trail) (option_map_or (λ a. cycle_back edge left steps a (x ∷ trail)) (predecessor edge left x) [])) × AreInside left (cond b (up_to x trail) (option_map_or (λ a. cycle_back edge left steps a (x ∷ trail)) (predecessor edge left x) []))) [
      | true ↦ λ i. (front_is_cycle edge x trail t.path i, AreInside-up_to left x trail t.remain)
      | false ↦ λ i. elim (predecessor edge left x) as (λ o. predecessor edge left x ≡ o → IsCycle edge (option_map_or (λ a. cycle_back edge left steps a (x ∷ trail)) o []) × AreInside left (option_map_or (λ a. cycle_back edge left steps a (x ∷ trail)) o [])) [
        | None ↦ λ e.
            let held : not (is_held edge left x) ≡ false = find_none_inside (λ x. not (is_held edge left x)) left x none t.here in
            let free : is_held edge left x ≡ false = any-from_find (λ a. edge a x) left e in
            absurd (grind arith)
        | Some a ↦ λ e. back_is_cycle edge left steps a (x ∷ trail) none (record {
          here = find_inside (λ a. edge a x) left a e;
          once = (i, t.once);
          remain = (t.here, t.remain);
          path = (find_passes (λ a. edge a x) left a e, t.path);
        }) (omega arith)
      ] refl
    ] refl

-- from each function that remains a cycle is found
pub cycle_from : (edge : Edges) (left : List ℕ) (x : ℕ) → ready edge left ≡ None → inside x left ≡ true → IsCycle edge (cycle_back edge left (suc (length left)) x []) × AreInside left (cycle_back edge left (suc (length left)) x [])
cycle_from edge left x none i =
    back_is_cycle edge left (suc (length left)) x [] none (record { here = i; once = tt; remain = tt; path = tt }) (omega arith)

-- one step back, if the trail has not come round

pub back_positive : (edge : Edges) (left : List ℕ) (steps x : ℕ) (trail : List ℕ) → IsCycle edge (cycle_back edge left steps x trail) → 0 < steps
unfolding cycle_back
back_positive edge left zero x trail real = absurd real
back_positive edge left (suc steps) x trail real = omega arith

pub back_end : (edge : Edges) (left : List ℕ) (steps x : ℕ) (trail : List ℕ) → inside x trail ≡ true → IsCycle edge (cycle_back edge left steps x trail) → cycle_back edge left steps x trail ≡ up_to x trail
unfolding cycle_back
back_end edge left zero x trail i real = absurd real
back_end edge left (suc steps) x trail i real = rw i refl

pub back_some : (edge : Edges) (left : List ℕ) (steps x : ℕ) (trail : List ℕ) → inside x trail ≡ false → IsCycle edge (cycle_back edge left steps x trail) → IsSome (predecessor edge left x)
unfolding cycle_back
back_some edge left zero x trail i real = absurd real
back_some edge left (suc steps) x trail i real =
    elim (predecessor edge left x) as (λ o. predecessor edge left x ≡ o → IsSome o) [
      | None ↦ λ e. let none : cycle_back edge left (suc steps) x trail ≡ [] = rw (i, e) refl in absurd (rw none at real)
      | Some a ↦ λ e. refl
    ] refl

pub back_turn : (edge : Edges) (left : List ℕ) (steps x a : ℕ) (trail : List ℕ) → inside x trail ≡ false → predecessor edge left x ≡ Some a → IsCycle edge (cycle_back edge left steps x trail) → cycle_back edge left (steps - 1) a (x ∷ trail) ≡ cycle_back edge left steps x trail
unfolding cycle_back
back_turn edge left zero x a trail i e real = absurd real
back_turn edge left (suc steps) x a trail i e real =
    let one : suc steps - 1 ≡ steps = omega arith in
    rw (one, i, e) refl

-- The way back so far: `trail` has the functions that were passed, the newest last.
pub record GoesBack (edge : Edges) (left : List ℕ) (start at : ℕ) (trail : List ℕ) : Type 0 where
  pub same : cycle_back edge left (suc (length left) - length trail) at (reverse trail) ≡ cycle_back edge left (suc (length left)) start []
  pub real : IsCycle edge (cycle_back edge left (suc (length left) - length trail) at (reverse trail))

pub GoesBack-start : (edge : Edges) (left : List ℕ) (start : ℕ) → ready edge left ≡ None → find (λ x. true) left ≡ Some start → GoesBack edge left start start []
GoesBack-start edge left start none first =
    let all : suc (length left) - 0 ≡ suc (length left) = omega arith in
    record {
      same = ap (λ n. cycle_back edge left n start []) all;
      real = rw all (cycle_from edge left start none (find_inside (λ x. true) left start first)).0;
    }

pub GoesBack-some : (edge : Edges) (left : List ℕ) (start at : ℕ) (trail : List ℕ) → GoesBack edge left start at trail → inside at trail ≡ false → IsSome (predecessor edge left at)
GoesBack-some edge left start at trail h i =
    back_some edge left (suc (length left) - length trail) at (reverse trail) (inside-reverse at trail ∙ i) h.real

longer : (trail : List ℕ) (at : ℕ) → length (trail ++ at ∷ []) ≡ length trail + 1
longer trail at = grind (arith, common_steps)

pub GoesBack-fewer : (edge : Edges) (left : List ℕ) (start at : ℕ) (trail : List ℕ) → GoesBack edge left start at trail → suc (length left) - length (trail ++ at ∷ []) < suc (length left) - length trail
GoesBack-fewer edge left start at trail h =
    omega (arith, back_positive edge left (suc (length left) - length trail) at (reverse trail) h.real, longer trail at)

pub GoesBack-turn : (edge : Edges) (left : List ℕ) (start at a : ℕ) (trail : List ℕ) → GoesBack edge left start at trail → inside at trail ≡ false → predecessor edge left at ≡ Some a → GoesBack edge left start a (trail ++ at ∷ [])
GoesBack-turn edge left start at a trail h i e =
    let turn = back_turn edge left (suc (length left) - length trail) at a (reverse trail) (inside-reverse at trail ∙ i) e h.real in
    let steps : suc (length left) - length (trail ++ at ∷ []) ≡ suc (length left) - length trail - 1 = omega (arith, longer trail at) in
    let as_one : cycle_back edge left (suc (length left) - length (trail ++ at ∷ [])) a (reverse (trail ++ at ∷ [])) ≡ cycle_back edge left (suc (length left) - length trail) at (reverse trail) = rw (steps, reverse-append trail (at ∷ [])) turn in
    record { same = as_one ∙ h.same; real = rw as_one h.real }

pub GoesBack-end : (edge : Edges) (left : List ℕ) (start at : ℕ) (trail : List ℕ) → GoesBack edge left start at trail → inside at trail ≡ true → up_to at (reverse trail) ≡ cycle_back edge left (suc (length left)) start []
GoesBack-end edge left start at trail h i =
    sym (back_end edge left (suc (length left) - length trail) at (reverse trail) (inside-reverse at trail ∙ i) h.real) ∙ h.same

-- the named cycle begins its way back at the first that remains
pub named_from : (edge : Edges) (left : List ℕ) (start : ℕ) → find (λ x. true) left ≡ Some start → named_cycle edge left ≡ from_earliest (cycle_back edge left (suc (length left)) start [])
unfolding named_cycle
named_from edge [] start e = cc
named_from edge (x ∷ left) start e =
    let same : x ≡ start = cc in
    ap (λ s. from_earliest (cycle_back edge (x ∷ left) (suc (length (x ∷ left))) s [])) same
