-- The named cycle is a cycle, of functions of the chain.
use Rattle.std.proofs.Common.{◌≡◌, ◌≢◌, ℕ, suc, ◌<◌, true, List, [], ◌∷◌, ◌++◌, length, take, drop, None, refl, subst, arith, append_assoc, append-nil}
use Rattle.std.specs.Prelude.{All}
use Rattle.std.proofs.lemmas.Bool.Decides.{nat_tests}
use Rattle.std.proofs.lemmas.List.{take-append-drop}
use Rattle.std.proofs.lemmas.List.Elements.{All-from_recursion, All-append, All-take, All-drop, All-weaker}
use Rattle.policy_check.specs.Arrangements.{IsPath, IsCycle, IsEarliestFirst}
use Rattle.policy_check.specs.Checked.{left_of}
use Rattle.policy_check.specs.Cycles.{cycle_back, earliest_place, from_earliest, named_cycle}
use Rattle.policy_check.specs.Edges.{Edges}
use Rattle.policy_check.specs.Turns.{ready}
use Rattle.policy_check.proofs.Arranging.{all-inside, left-below, left-ready}
use Rattle.policy_check.proofs.Cycling.{cycle_from}
use Rattle.policy_check.proofs.Earliest.{from_earliest-first}
use Rattle.policy_check.proofs.Inside.{inside}

-- a path through b is one to b and one from b

path-split : (edge : Edges) (s b : ℕ) (us vs : List ℕ) → IsPath edge s (us ++ b ∷ vs) → IsPath edge s (us ++ b ∷ []) × IsPath edge b vs
path-split edge s b [] vs h = ((h.0, tt), h.1)
path-split edge s b (u ∷ us) vs h = let rest = path-split edge u b us vs h.1 in ((h.0, rest.0), rest.1)

path-join : (edge : Edges) (s b : ℕ) (us vs : List ℕ) → IsPath edge s (us ++ b ∷ []) → IsPath edge b vs → IsPath edge s (us ++ b ∷ vs)
path-join edge s b [] vs h k = (h.0, k)
path-join edge s b (u ∷ us) vs h k = (h.0, path-join edge u b us vs h.1 k)

-- a cycle may be listed from any of its functions
cycle-swap : (edge : Edges) (front back : List ℕ) → IsCycle edge (front ++ back) → IsCycle edge (back ++ front)
cycle-swap edge [] back h = rw (append-nil back) h
cycle-swap edge (x ∷ xs) [] h = let P : List ℕ → Type 0 = λ cycle. IsCycle edge cycle in subst P (append-nil (x ∷ xs)) h
cycle-swap edge (x ∷ xs) (y ∷ ys) h =
    let around : IsPath edge x ((xs ++ y ∷ ys) ++ x ∷ []) = h in
    let whole : IsPath edge x (xs ++ y ∷ (ys ++ x ∷ [])) = rw (append_assoc xs (y ∷ ys) (x ∷ [])) at around in
    let parts = path-split edge x y xs (ys ++ x ∷ []) whole in
    rw (append_assoc ys (x ∷ xs) (y ∷ [])) (path-join edge y x ys (xs ++ y ∷ []) parts.1 parts.0)

cycle-from : (edge : Edges) (place : ℕ) (cycle : List ℕ) → IsCycle edge cycle → IsCycle edge (drop place cycle ++ take place cycle)
cycle-from edge place cycle h =
    cycle-swap edge (take place cycle) (drop place cycle) (rw (take-append-drop place cycle) h)

named-real : (edge : Edges) (left : List ℕ) → ready edge left ≡ None → left ≢ [] → IsCycle edge (named_cycle edge left)
unfolding named_cycle from_earliest
named-real edge [] none some = absurd (some refl)
named-real edge (x ∷ left) none some =
    let here : inside x (x ∷ left) ≡ true = grind (arith, nat_tests) in
    let cycle = cycle_back edge (x ∷ left) (suc (length (x ∷ left))) x [] in
    cycle-from edge (earliest_place cycle) cycle (cycle_from edge (x ∷ left) x none here).0

named-inside : (edge : Edges) (left : List ℕ) → ready edge left ≡ None → All (λ y. inside y left ≡ true) (named_cycle edge left)
unfolding named_cycle from_earliest
named-inside edge [] none = All-from_recursion (λ y. inside y [] ≡ true) [] tt
named-inside edge (x ∷ left) none =
    let here : inside x (x ∷ left) ≡ true = grind (arith, nat_tests) in
    let cycle = cycle_back edge (x ∷ left) (suc (length (x ∷ left))) x [] in
    let P : ℕ → Type 0 = λ y. inside y (x ∷ left) ≡ true in
    let all = All-from_recursion P cycle (cycle_from edge (x ∷ left) x none here).1 in
    All-append P (drop (earliest_place cycle) cycle) (take (earliest_place cycle) cycle) (All-drop P (earliest_place cycle) cycle all) (All-take P (earliest_place cycle) cycle all)

pub named_cycle_real : (edge : Edges) (count : ℕ) → left_of edge count ≢ [] → IsCycle edge (named_cycle edge (left_of edge count))
named_cycle_real edge count some = named-real edge (left_of edge count) (left-ready edge count) some

pub named_cycle_below : (edge : Edges) (count : ℕ) → All (λ x. x < count) (named_cycle edge (left_of edge count))
named_cycle_below edge count =
    All-weaker (λ x. inside x (left_of edge count) ≡ true) (λ x. x < count) (λ x i. all-inside (λ x. x < count) (left_of edge count) x (left-below edge count) i) (named_cycle edge (left_of edge count)) (named-inside edge (left_of edge count) (left-ready edge count))

named-first : (edge : Edges) (left : List ℕ) → ready edge left ≡ None → left ≢ [] → IsEarliestFirst (named_cycle edge left)
unfolding named_cycle
named-first edge [] none some = absurd (some refl)
named-first edge (x ∷ left) none some =
    let here : inside x (x ∷ left) ≡ true = grind (arith, nat_tests) in
    let cycle = cycle_back edge (x ∷ left) (suc (length (x ∷ left))) x [] in
    let real = (cycle_from edge (x ∷ left) x none here).0 in
    let P : List ℕ → Type 0 = λ c. IsCycle edge c in
    from_earliest-first cycle (λ e. subst P e real)

pub named_cycle_first : (edge : Edges) (count : ℕ) → left_of edge count ≢ [] → IsEarliestFirst (named_cycle edge (left_of edge count))
named_cycle_first edge count some = named-first edge (left_of edge count) (left-ready edge count) some
