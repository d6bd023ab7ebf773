-- Believed: the cycle that is named if functions remain of which none can be taken.
use Rattle.std.specs.Prelude.{ℕ, zero, suc, ◌==◌, nat_le, if◌then◌else◌, List, [], ◌∷◌, ◌++◌, length, take, drop, Option, find, position, unwrap_or}
use Rattle.std.specs.List.{list_any, list_all}
use Rattle.std.specs.Option.{option_map_or}
use Rattle.policy_check.specs.Edges.{Edges}

-- the earliest declared predecessor that remains
abbrev pub predecessor : Edges → List ℕ → ℕ → Option ℕ
predecessor edge left x = find (λ a. edge a x) left

-- the front of a trail up to x
abbrev pub up_to : ℕ → List ℕ → List ℕ
up_to x [] = []
up_to x (y ∷ ys) = if y == x then y ∷ [] else y ∷ up_to x ys

-- Goes back from x to its earliest predecessor, and so on, until a function comes again. The trail
-- has those that were passed, the newest first, so that each has an edge to the next. The cycle is
-- its front, up to the function that came again.
unfoldable pub cycle_back : Edges → List ℕ → ℕ → ℕ → List ℕ → List ℕ
cycle_back edge left zero x trail = []
cycle_back edge left (suc steps) x trail =
    if list_any (λ y. y == x) trail
    then up_to x trail
    else option_map_or (λ a. cycle_back edge left steps a (x ∷ trail)) (predecessor edge left x) []

-- the place of the earliest declared: none in the list comes before it
abbrev pub earliest_place : List ℕ → ℕ
earliest_place cycle = unwrap_or (position (λ x. list_all (λ y. nat_le x y) cycle) cycle) 0

-- the same cycle, listed from the earliest declared
unfoldable pub from_earliest : List ℕ → List ℕ
from_earliest cycle = drop (earliest_place cycle) cycle ++ take (earliest_place cycle) cycle

-- the cycle that is found from the earliest declared of those that remain
unfoldable pub named_cycle : Edges → List ℕ → List ℕ
named_cycle edge [] = []
named_cycle edge (x ∷ left) =
    from_earliest (cycle_back edge (x ∷ left) (suc (length (x ∷ left))) x [])
