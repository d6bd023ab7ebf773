-- Believed: the order of a chain: at each turn the earliest declared function whose predecessors are all taken.
use Rattle.std.specs.Prelude.{ℕ, zero, suc, Bool, ◌==◌, not, List, [], ◌∷◌, Option, filter, find}
use Rattle.std.specs.List.{list_any}
use Rattle.std.specs.Option.{option_map_or}
use Rattle.policy_check.specs.Edges.{Edges}

-- one of those that wait has an edge to x
abbrev pub is_held : Edges → List ℕ → ℕ → Bool
is_held edge waiting x = list_any (λ a. edge a x) waiting

-- the first of those that wait, in declared order, whose predecessors are all taken
abbrev pub ready : Edges → List ℕ → Option ℕ
ready edge waiting = find (λ x. not (is_held edge waiting x)) waiting

abbrev pub without : ℕ → List ℕ → List ℕ
without x waiting = filter (λ y. not (y == x)) waiting

-- those that are taken in this number of turns, in order
unfoldable pub taken : Edges → ℕ → List ℕ → List ℕ
taken edge zero waiting = []
taken edge (suc turns) waiting =
    option_map_or (λ x. x ∷ taken edge turns (without x waiting)) (ready edge waiting) []

-- those that still wait after that
unfoldable pub stuck : Edges → ℕ → List ℕ → List ℕ
stuck edge zero waiting = waiting
stuck edge (suc turns) waiting =
    option_map_or (λ x. stuck edge turns (without x waiting)) (ready edge waiting) waiting
