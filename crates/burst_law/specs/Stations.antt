-- For proofs: values on their way through stations, each of which is in the state in which the value before left it.
use Rattle.std.specs.Prelude.{ℕ, ◌+◌, List, [], ◌∷◌, slice_get, filter_map}
use Rattle.std.specs.List.{sum_by}

-- The state that a step leaves, and what it gives.
pub record Turn (S Y : Type 0) : Type 0 where
  pub state : S
  pub gives : Y

abbrev pub then_gives : {S Y : Type 0} → Y → Turn S (List Y) → Turn S (List Y)
then_gives y rest = record { state = rest.state; gives = y ∷ rest.gives }

abbrev pub then_state : {S Y : Type 0} → S → Turn (List S) Y → Turn (List S) Y
then_state s rest = record { state = s ∷ rest.state; gives = rest.gives }

abbrev pub then_both : {S Y : Type 0} → Turn S Y → Turn (List S) (List Y) → Turn (List S) (List Y)
then_both t rest = record { state = t.state ∷ rest.state; gives = t.gives ∷ rest.gives }

-- one value after another
unfoldable pub one_by_one : {S X Y : Type 0} → (S → X → Turn S Y) → S → List X → Turn S (List Y)
one_by_one step s [] = record { state = s; gives = [] }
one_by_one step s (x ∷ xs) = then_gives (step s x).gives (one_by_one step (step s x).state xs)

-- all values through one station, and then all through the next
unfoldable pub along : {P S X : Type 0} → (P → S → List X → Turn S (List X)) → List P → List S → List X → Turn (List S) (List X)
along step [] ss xs = record { state = ss; gives = xs }
along step (p ∷ ps) [] xs = record { state = []; gives = xs }
along step (p ∷ ps) (s ∷ ss) xs = then_state (step p s xs).state (along step ps ss (step p s xs).gives)

-- the same value to stations side by side
unfoldable pub beside : {P S X Y : Type 0} → (P → S → X → Turn S Y) → List P → List S → X → Turn (List S) (List Y)
beside step [] ss x = record { state = ss; gives = [] }
beside step (p ∷ ps) [] x = record { state = []; gives = [] }
beside step (p ∷ ps) (s ∷ ss) x = then_both (step p s x) (beside step ps ss x)

-- what each station gave for the value at this place, counted from 0
abbrev pub across : {Y : Type 0} → ℕ → List (List Y) → List Y
across k streams = filter_map (λ stream. slice_get stream k) streams

-- the weight of all values, each at each station that it reaches
unfoldable pub weight_along : {P S X : Type 0} → (P → S → List X → Turn S (List X)) → (P → X → ℕ) → List P → List S → List X → ℕ
weight_along step weigh [] ss xs = 0
weight_along step weigh (p ∷ ps) [] xs = 0
weight_along step weigh (p ∷ ps) (s ∷ ss) xs = sum_by (weigh p) xs + weight_along step weigh ps ss (step p s xs).gives
