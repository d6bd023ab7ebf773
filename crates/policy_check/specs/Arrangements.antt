-- For proofs: what an order and a cycle are, however they are found.
use Rattle.std.specs.Prelude.{◌<◌, ◌≤◌, ℕ, IsTrue, All, List, [], ◌∷◌, ◌++◌, length, take, slice_index, Contains, IsPermutation}
use Rattle.std.specs.List.{range_with_len}
use Rattle.policy_check.specs.declared.fault.CheckFault.{CheckFault}
use Rattle.policy_check.specs.declared.fault.CheckFault.TheVariants.{Cycle, PriorityForbidden, OutOfMemory}
use Rattle.policy_check.specs.Edges.{Edges}

-- each edge goes from an earlier place to a later one
abbrev pub RespectsEdges : Edges → List ℕ → Type 0
RespectsEdges edge order =
    (i j : ℕ) → i < length order → j < length order → IsTrue (edge (slice_index order i) (slice_index order j)) → i < j

-- each of this number of functions once, and every edge respected
pub record IsArrangement (edge : Edges) (count : ℕ) (order : List ℕ) : Type 0 where
  pub each_once : IsPermutation (range_with_len 0 count) order
  pub respects : RespectsEdges edge order

-- from x along the others each step is an edge
abbrev pub IsPath : Edges → ℕ → List ℕ → Type 0
IsPath edge x [] = Unit {0}
IsPath edge x (y ∷ ys) = IsTrue (edge x y) × IsPath edge y ys

-- each has an edge to the next, and the last to the first
abbrev pub IsCycle : Edges → List ℕ → Type 0
IsCycle edge [] = ⊥
IsCycle edge (x ∷ xs) = IsPath edge x (xs ++ x ∷ [])

-- none comes before the first
abbrev pub IsEarliestFirst : List ℕ → Type 0
IsEarliestFirst [] = ⊥
IsEarliestFirst (x ∷ xs) = All (λ y. x ≤ y) xs

-- a fault names functions below this number, and a cycle is one, listed from its earliest declared
abbrev pub IsSoundFault : Edges → ℕ → CheckFault → Type 0
IsSoundFault edge count (Cycle names) = IsCycle edge names × All (λ x. x < count) names × IsEarliestFirst names
IsSoundFault edge count (PriorityForbidden high low line first second) = (high < count) × (low < count)
IsSoundFault edge count OutOfMemory = Unit {0}

-- after this prefix the function may be taken: it isn't in it, and each function that has an edge to it is
pub record IsFree (edge : Edges) (count : ℕ) (front : List ℕ) (x : ℕ) : Type 0 where
  pub within : x < count
  pub waits : ¬ Contains front x
  pub follows : (a : ℕ) → a < count → IsTrue (edge a x) → Contains front a

-- it may be taken, and none that may be is declared before it
pub record IsEarliestFree (edge : Edges) (count : ℕ) (front : List ℕ) (x : ℕ) : Type 0 where
  pub free : IsFree edge count front x
  pub earliest : (y : ℕ) → IsFree edge count front y → x ≤ y

-- each place has the earliest declared of the functions that may be taken after those before it
abbrev pub TakesEarliest : Edges → ℕ → List ℕ → Type 0
TakesEarliest edge count order = (i : ℕ) → i < length order → IsEarliestFree edge count (take i order) (slice_index order i)
