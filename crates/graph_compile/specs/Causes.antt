-- For proofs: why functions share a branch, and why a stage is closed.
use Rattle.std.specs.Prelude.{◌≡◌, ◌≤◌, ℕ, suc, true, List, [], ◌∷◌, Some, take, count_by, slice_get, slice_index}
use Rattle.std.specs.List.{list_any}
use Rattle.action_profile.specs.declared.rights.Profile.{Profile}
use Rattle.graph_compile.specs.declared.graph.Branch.{Branch}
use Rattle.graph_compile.specs.declared.graph.Stage.{Stage}
use Rattle.graph_compile.specs.Stages.{is_forbidden, holds_back}

-- a function that isn't first in its branch is there because one before it in the branch is forbidden before it
abbrev pub IsJoinedForCause : List Profile → List Stage → Type 0
IsJoinedForCause chain stages = (i j k : ℕ) (s : Stage) (b : Branch) (r : ℕ) → slice_get stages i ≡ Some s → slice_get s.branches j ≡ Some b →
    slice_get b.positions (suc k) ≡ Some r → list_any (λ q. is_forbidden chain q r) (take (suc k) b.positions) ≡ true

-- the function that opens a stage
abbrev pub opener : List Branch → ℕ
opener [] = 0
opener (b ∷ branches) = slice_index b.positions 0

-- a stage is closed only if two of its branches hold a function forbidden before the one that opens the next stage
abbrev pub IsClosedForCause : List Profile → List Stage → Type 0
IsClosedForCause chain stages = (i : ℕ) (s t : Stage) → slice_get stages i ≡ Some s → slice_get stages (suc i) ≡ Some t → 2 ≤ count_by (holds_back chain (opener t.branches)) s.branches
