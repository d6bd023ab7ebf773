-- For proofs: what a lawful graph is, in five facts.
use Rattle.std.specs.Prelude.{◌≡◌, ◌≢◌, ◌<◌, ◌≤◌, ◌⊎◌, ◌==◌, ◌&&◌, ℕ, suc, Bool, true, false, nat_le, List, [], ◌∷◌, length, Some, count_by, flat_map, slice_get, IsTrue}
use Rattle.action_profile.specs.declared.rights.Profile.{Profile}
use Rattle.graph_compile.specs.declared.graph.Branch.{Branch}
use Rattle.graph_compile.specs.declared.graph.Graph.{Graph}
use Rattle.graph_compile.specs.declared.graph.Stage.{Stage}
use Rattle.graph_compile.specs.Parts.{stage_parts}
use Rattle.graph_compile.specs.Positions.{holds, stands}
use Rattle.graph_compile.specs.Stages.{is_forbidden}

-- the positions of branches, and of stages
abbrev pub positions_of : List Branch → List ℕ
positions_of branches = flat_map (λ b. b.positions) branches

abbrev pub all_positions : List Stage → List ℕ
all_positions stages = positions_of (flat_map (λ s. s.branches) stages)

-- how often a number occurs in a list
abbrev pub times : ℕ → List ℕ → ℕ
times q qs = count_by (λ x. x == q) qs

-- positions rise, the first being at least this one
abbrev pub rises : ℕ → List ℕ → Bool
rises low [] = true
rises low (q ∷ qs) = nat_le low q && rises (suc q) qs

-- positions rise within each branch
abbrev pub AreRising : List Branch → Type 0
AreRising branches = (j : ℕ) (b : Branch) → slice_get branches j ≡ Some b → IsTrue (rises 0 b.positions)

-- of two functions in different branches, the earlier one in the chain isn't forbidden before the other
abbrev pub AreApart : List Profile → List Branch → Type 0
AreApart chain branches = (j k : ℕ) (b c : Branch) → j ≢ k → slice_get branches j ≡ Some b → slice_get branches k ≡ Some c →
    (q r : ℕ) → IsTrue (holds q b) → IsTrue (holds r c) → q < r → is_forbidden chain q r ≡ false

-- every position of a stage is below every position of another
abbrev pub IsBelow : Stage → Stage → Type 0
IsBelow s t = (q r : ℕ) → IsTrue (stands q s) → IsTrue (stands r t) → q < r

pub record IsLawful (graph : Graph) (chain : List Profile) : Type 0 where
  -- each position of the chain occurs once, and no other number occurs
  pub each_once : (q : ℕ) → 1 ≤ q → q ≤ length chain → times q (all_positions graph.stages) ≡ 1
  pub no_other : (q : ℕ) → (q < 1) ⊎ (length chain < q) → times q (all_positions graph.stages) ≡ 0
  -- positions rise within each branch
  pub rising : (i : ℕ) (s : Stage) → slice_get graph.stages i ≡ Some s → AreRising s.branches
  -- every position of a stage is below every position of the next
  pub below : (i : ℕ) (s t : Stage) → slice_get graph.stages i ≡ Some s → slice_get graph.stages (suc i) ≡ Some t → IsBelow s t
  -- no function is forbidden before another in a different branch of its stage
  pub apart : (i : ℕ) (s : Stage) → slice_get graph.stages i ≡ Some s → AreApart chain s.branches
  -- each stage's parts are those of its branches
  pub parts : (i : ℕ) (s : Stage) → slice_get graph.stages i ≡ Some s → s.parts ≡ stage_parts chain s.branches

-- each stage has a branch, and each branch a function
pub record IsFull (graph : Graph) : Type 0 where
  pub branches : (i : ℕ) (s : Stage) → slice_get graph.stages i ≡ Some s → 0 < length s.branches
  pub functions : (i j : ℕ) (s : Stage) (b : Branch) → slice_get graph.stages i ≡ Some s → slice_get s.branches j ≡ Some b → 0 < length b.positions
