-- For proofs: stages that follow each other, each from the position of its first function on.
use Rattle.std.specs.Prelude.{◌≡◌, ◌+◌, ◌<◌, ◌≤◌, ℕ, true, List, [], ◌∷◌, length, sum_by, count_by}
use Rattle.std.specs.List.{AllByRecursion}
use Rattle.action_profile.specs.declared.rights.Profile.{Profile}
use Rattle.graph_compile.specs.declared.graph.Branch.{Branch}
use Rattle.graph_compile.specs.declared.graph.Stage.{Stage}
use Rattle.graph_compile.specs.Facts.{rises}
use Rattle.graph_compile.specs.Parts.{stage_parts}
use Rattle.graph_compile.specs.Positions.{holds}
use Rattle.graph_compile.specs.Stages.{is_forbidden}

-- this number of functions
abbrev pub size : List Branch → ℕ
size branches = sum_by (λ b. length b.positions) branches

-- positions rise, from this one on
pub record Rises (first : ℕ) (b : Branch) : Type 0 where
  pub rises : rises first b.positions ≡ true

-- no position of a branch is as high as this one
pub record EndsBelow (high : ℕ) (b : Branch) : Type 0 where
  pub below : (q : ℕ) → holds q b ≡ true → q < high

-- each function is in the branch of those that are forbidden before it, as far as they are in this stage
pub record Joins (chain : List Profile) (first : ℕ) (b : Branch) : Type 0 where
  pub joins : (q r : ℕ) → holds r b ≡ true → first ≤ q → q < r → is_forbidden chain q r ≡ true → holds q b ≡ true

-- the branches of a stage that has the positions from one on, up to another
pub record Stands (chain : List Profile) (first next : ℕ) (bs : List Branch) : Type 0 where
  pub count : first + size bs ≡ next
  pub rise : AllByRecursion (Rises first) bs
  pub end : AllByRecursion (EndsBelow next) bs
  pub once : (q : ℕ) → first ≤ q → q < next → count_by (holds q) bs ≡ 1
  pub join : AllByRecursion (Joins chain first) bs

pub record IsLawfulStage (chain : List Profile) (first : ℕ) (stage : Stage) : Type 0 where
  pub stands : Stands chain first (first + size stage.branches) stage.branches
  pub parts : stage.parts ≡ stage_parts chain stage.branches

-- stages that follow each other: the first begins at one position, and the last ends before another
unfoldable pub IsStaged : List Profile → ℕ → List Stage → ℕ → Type 0
IsStaged chain first [] next = first ≡ next
IsStaged chain first (s ∷ stages) next = IsLawfulStage chain first s × IsStaged chain (first + size s.branches) stages next
