-- For proofs: the tests that show whether a graph is lawful.
use Rattle.std.specs.Prelude.{◌≡◌, ◌==◌, ◌-◌, ◌+◌, ◌&&◌, ◌||◌, ℕ, Bool, true, not, nat_le, nat_lt, List, length, Option, Some, count_by, slice_get, All}
use Rattle.std.specs.List.{list_any, list_all, range_with_len}
use Rattle.action_profile.specs.declared.rights.Profile.{Profile}
use Rattle.graph_compile.specs.declared.graph.Branch.{Branch}
use Rattle.graph_compile.specs.declared.graph.Stage.{Stage}
use Rattle.graph_compile.specs.Facts.{rises, positions_of, all_positions}
use Rattle.graph_compile.specs.Parts.{stage_parts}
use Rattle.graph_compile.specs.Positions.{holds, stands}
use Rattle.graph_compile.specs.Stages.{is_forbidden}

-- a position is in one stage, and in one of its branches
abbrev pub stands_once : ℕ → List Stage → Bool
stands_once position stages = (count_by (stands position) stages == 1) && list_all (λ s. nat_le (count_by (holds position) s.branches) 1) stages

-- each position below this one is
abbrev pub stand_once : ℕ → List Stage → Bool
stand_once end stages = list_all (λ q. stands_once q stages) (range_with_len 1 (end - 1))

-- no other number occurs
abbrev pub stand_within : ℕ → List Stage → Bool
stand_within end stages = list_all (λ q. nat_le 1 q && nat_lt q end) (all_positions stages)

-- each position of some branches is below each of others
abbrev pub are_below : List Branch → List Branch → Bool
are_below branches others = list_all (λ q. list_all (λ r. nat_lt q r) (positions_of others)) (positions_of branches)

-- each position of a stage is below each of the next
abbrev pub are_below_where : Option Stage → Option Stage → Bool
are_below_where (Some s) (Some t) = are_below s.branches t.branches
are_below_where s t = true

abbrev pub is_above_last : List Stage → ℕ → Bool
is_above_last stages i = are_below_where (slice_get stages (i - 1)) (slice_get stages i)

abbrev pub are_in_order : List Stage → Bool
are_in_order stages = list_all (is_above_last stages) (range_with_len 1 (length stages - 1))

-- a branch holds each function of its stage that is forbidden before this one
abbrev pub joins : List Profile → List Branch → Branch → ℕ → Bool
joins chain branches branch position = list_all (λ q. not (is_forbidden chain q position) || holds q branch || not (list_any (holds q) branches)) (range_with_len 0 position)

abbrev pub is_joined : List Profile → List Branch → Branch → Bool
is_joined chain branches branch = list_all (joins chain branches branch) branch.positions

-- what is required of each stage alone
pub record IsSound (chain : List Profile) (stage : Stage) : Type 0 where
  pub rising : list_all (λ b. rises 0 b.positions) stage.branches ≡ true
  pub joined : list_all (is_joined chain stage.branches) stage.branches ≡ true
  pub parts : stage.parts ≡ stage_parts chain stage.branches

pub record AreJudged (chain : List Profile) (stages : List Stage) : Type 0 where
  pub once : stand_once (length chain + 1) stages ≡ true
  pub within : stand_within (length chain + 1) stages ≡ true
  pub order : are_in_order stages ≡ true
  pub sound : All (IsSound chain) stages
