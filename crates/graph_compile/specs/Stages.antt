-- Believed: which functions of a chain run side by side: each in turn is put into the open stage if possible.
use Rattle.std.specs.Prelude.{ℕ, zero, suc, Bool, false, not, if◌then◌else◌, List, [], ◌∷◌, ◌++◌, length, Option, Some, map, fold, count_by}
use Rattle.std.specs.List.{list_any, range_with_len}
use Rattle.action_profile.specs.declared.rights.Profile.{Profile}
use Rattle.dependency_table.specs.Table.{pair_of, is_allowed}
use Rattle.graph_compile.specs.declared.draft.Draft.{Draft}
use Rattle.graph_compile.specs.declared.graph.Branch.{Branch}
use Rattle.graph_compile.specs.declared.graph.Graph.{Graph}
use Rattle.graph_compile.specs.declared.graph.Stage.{Stage}
use Rattle.graph_compile.specs.Parts.{profile_at, stage_parts}

abbrev pub is_forbidden_pair : Option Profile → Option Profile → Bool
is_forbidden_pair (Some x) (Some y) = not (is_allowed (pair_of x y))
is_forbidden_pair x y = false

-- the function at one position may not be beside the one at a later position
unfoldable pub is_forbidden : List Profile → ℕ → ℕ → Bool
is_forbidden chain earlier later = is_forbidden_pair (profile_at chain earlier) (profile_at chain later)

-- a branch holds a function that is forbidden before this one
unfoldable pub holds_back : List Profile → ℕ → Branch → Bool
holds_back chain position branch = list_any (λ q. is_forbidden chain q position) branch.positions

-- a branch of one function, and a branch with one more
abbrev pub alone : ℕ → Branch
alone position = record { positions = position ∷ [] }

abbrev pub longer : Branch → ℕ → Branch
longer branch position = record { positions = branch.positions ++ position ∷ [] }

abbrev pub grown : List Profile → ℕ → Branch → Branch
grown chain position branch = if holds_back chain position branch then longer branch position else branch

abbrev pub stage_of : List Profile → List Branch → Stage
stage_of chain branches = record { branches = branches; parts = stage_parts chain branches }

-- no stage is closed or open yet
abbrev pub nothing_placed : Draft
nothing_placed = record { stages = []; branches = [] }

-- The next function: if no branch holds it back, it opens a branch; if one does, it joins it; else it opens a stage.
abbrev pub placed_by : ℕ → List Profile → Draft → ℕ → Draft
placed_by zero chain draft position = record draft { branches = draft.branches ++ alone position ∷ [] }
placed_by (suc zero) chain draft position = record draft { branches = map (grown chain position) draft.branches }
placed_by (suc (suc more)) chain draft position = record { stages = draft.stages ++ stage_of chain draft.branches ∷ []; branches = alone position ∷ [] }

unfoldable pub placed : List Profile → Draft → ℕ → Draft
placed chain draft position = placed_by (count_by (holds_back chain position) draft.branches) chain draft position

-- the stages, with the open one if it has a branch
abbrev pub all_stages : List Profile → List Stage → List Branch → List Stage
all_stages chain stages [] = stages
all_stages chain stages (b ∷ bs) = stages ++ stage_of chain (b ∷ bs) ∷ []

abbrev pub finished : List Profile → Draft → Graph
finished chain draft = record { stages = all_stages chain draft.stages draft.branches }

-- the graph of a chain: its functions are placed one after another
unfoldable pub graph_of : List Profile → Graph
graph_of chain = finished chain (fold (placed chain) nothing_placed (range_with_len 1 (length chain)))
