-- For proofs: the graph in which all functions of a chain are in one branch, one after another.
use Rattle.std.specs.Prelude.{◌==◌, ℕ, zero, suc, Bool, List, [], ◌∷◌, length}
use Rattle.std.specs.List.{list_all, range_with_len}
use Rattle.action_profile.specs.FieldSets.{all_fields}
use Rattle.action_profile.specs.Modes.{copies}
use Rattle.action_profile.specs.declared.rights.Profile.{Profile}
use Rattle.graph_compile.specs.declared.graph.Branch.{Branch}
use Rattle.graph_compile.specs.declared.graph.Graph.{Graph}
use Rattle.graph_compile.specs.declared.graph.Stage.{Stage}
use Rattle.graph_compile.specs.Stages.{finished}

-- the branch of this number of functions, if there is one
abbrev pub row_of : ℕ → List Branch
row_of zero = []
row_of (suc n) = record { positions = range_with_len 1 (suc n) } ∷ []

abbrev pub graph_in_a_row : List Profile → Graph
graph_in_a_row chain = finished chain (record { stages = []; branches = row_of (length chain) })

-- no field of a packet is copied in one stage, and in any
abbrev pub stage_copies_nothing : Stage → Bool
stage_copies_nothing stage = list_all (λ f. copies stage.parts f == 0) all_fields

abbrev pub copies_nothing : List Stage → Bool
copies_nothing stages = list_all stage_copies_nothing stages
