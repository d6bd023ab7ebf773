-- For proofs: the stages of a graph, each branch with the functions that it owns.
use Rattle.std.specs.Prelude.{ℕ, List, [], ◌∷◌}
use Rattle.chain_walk.specs.Step.{Behaviour}
use Rattle.graph_compile.specs.declared.graph.Branch.{Branch}
use Rattle.graph_compile.specs.declared.graph.Stage.{Stage}
use Rattle.stage_nodes.specs.Streams.{PlainStage}
use Rattle.stream_law.specs.Owned.{PlainOwned, any_counts}

-- the branches of a stage, for a burst of this number of packets
unfoldable pub works_in : {F N : Type 0} → Behaviour F → List Branch → List (List F) → ℕ → List (PlainOwned F N)
works_in b [] owns n = []
works_in b (x ∷ branches) [] n = []
works_in b (x ∷ branches) (own ∷ owns) n =
    record { functions = own; positions = x.positions; packets = n; counts = any_counts b own; seen = 0; listed = [] } ∷ works_in b branches owns n

-- and the stages of a graph
unfoldable pub works_of : {F N : Type 0} → Behaviour F → List Stage → List (List (List F)) → ℕ → List (PlainStage (PlainOwned F N))
works_of b [] owned n = []
works_of b (s ∷ stages) [] n = []
works_of b (s ∷ stages) (owns ∷ owned) n = record { parts = s.parts; branches = works_in b s.branches owns n } ∷ works_of b stages owned n
