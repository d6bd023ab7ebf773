-- For proofs: the functions of a chain, split among the branches that own them.
use Rattle.std.specs.Prelude.{ℕ, ◌-◌, List, [], ◌∷◌, map, filter_map, slice_get}
use Rattle.chain_walk.specs.Step.{Behaviour}
use Rattle.chain_walk.specs.declared.fixed.Fixed.{Fixed}
use Rattle.graph_compile.specs.declared.graph.Branch.{Branch}
use Rattle.graph_compile.specs.declared.graph.Stage.{Stage}
use Rattle.graph_law.specs.Branches.{BranchEnd, moved_function, moved_end}
use Rattle.burst_law.specs.Stations.{Turn, then_state}

-- the functions at these positions of a chain, which count from 1
abbrev pub owned : {F : Type 0} → List ℕ → List F → List F
owned positions fs = filter_map (λ q. slice_get fs (q - 1)) positions

-- those of each branch
abbrev pub owned_in : {F : Type 0} → List Branch → List F → List (List F)
owned_in branches fs = map (λ x. owned x.positions fs) branches

-- stage by stage
abbrev pub owned_by : {F : Type 0} → List Stage → List F → List (List (List F))
owned_by stages fs = map (λ s. owned_in s.branches fs) stages

-- the functions of a branch, which have these positions, one after another on what arrives
unfoldable pub turned : {F : Type 0} → Behaviour F → Fixed → List ℕ → List F → BranchEnd → Turn (List F) BranchEnd
turned b fixed [] fs a = record { state = fs; gives = a }
turned b fixed (q ∷ qs) [] a = record { state = []; gives = a }
turned b fixed (q ∷ qs) (f ∷ fs) a = then_state (moved_function b fixed f a) (turned b fixed qs fs (moved_end b fixed q f a))
