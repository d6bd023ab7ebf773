-- For proofs: the copies that a graph makes of a burst.
use Rattle.std.specs.Prelude.{ℕ, List, [], ◌∷◌, if◌then◌else◌, is_some, zip}
use Rattle.std.specs.List.{sum_by}
use Rattle.packet_fields.specs.declared.field.Field.{Field}
use Rattle.action_profile.specs.Modes.{copies}
use Rattle.chain_walk.specs.Step.{Behaviour}
use Rattle.graph_compile.specs.Positions.{stands}
use Rattle.graph_compile.specs.declared.graph.Stage.{Stage}
use Rattle.burst_law.specs.Stations.{weight_along}
use Rattle.burst_law.specs.Bursts.{Message, Message.Here, Message.Lost, stage_burst, chain_burst}

-- the copies of a field that a stage makes of a packet
abbrev pub due_in : Field → Stage → Message → ℕ
due_in f stage (Here fixed values) = if is_some (values f) then copies stage.parts f else 0
due_in f stage (Lost p) = 0

-- The stages that a packet with this end reaches: all if it goes out, and else those up to the one with the
-- function that dropped it.
abbrev pub reached_by : List Stage → Message → List Stage
reached_by [] end = []
reached_by (s ∷ later) (Here fixed values) = s ∷ reached_by later (Here fixed values)
reached_by (s ∷ later) (Lost p) = s ∷ (if stands p s then [] else reached_by later (Lost p))

-- the copies of a field that are made of a packet that arrives so, and ends so
abbrev pub copies_for : List Stage → Field → Message → Message → ℕ
copies_for stages f (Here fixed values) end = if is_some (values f) then sum_by (λ s. copies s.parts f) (reached_by stages end) else 0
copies_for stages f (Lost p) end = 0

-- for packets that walk through the chain
abbrev pub chain_copies : {F : Type 0} → Behaviour F → List Stage → Field → List F → List Message → ℕ
chain_copies b stages f fs ms = sum_by (λ x. copies_for stages f x.0 x.1) (zip ms (chain_burst b fs ms).gives)

-- for a burst, stage by stage
abbrev pub graph_copies : {F : Type 0} → Behaviour F → List Stage → Field → List (List (List F)) → List Message → ℕ
graph_copies b stages f own ms = weight_along (stage_burst b) (due_in f) stages own ms
