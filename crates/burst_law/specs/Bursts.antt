-- For proofs: a burst of packets through the stages of a graph: every branch takes all packets, in their order.
use Rattle.std.specs.Prelude.{ℕ, suc, List, [], ◌∷◌, zip}
use Rattle.action_profile.specs.declared.parts.Touch.{Touch}
use Rattle.chain_walk.specs.Shown.{Values}
use Rattle.chain_walk.specs.Step.{Behaviour}
use Rattle.chain_walk.specs.FieldWalk.{End, End.Out, End.Gone, walk_fields}
use Rattle.chain_walk.specs.declared.fixed.Fixed.{Fixed}
use Rattle.graph_compile.specs.declared.graph.Branch.{Branch}
use Rattle.graph_compile.specs.declared.graph.Stage.{Stage}
use Rattle.graph_law.specs.Branches.{BranchEnd, BranchEnd.Nil, dealt}
use Rattle.graph_law.specs.Merging.{merged}
use Rattle.burst_law.specs.Owned.{turned}
use Rattle.burst_law.specs.Stations.{Turn, one_by_one, along, beside, across}

-- A packet between stages: its fields' values and those that no function writes, or the position that dropped it.
pub data Message : Type 0 where
  Here : (fixed : Fixed) (values : Values) → Message
  Lost : (position : ℕ) → Message

-- a packet that ended so
abbrev pub ended : Fixed → End → Message
ended fixed (Out values) = Here fixed values
ended fixed (Gone p) = Lost p

-- what becomes of a packet after a stage
abbrev pub behind : Message → List BranchEnd → Message
behind (Here fixed values) arrivals = ended fixed (merged values arrivals)
behind (Lost p) arrivals = Lost p

-- a branch, which gets what it touches of a packet; a dropped packet passes as such
abbrev pub branch_turn : {F : Type 0} → Behaviour F → Branch × Touch → List F → Message → Turn (List F) BranchEnd
branch_turn b x fs (Here fixed values) = turned b fixed x.0.positions fs (dealt x.1 values)
branch_turn b x fs (Lost p) = record { state = fs; gives = Nil p }

-- a branch and all packets
abbrev pub branch_stream : {F : Type 0} → Behaviour F → Branch × Touch → List F → List Message → Turn (List F) (List BranchEnd)
branch_stream b x fs ms = one_by_one (branch_turn b x) fs ms

-- what becomes of the packets from this place on, for which each branch gave these results
abbrev pub merged_from : ℕ → List Message → List (List BranchEnd) → List Message
merged_from k [] streams = []
merged_from k (m ∷ ms) streams = behind m (across k streams) ∷ merged_from (suc k) ms streams

-- the branches of a stage, each with all packets
abbrev pub stage_streams : {F : Type 0} → Behaviour F → Stage → List (List F) → List Message → Turn (List (List F)) (List (List BranchEnd))
stage_streams b stage own ms = beside (branch_stream b) (zip stage.branches stage.parts.touches) own ms

-- and what becomes of the packets after them
unfoldable pub stage_burst : {F : Type 0} → Behaviour F → Stage → List (List F) → List Message → Turn (List (List F)) (List Message)
stage_burst b stage own ms = record {
  state = (stage_streams b stage own ms).state;
  gives = merged_from 0 ms (stage_streams b stage own ms).gives;
}

-- all packets through one stage, and then all through the next
abbrev pub graph_burst : {F : Type 0} → Behaviour F → List Stage → List (List (List F)) → List Message → Turn (List (List (List F))) (List Message)
graph_burst b stages own ms = along (stage_burst b) stages own ms

-- the walk of a packet, if it is still there, from the function at this position on
abbrev pub chain_turn : {F : Type 0} → Behaviour F → ℕ → List F → Message → Turn (List F) Message
chain_turn b position fs (Here fixed values) = record {
  state = (walk_fields b fixed position fs values).functions;
  gives = ended fixed (walk_fields b fixed position fs values).end;
}
chain_turn b position fs (Lost p) = record { state = fs; gives = Lost p }

-- packets that walk through a chain, one after another
abbrev pub chain_burst : {F : Type 0} → Behaviour F → List F → List Message → Turn (List F) (List Message)
chain_burst b fs ms = one_by_one (chain_turn b 1) fs ms
