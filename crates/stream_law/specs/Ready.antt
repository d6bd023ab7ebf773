-- For proofs: a burst of packets that may begin its way through a graph.
use Rattle.std.specs.Prelude.{◌≡◌, ◌≤◌, ℕ, List, length, All, Some, slice_get}
use Rattle.action_profile.specs.declared.rights.Profile.{Profile}
use Rattle.chain_walk.specs.Step.{Behaviour}
use Rattle.graph_compile.specs.declared.graph.Graph.{Graph}
use Rattle.packet_version.specs.Splitting.{IsWhole, packet_parts}
use Rattle.merge_ops.specs.declared.merging.Merged.{Merged}
use Rattle.merge_ops.specs.declared.merging.Merged.TheVariants.{Whole, Gone, Short}
use Rattle.graph_run.specs.Running.{IsRunning, profiles_of}
use Rattle.graph_run.specs.Stages.{GoesFrom}

-- the parts of a packet are those of its frame
abbrev pub Fits : Merged → Type 0
Fits (Whole whole) = IsWhole (packet_parts whole) whole.rest
Fits (Gone p) = Unit {0}
Fits Short = Unit {0}

-- a packet may go on from this position, or was dropped; no packet of a run is short
abbrev pub MayEnter : List Profile → ℕ → Merged → Type 0
MayEnter chain position (Whole whole) = GoesFrom chain position whole
MayEnter chain position (Gone p) = Unit {0}
MayEnter chain position Short = ⊥

-- so may all packets of a burst
abbrev pub AllEnter : List Profile → ℕ → List Merged → Type 0
AllEnter chain position packets = (k : ℕ) (m : Merged) → slice_get packets k ≡ Some m → MayEnter chain position m

-- The functions run in this graph, and the packets, which are not too many, may enter its first stage.
pub record IsReadyBurst {F : Type 0} (b : Behaviour F) (graph : Graph) (functions : List F) (packets : List Merged) : Type 0 where
  pub running : IsRunning b functions graph
  pub enter : AllEnter (profiles_of b functions) 1 packets
  pub fits : All Fits packets
  pub few : length packets ≤ 65536
