-- For proofs: the nodes of a branch that keeps no state, one for each merger.
use Rattle.std.specs.Prelude.{◌≡◌, ℕ, List, length, All}
use Rattle.packet_version.specs.Versions.{PlainVersion}
use Rattle.packet_messages.specs.Messages.{PlainMessage}
use Rattle.packet_messages.specs.Turns.{shares_from}
use Rattle.stage_nodes.specs.Streams.{Kit, KeepsNothing, ran}
use Rattle.stage_nodes.specs.Flows.{MayTakeAll}

-- these are the same functions, this number of times
pub record AreReplicas {F : Type 0} (k : Kit F) (f : F) (count : ℕ) (replicas : List F) : Type 0 where
  pub many : length replicas ≡ count
  pub same : All (λ replica. replica ≡ f) replicas
  pub nothing : KeepsNothing k f

-- the ends of `c` nodes, for the mergers from `i` on, of `m`, which share these versions
pub record ReplicasFit {F : Type 0} (k : Kit F) (may : F → ℕ → PlainVersion → Type 0) (f : F) (m i c count : ℕ) (versions : List (PlainMessage PlainVersion)) (inlets : List (List (PlainMessage PlainVersion))) (ends : List (List (PlainMessage PlainVersion))) : Type 0 where
  pub many : length versions ≡ count
  pub nothing : KeepsNothing k f
  pub take : MayTakeAll k may f 0 versions
  pub takes : inlets ≡ shares_from m i c versions
  pub gives : ends ≡ shares_from m i c (ran k f versions)
