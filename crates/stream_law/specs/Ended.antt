-- For proofs: a burst of packets in parts after all stages of a graph.
use Rattle.std.specs.Prelude.{◌≡◌, ℕ, List, map}
use Rattle.chain_walk.specs.Step.{Behaviour}
use Rattle.merge_ops.specs.declared.merging.Merged.{Merged}
use Rattle.burst_law.specs.Bursts.{chain_burst}
use Rattle.burst_law.specs.Copies.{chain_copies}
use Rattle.graph_run.specs.Counting.{RaisesAll}
use Rattle.graph_run.specs.Running.{PlainRunning}
use Rattle.stream_law.specs.Rests.{KeepsRests}
use Rattle.stream_law.specs.Messages.{as_message}

-- Packets in parts ended as those of a burst that walks through the chain, and the functions were left so. What is left
-- of a frame without its fields stays, and the counts rose by the copies that were made.
pub record HasEnded {F : Type 0} (b : Behaviour F) (run : PlainRunning F) (apart : List Merged) (functions : List F) (behind : List Merged) (old new : List ℕ) : Type 0 where
  pub functions_are : functions ≡ (chain_burst b run.functions (map as_message apart)).state
  pub packets_are : map as_message behind ≡ (chain_burst b run.functions (map as_message apart)).gives
  pub rests : KeepsRests apart behind
  pub counted : RaisesAll (λ f. chain_copies b run.graph.stages f run.functions (map as_message apart)) old new
