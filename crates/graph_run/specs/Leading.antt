-- For proofs: what it means that packets ran through the graph of a chain.
use Rattle.std.specs.Prelude.{◌≡◌, ℕ, List, All, length}
use Rattle.chain_walk.specs.Packets.{Packet, fates as walked_fates, functions_after}
use Rattle.chain_walk.specs.Step.{Behaviour}
use Rattle.chain_walk.specs.Walk.{EndsWithin}
use Rattle.chain_walk.specs.declared.walk.Fate.{Fate}
use Rattle.graph_run.specs.Counting.{RaisesAll, copies_made}
use Rattle.graph_run.specs.Running.{PlainRunning}

-- Packets ended as if each walked through the functions of a chain, in the state in which the packet before left them.
-- The functions were left in that state, and their graph stays. A function that is named as the one that dropped a
-- packet is in the chain. The counts rose by the copies that the graph makes of the packets.
pub record Leads {F : Type 0} (b : Behaviour F) (run : PlainRunning F) (packets : List Packet) (old new : List ℕ) (after : PlainRunning F) (ended : List Fate) : Type 0 where
  pub fates : ended ≡ walked_fates b run.functions packets
  pub functions : after.functions ≡ functions_after b run.functions packets
  pub graph : after.graph ≡ run.graph
  pub within : All (EndsWithin (length run.functions)) ended
  pub counted : RaisesAll (copies_made run.graph.stages packets (walked_fates b run.functions packets)) old new
