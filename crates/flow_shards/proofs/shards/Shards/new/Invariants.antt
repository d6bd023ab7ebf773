use Rattle.std.proofs.Common.{◌≡◌, List, [], map}
use Rattle.std.specs.List.{range_with_len}
use Rattle.flow_shards.specs.Flows.{Lines}
use Rattle.flow_shards.proofs.shards.Shards.new.Given as goal

-- a shard without lines for each worker so far
abbrev pub invariant-workers : goal.invariant-workers
invariant-workers l = ◌≡◌ {A = List Lines} l.tables.items (map (λ worker. []) (range_with_len 0 l.counter))
