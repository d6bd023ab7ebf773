use Rattle.std.proofs.Common.{◌≡◌, filter, take}
use Rattle.flow_shards.specs.Flows.{counted_all}
use Rattle.flow_shards.specs.Sharding.{is_own}
use Rattle.flow_shards.proofs.counting.count_own.Given as goal

-- the packets so far
abbrev pub invariant-sights : goal.invariant-sights
invariant-sights l = l.table ≡ counted_all l.fn.table (filter (is_own l.workers l.worker) (take l.sight-index l.sights))
