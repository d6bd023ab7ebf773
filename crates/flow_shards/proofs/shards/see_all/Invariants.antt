use Rattle.std.proofs.Common.{◌≡◌, take}
use Rattle.std.specs.Prelude.{All, filter_map}
use Rattle.flow_shards.specs.Flows.{sight_of}
use Rattle.flow_shards.specs.Sharding.{HasFittingFlow}
use Rattle.flow_shards.proofs.shards.see_all.Given as goal

-- what is seen of the packets so far
abbrev pub invariant-items : goal.invariant-items
invariant-items l = record {
  seen : l.sights.items ≡ filter_map (sight_of l.unit) (take l.item-index l.burst.items);
  fits : All HasFittingFlow l.sights.items;
}
