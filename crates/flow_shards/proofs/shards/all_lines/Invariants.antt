use Rattle.std.proofs.Common.{◌≡◌}
use Rattle.std.specs.Map.{values_of}
use Rattle.flow_shards.specs.Sharding.{flat}
use Rattle.flow_shards.proofs.shards.all_lines.Given as goal

-- the lines of the shards so far
abbrev pub invariant-tables : goal.invariant-tables
invariant-tables l = l.lines.items ≡ values_of (flat l.yielded)
