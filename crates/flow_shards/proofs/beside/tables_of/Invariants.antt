use Rattle.std.proofs.Common.{◌≡◌, map}
use Rattle.std.specs.Prelude.{Ok}
use Rattle.flow_shards.proofs.beside.tables_of.Given as goal

-- the shards so far
abbrev pub invariant-counted : goal.invariant-counted
invariant-counted l = map (λ table. Ok table) l.tables.items ≡ l.yielded
