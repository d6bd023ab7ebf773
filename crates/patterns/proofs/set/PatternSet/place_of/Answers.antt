use Rattle.std.proofs.Common.{sym}
use Rattle.patterns.proofs.Sieving.{catches, same_sieve}
use Rattle.patterns.proofs.set.PatternSet.place_of.Goals as goal

pub first_of_groups-requires : goal.first_of_groups-requires
first_of_groups-requires c =
    let sieve = c.deref.result.now in
    let held = rw c.in-Some.is at c.self.invariant in
    catches sieve.width sieve.stride sieve.short sieve.table.items c.args.payload.now c.as_slice-patterns.result.now c.groups_in.result sieve.steps
    (same_sieve _ sieve c.self.inside.patterns c.as_slice-patterns.result.now (sym c.deref.ensures) (sym c.as_slice-patterns.ensures) held) c.groups_in.ensures
