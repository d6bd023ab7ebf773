use Rattle.std.proofs.Common.{◌≡◌, []}
use Rattle.bench_program.proofs.versions.all_passed.Given as goal

abbrev pub invariant-loop-round : goal.invariant-loop-round
invariant-loop-round g l = l.arrivals.items ≡ []
