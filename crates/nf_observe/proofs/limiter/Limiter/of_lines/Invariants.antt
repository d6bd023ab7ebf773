use Rattle.std.proofs.Common.{◌≡◌}
use Rattle.nf_observe.specs.Limiters.{limiter_by}
use Rattle.nf_observe.proofs.limiter.Limiter.of_lines.Given as goal

abbrev pub invariant-lines : goal.invariant-lines
invariant-lines l = l.limiter ≡ limiter_by l.yielded
