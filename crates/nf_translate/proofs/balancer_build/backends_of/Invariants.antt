use Rattle.std.proofs.Common.{◌≡◌}
use Rattle.std.specs.Prelude.{filter_map}
use Rattle.nf_translate.specs.BalancerLines.{backend_in}
use Rattle.nf_translate.proofs.balancer_build.backends_of.Given as goal

abbrev pub invariant-lines : goal.invariant-lines
invariant-lines l = l.backends ≡ filter_map backend_in l.yielded
