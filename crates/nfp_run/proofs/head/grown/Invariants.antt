use Rattle.std.proofs.Common.{◌≡◌, take}
use Rattle.std.specs.Prelude.{◌+◌, min}
use Rattle.std.specs.List.{sum_by}
use Rattle.nfp_run.specs.Heads.{growth_in}
use Rattle.nfp_run.proofs.head.grown.Given as goal

abbrev pub invariant-chains : goal.invariant-chains
invariant-chains l = l.grown ≡ min (l.fn.snaplen + sum_by (λ c. growth_in c.declared) (take l.chain-index l.chains)) 4294967295
