use Rattle.std.proofs.Common.{◌≡◌, take}
use Rattle.std.specs.Prelude.{◌+◌, min}
use Rattle.std.specs.List.{sum_by}
use Rattle.nfp_run.specs.Heads.{growth_by}
use Rattle.nfp_run.proofs.head.grown_by.Given as goal

abbrev pub invariant-functions : goal.invariant-functions
invariant-functions l = l.grown ≡ min (l.fn.snaplen + sum_by (λ f. growth_by f.kind) (take l.function-index l.functions)) 4294967295
