use Rattle.std.proofs.Common.{◌≡◌, take}
use Rattle.std.specs.Prelude.{◌-◌, ◌^◌, min}
use Rattle.graph_run.specs.Counting.{copies_in}
use Rattle.graph_run.proofs.copies.copies_in.Given as goal

abbrev pub invariant-loop-stage : goal.invariant-loop-stage
invariant-loop-stage l = l.made ≡ min (copies_in (take l.stage-index l.stages) l.field) (2 ^ 64 - 1)
