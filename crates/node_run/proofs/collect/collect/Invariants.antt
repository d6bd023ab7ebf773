use Rattle.std.proofs.Common.{◌-◌, []}
use Rattle.std.specs.Vec.{vec_capacity}
use Rattle.node_run.specs.Runs.{Collects}
use Rattle.node_run.proofs.collect.collect.Given as goal

abbrev pub invariant-loop-packet : goal.invariant-loop-packet
invariant-loop-packet g l =
    ((all : _) × Collects g.S.Supply.comes (l.count - l._packet) (vec_capacity l.fates) l.fates.items l.source all) ×
    ((all : _) → Collects g.S.Supply.comes l.count l.count [] l.initial.source all → Collects g.S.Supply.comes (l.count - l._packet) (vec_capacity l.fates) l.fates.items l.source all)
