use Rattle.std.proofs.Common.{ℕ, All}
use Rattle.std.specs.Vec.{vec_capacity}
use Rattle.std.specs.Vec.Iter.{into_iter_items}
use Rattle.packet_fields.specs.declared.field.Field.{Field}
use Rattle.node_run.specs.Firsts.{IsFirst}
use Rattle.node_run.specs.Nodes.{is_ready}
use Rattle.node_run.specs.Runs.{AreStarted}
use Rattle.node_run.specs.Starts.{crew_of}
use Rattle.node_run.proofs.run.start_all.Given as goal

abbrev pub invariant-loop-crew : goal.invariant-loop-crew
invariant-loop-crew g l =
    (goal.iterator-loop-crew g).can_next l.crew-iterator ×
    (goal.iterator-loop-crew g).is_finite l.crew-iterator ×
    AreStarted crew_of (All (is_ready g.F.BranchWork.kit g.F.BranchWork.may)) (vec_capacity l.started) l.fn.crews.items (into_iter_items l.crew-iterator) l.started.items ×
    ((copies : Field → ℕ) → IsFirst g.S.Supply.comes copies l.fn.first → IsFirst g.S.Supply.comes copies l.first)
