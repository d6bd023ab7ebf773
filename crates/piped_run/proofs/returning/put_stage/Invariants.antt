use Rattle.std.specs.Vec.Iter.{into_iter_items}
use Rattle.piped_run.proofs.PutBack.{PutStage}
use Rattle.piped_run.proofs.returning.put_stage.Given as goal

abbrev pub invariant-loop-functions : goal.invariant-loop-functions
invariant-loop-functions g l =
    (goal.iterator-loop-functions g).can_next l.functions-iterator ×
    (goal.iterator-loop-functions g).is_finite l.functions-iterator ×
    PutStage (λ v. v.items) l.fn.places l.places l.branches l.fn.own.items (into_iter_items l.functions-iterator) l.index
